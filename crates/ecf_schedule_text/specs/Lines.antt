-- The text of a schedule: a line for each event and its reply, and the line of a stop of the events.
use Rattle.std.specs.Prelude.{ℕ, List, [], ◌++◌, slice_get, Option, Some, None, codes, decimal}
use Rattle.std.specs.List.{flat_map, zip}
use Rattle.std.specs.Option.{option_map_or}
use Rattle.ecf_core.specs.declared.book.RowState.{RowState}
use Rattle.ecf_core.specs.declared.book.RowState.TheVariants as row
use Rattle.ecf_core.specs.declared.event.Event.{Event}
use Rattle.ecf_core.specs.declared.event.Reply.{Reply}
use Rattle.ecf_core.specs.declared.event.Reply.TheVariants as reply
use Rattle.ecf_core.specs.Core.{actor_of}
use Rattle.ecf_events.specs.Spelled.{word_of}
use Rattle.ecf_lang.specs.declared.cell.Cell.{Cell}
use Rattle.ecf_lang.specs.declared.receipt.Stop.{Stop}
use Rattle.ecf_lang.specs.declared.tx.Tx.{Tx}
use Rattle.ecf_lang.specs.declared.typed.Typed.{Typed}
use Rattle.ecf_texts.specs.Cells.{cell_text}
use Rattle.ecf_texts.specs.Stops.{stop_word}
use Rattle.ecf_schedule_text.specs.declared.names.RowName.{RowName}
use Rattle.ecf_schedule_text.specs.Names.{row_names}

-- ---- events

-- an actor behind a space; nobody is no bytes
abbrev pub actor_text : Option ℕ → List ℕ
actor_text None = []
actor_text (Some actor) = codes " " ++ decimal actor

-- an event: its word and its actor
abbrev pub event_text : Event → List ℕ
event_text e = word_of e ++ actor_text (actor_of e)

-- ---- what a reply names

-- a row's name: the submitter, and the number among the submitter's rows
abbrev pub name_text : RowName → List ℕ
name_text name = decimal name.submitter ++ codes "." ++ decimal name.number

-- the name of a row
abbrev pub row_text : List RowName → ℕ → List ℕ
row_text names r = option_map_or name_text (slice_get names r) []

-- a cell, the value that was read and the value that it has
abbrev pub change_text : Typed → Cell → ℕ → ℕ → List ℕ
change_text typed cell was now = codes " " ++ cell_text typed cell ++ codes " was " ++ decimal was ++ codes " is " ++ decimal now

-- how a row stands
abbrev pub state_text : RowState → List ℕ
state_text (row.Free claims) = codes " free"
state_text (row.Claimed ticket claims stales) = codes " claimed " ++ decimal ticket
state_text (row.Done seq) = codes " done " ++ decimal seq

-- what a reply names behind its word
abbrev pub named_text : Typed → List RowName → Reply → List ℕ
named_text typed names (reply.Work r) = codes " " ++ row_text names r
named_text typed names (reply.Took r) = codes " " ++ row_text names r
named_text typed names (reply.Placed seq) = codes " " ++ decimal seq
named_text typed names (reply.Stale cell was now) = change_text typed cell was now
named_text typed names (reply.LastStale cell was now) = change_text typed cell was now
named_text typed names (reply.Gone kept) = state_text kept
named_text typed names (reply.Reclaimed rows) = codes " " ++ decimal rows
named_text typed names other = []

-- ---- replies

-- the word of a reply
abbrev pub reply_word : Reply → List ℕ
reply_word (reply.Work r) = codes "work"
reply_word reply.Later = codes "later"
reply_word reply.Over = codes "over"
reply_word reply.Ran = codes "ran"
reply_word reply.Handed = codes "handed"
reply_word reply.Full = codes "full"
reply_word (reply.Took r) = codes "took"
reply_word reply.Empty = codes "empty"
reply_word reply.Judged = codes "judged"
reply_word (reply.Placed seq) = codes "placed"
reply_word (reply.Stale cell was now) = codes "stale"
reply_word (reply.LastStale cell was now) = codes "laststale"
reply_word (reply.Gone kept) = codes "gone"
reply_word reply.Freed = codes "freed"
reply_word reply.Lost = codes "lost"
reply_word (reply.Reclaimed rows) = codes "reclaimed"
reply_word reply.Refused = codes "refused"

-- a reply: its word and what it names
abbrev pub reply_text : Typed → List RowName → Reply → List ℕ
reply_text typed names r = reply_word r ++ named_text typed names r

-- ---- lines

-- the line of an event and its reply
abbrev pub line_of_reply : Typed → List RowName → Event → Reply → List ℕ
line_of_reply typed names e r = event_text e ++ codes " -> " ++ reply_text typed names r ++ codes "\n"

-- the lines of events and their replies, in their order
abbrev pub lines_by_names : Typed → List RowName → List Event → List Reply → List ℕ
lines_by_names typed names events replies = flat_map (λ p. line_of_reply typed names p.0 p.1) (zip events replies)

-- the same, by the transactions of the rows
abbrev pub lines_of_replies : Typed → List Tx → List Event → List Reply → List ℕ
lines_of_replies typed txs events replies = lines_by_names typed (row_names txs) events replies

-- the line that says where and why reading the events stopped, where it did
abbrev pub events_stop_line : Option Stop → List ℕ
events_stop_line None = []
events_stop_line (Some stop) = codes "stop events " ++ decimal stop.line ++ codes " " ++ stop_word stop.cause ++ codes "\n"
