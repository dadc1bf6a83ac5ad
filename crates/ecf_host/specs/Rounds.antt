-- The rounds of a run. In each, up to MAX_ROUND transactions are read and run, and their receipts are written; the head of the journal stands
-- before the first round, and its tail behind the last.
use Rattle.std.specs.Prelude.{◌≡◌, ℕ, ◌+◌, ◌*◌, ◌≤◌, false, List, [], ◌++◌, length, Option, Some, None, All}
use Rattle.ecf_edge.specs.Sink.{Grew, GrewByPrefix}
use Rattle.ecf_edge.specs.Source.{Gave}
use Rattle.ecf_lang.specs.declared.limits.TheConstants.{MAX_LINE_BYTES, MAX_ROUND}
use Rattle.ecf_lang.specs.declared.receipt.Stop.{Stop}
use Rattle.ecf_lang.specs.declared.tx.Tx.{Tx}
use Rattle.ecf_lang.specs.declared.typed.Typed.{Typed}
use Rattle.ecf_lang.specs.Genesis.{genesis}
use Rattle.ecf_lines.specs.Stream.{StreamSaid, stream_said}
use Rattle.ecf_stream.specs.declared.stream_reader.TheConstants.{READ_BYTES}
use Rattle.ecf_stream.specs.StreamState.{IsPlain, whole_lines, EndsUnskipped}
use Rattle.ecf_texts.specs.Entries.{text_of_entries}
use Rattle.ecf_texts.specs.Journal.{head_text, tail_text}
use Rattle.ecf_verdicts.specs.Receipts.{serial}
use Rattle.ecf_host.specs.Serial.{entries_in_order}
use Rattle.ecf_host.specs.Stream.{IsStream}
use Rattle.ecf_host.specs.World.{SourceState}

-- ---- what is written

-- the first part of a journal: its head, and the receipts of transactions that run in their order
abbrev pub receipts_text : Typed → List Tx → List ℕ
receipts_text typed txs = head_text 2 ++ text_of_entries typed txs (entries_in_order typed txs) 0

-- the receipts of the latest transactions, which run behind the earlier ones
abbrev pub further_text : Typed → List Tx → List Tx → List ℕ
further_text typed earlier latest = text_of_entries typed (earlier ++ latest) (entries_in_order typed (earlier ++ latest)) (length earlier)

-- what stands behind the receipts
abbrev pub rest_text : Typed → StreamSaid → List ℕ
rest_text typed said = tail_text typed said.stop (serial typed said.txs).store

-- what is held grew by a whole text, and then by a first part of another
pub record GrewBehind (before : Option (List ℕ)) (whole text : List ℕ) (after : Option (List ℕ)) : Type 0 where
  pub between : Option (List ℕ)
  pub first : Grew before whole between
  pub part : GrewByPrefix between text after

-- ---- what was read

-- just these transactions, and where and why reading stopped, if it did
abbrev pub just : List Tx → Option Stop → StreamSaid
just txs stop = record { txs = txs; offs = []; stop = stop }

-- so many transactions fill rounds
abbrev pub FillRounds : List Tx → Type 0
FillRounds txs = (rounds : ℕ) × (length txs ≡ rounds * MAX_ROUND)

-- the source gave these lines, each ended by an LF and with none in it, and then some bytes
pub record HasGivenLines (before after : SourceState) (lines : List (List ℕ)) (behind : List ℕ) : Type 0 where
  pub unbroken : All IsPlain lines
  pub gave : Gave before.left (whole_lines lines ++ behind) after.left

-- Rounds were read: the first lines of the stream say just their transactions, with no stop. No read failed.
pub record HasReadRounds (typed : Typed) (before after : SourceState) (txs : List Tx) (lines : List (List ℕ)) (behind : List ℕ) : Type 0 where
  pub given : HasGivenLines before after lines behind
  pub say : stream_said typed false 0 (whole_lines lines) false ≡ just txs None
  pub no_fault : after.faults ≡ before.faults

-- no line is behind that of the stop
abbrev pub IsUpTo : Option Stop → List (List ℕ) → Type 0
IsUpTo None lines = Unit {0}
IsUpTo (Some stop) lines = length lines ≤ stop.line

-- The latest round dealt with the last of these lines. Where it isn't the last round of the stream it is full, and its last line says its
-- last transaction; else the stream came to its end or to a stop, behind which no line was dealt with.
pub data IsRead (typed : Typed) (before after : SourceState) (earlier latest : List Tx) (lines : List (List ℕ)) (behind : List ℕ) : Type 0 where
  goes_on : HasReadRounds typed before after (earlier ++ latest) lines behind → length latest ≡ MAX_ROUND → EndsUnskipped lines →
      IsRead typed before after earlier latest lines behind
  has_ended : (stop : Option Stop) → IsStream typed before after (just (earlier ++ latest) stop) → HasGivenLines before after lines behind → IsUpTo stop lines →
      IsRead typed before after earlier latest lines behind

-- ---- a write failed

-- In writing the receipts of a round: those of the rounds before it stand whole. No more of the source was read than the lines that these
-- rounds and this one dealt with, and what one read gives and a line.
pub record IsRoundCut (typed : Typed) (before after : SourceState) (held held' : Option (List ℕ)) : Type 0 where
  pub earlier : List Tx
  pub latest : List Tx
  pub lines : List (List ℕ)
  pub behind : List ℕ
  pub full : FillRounds earlier
  pub few : length latest ≤ MAX_ROUND
  pub read : IsRead typed before after earlier latest lines behind
  pub little : length behind ≤ READ_BYTES + MAX_LINE_BYTES
  pub out : GrewBehind held (receipts_text typed earlier) (further_text typed earlier latest) held'

-- In writing the tail: the stream was read, and all receipts stand whole.
pub record IsTailCut (typed : Typed) (before after : SourceState) (held held' : Option (List ℕ)) : Type 0 where
  pub said : StreamSaid
  pub stream : IsStream typed before after said
  pub out : GrewBehind held (receipts_text typed said.txs) (rest_text typed said) held'

-- what was being written of a journal when a write failed; before the head is written nothing is read
pub data IsCut (typed : Typed) (before after : SourceState) (held held' : Option (List ℕ)) : Type 0 where
  in_head : after ≡ before → GrewByPrefix held (head_text 2) held' → IsCut typed before after held held'
  in_round : IsRoundCut typed before after held held' → IsCut typed before after held held'
  in_tail : IsTailCut typed before after held held' → IsCut typed before after held held'

-- ---- memory ran out

-- whole rounds were read, and maybe more: of the receipts of these rounds a first part was written
pub record IsBegunOf (typed : Typed) (before after : SourceState) (held held' : Option (List ℕ)) : Type 0 where
  pub txs : List Tx
  pub lines : List (List ℕ)
  pub behind : List ℕ
  pub full : FillRounds txs
  pub read : HasReadRounds typed before after txs lines behind
  pub out : GrewByPrefix held (receipts_text typed txs) held'
