-- A run among its rounds: what it holds between them, and what came of a round and of the whole.
use Rattle.std.specs.Prelude.{◌≡◌, ◌≤◌, ◌⊎◌, ℕ, ◌+◌, true, false, not, List, ◌++◌, length, All, OnOk, Option, None, Result, Ok, Err}
use Rattle.ecf_book.specs.Recorded.{Recorded, state_of}
use Rattle.ecf_core.specs.Book.{is_done}
use Rattle.ecf_edge.specs.Count.{counted_up}
use Rattle.ecf_edge.specs.Sink.{Grew, GrewByPrefix, faults_after_write}
use Rattle.ecf_edge.specs.Source.{GaveSome}
use Rattle.ecf_edge.specs.declared.sink.WriteFault.{WriteFault}
use Rattle.ecf_edge.specs.declared.sink.WriteFault.TheVariants as write
use Rattle.ecf_lang.specs.declared.limits.TheConstants.{MAX_LINE_BYTES, MAX_ROUND, MAX_STREAM_BYTES, MAX_TRANSACTIONS}
use Rattle.ecf_lang.specs.declared.receipt.Stop.{Stop}
use Rattle.ecf_lang.specs.declared.tx.Tx.{Tx}
use Rattle.ecf_lang.specs.declared.typed.Typed.{Typed}
use Rattle.ecf_receipts.specs.Numbers.{CountsEntries}
use Rattle.ecf_stream.specs.declared.stream_reader.Stage.TheVariants as stage
use Rattle.ecf_stream.specs.declared.stream_reader.TheConstants.{READ_BYTES}
use Rattle.ecf_stream.specs.StreamState.{StreamState, held_of, place_of, with_part, Reads, IsPart}
use Rattle.ecf_verdicts.specs.Journals.{places}
use Rattle.ecf_host.specs.declared.rounds.Run.{Run}
use Rattle.ecf_host.specs.declared.rounds.RoundEnd.{RoundEnd}
use Rattle.ecf_host.specs.Rounds.{receipts_text, further_text, rest_text, just, IsCut, IsBegunOf}
use Rattle.ecf_host.specs.Serial.{entries_in_order}
use Rattle.ecf_host.specs.Stream.{IsStream}
use Rattle.ecf_host.specs.World.{SinkState, SourceState}

-- ---- between rounds

-- each transaction of the book has its receipt, in the order of the rows
pub record IsInOrder (typed : Typed) (book : Recorded) : Type 0 where
  pub typed_is : book.setup.typed ≡ typed
  pub journal : (state_of book).journal ≡ places book.setup.txs
  pub done : All (λ row. is_done row ≡ true) (state_of book).rows
  pub as_many : length (state_of book).rows ≡ length book.setup.txs

-- the reader goes on, and what it has given is in the book, with all receipts counted
pub record IsReady (typed : Typed) (run : Run) : Type 0 where
  pub going : run.reader.stage ≡ stage.Reading
  pub controls : run.reader.controls ≡ false
  pub as_many : run.reader.txs ≡ length run.book.setup.txs
  pub in_order : IsInOrder typed run.book
  pub counted : CountsEntries run.book.setup.txs (entries_in_order typed run.book.setup.txs) run.numbers.counts

-- ---- a text is put

-- a text was put on a sink: whole, or a first part of it up to a fault
pub record IsPutTo (before after : SinkState) (text : List ℕ) (result : Result (Unit {0}) WriteFault) : Type 0 where
  pub all : OnOk result (Grew before.held text after.held)
  pub part : GrewByPrefix before.held text after.held
  pub counted : after.faults ≡ faults_after_write before.faults result

-- ---- a round

-- what a round read of the stream, and how far the reader has come
pub record IsRoundRead (typed : Typed) (old new : StreamState) (before after : SourceState) (latest : List Tx) (end : RoundEnd) : Type 0 where
  pub reads : Reads typed old new before.left after.left before.faults after.faults (with_part latest old.txs None) (not end.ended)
  pub part : IsPart MAX_ROUND (length latest) end.ended end.stop None new.stage
  pub controls : new.controls ≡ old.controls
  pub counts : new.txs ≡ old.txs + length latest
  pub few : new.txs ≤ MAX_TRANSACTIONS
  pub little : length (held_of new) ≤ READ_BYTES + MAX_LINE_BYTES
  pub within : (place_of new).bytes ≤ MAX_STREAM_BYTES

-- a round was read and run, and its receipts were written
pub record IsRoundDone (typed : Typed) (old new : Run) (before after : SourceState) (held held' : Option (List ℕ)) (end : RoundEnd) : Type 0 where
  pub latest : List Tx
  pub read : IsRoundRead typed old.reader new.reader before after latest end
  pub txs : new.book.setup.txs ≡ old.book.setup.txs ++ latest
  pub in_order : IsInOrder typed new.book
  pub counted : CountsEntries new.book.setup.txs (entries_in_order typed new.book.setup.txs) new.numbers.counts
  pub wrote : Grew held (further_text typed old.book.setup.txs latest) held'

-- a round was read, and of its receipts a first part was written
pub record IsRoundBegun (typed : Typed) (old new : Run) (before after : SourceState) (held held' : Option (List ℕ)) : Type 0 where
  pub latest : List Tx
  pub end : RoundEnd
  pub read : IsRoundRead typed old.reader new.reader before after latest end
  pub wrote : GrewByPrefix held (further_text typed old.book.setup.txs latest) held'

-- memory ran out while a round was read, in which no read failed
pub record IsRoundLost (before after : SourceState) (held held' : Option (List ℕ)) : Type 0 where
  pub gave : GaveSome before.left after.left
  pub no_fault : after.faults ≡ before.faults
  pub stands : held' ≡ held

-- what came of a round
abbrev pub HasRound : Typed → Run → Run → SourceState → SourceState → SinkState → SinkState → Result RoundEnd WriteFault → Type 0
HasRound typed old new before after out out' (Ok end) = IsRoundDone typed old new before after out.held out'.held end × (out'.faults ≡ out.faults)
HasRound typed old new before after out out' (Err write.Failed) = IsRoundBegun typed old new before after out.held out'.held × (out'.faults ≡ counted_up out.faults)
HasRound typed old new before after out out' (Err write.NoMemory) =
    (IsRoundBegun typed old new before after out.held out'.held ⊎ IsRoundLost before after out.held out'.held) × (out'.faults ≡ out.faults)

-- ---- the whole

-- the stream was read up to this stop, and its journal written
pub record IsJournalDone (typed : Typed) (before after : SourceState) (held held' : Option (List ℕ)) (stop : Option Stop) : Type 0 where
  pub txs : List Tx
  pub stream : IsStream typed before after (just txs stop)
  pub wrote : Grew held (receipts_text typed txs ++ rest_text typed (just txs stop)) held'

-- the stream was read, and its journal begun
pub record IsEndBegun (typed : Typed) (before after : SourceState) (held held' : Option (List ℕ)) : Type 0 where
  pub txs : List Tx
  pub stop : Option Stop
  pub stream : IsStream typed before after (just txs stop)
  pub wrote : GrewByPrefix held (receipts_text typed txs ++ rest_text typed (just txs stop)) held'

-- what came of all rounds
abbrev pub HasRun : Typed → SourceState → SourceState → SinkState → SinkState → Result (Option Stop) WriteFault → Type 0
HasRun typed before after out out' (Ok stop) = IsJournalDone typed before after out.held out'.held stop × (out'.faults ≡ out.faults)
HasRun typed before after out out' (Err write.Failed) = IsCut typed before after out.held out'.held × (out'.faults ≡ counted_up out.faults)
HasRun typed before after out out' (Err write.NoMemory) =
    (IsBegunOf typed before after out.held out'.held ⊎ IsEndBegun typed before after out.held out'.held) × (out'.faults ≡ out.faults)
