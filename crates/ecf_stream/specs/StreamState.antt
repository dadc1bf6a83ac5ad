-- What a reader of a stream is to give yet, and what a call of it read.
use Rattle.std.specs.Prelude.{◌≡◌, ℕ, ◌+◌, ◌-◌, ◌<◌, ◌≤◌, Bool, true, false, if◌then◌else◌, List, [], ◌∷◌, ◌++◌, length, drop, Option, Some, None, Ok, Err, All}
use Rattle.ecf_edge.specs.Count.{counted_up}
use Rattle.ecf_edge.specs.Source.{Gave, IsAtEnd}
use Rattle.ecf_lang.specs.declared.limits.TheConstants.{MAX_LINE_BYTES, MAX_STREAM_BYTES, MAX_TRANSACTIONS}
use Rattle.ecf_lang.specs.declared.receipt.Stop.{Stop}
use Rattle.ecf_lang.specs.declared.receipt.StopCause.{StopCause}
use Rattle.ecf_lang.specs.declared.receipt.StopCause.TheVariants.{Long, Bytes, Read}
use Rattle.ecf_lang.specs.declared.tx.Tx.{Tx}
use Rattle.ecf_lang.specs.declared.typed.Typed.{Typed}
use Rattle.std.specs.List.{flat_map}
use Rattle.std.specs.Str.Lines.{strip_carriage_return}
use Rattle.ecf_lines.specs.declared.saying.Saying.{Saying}
use Rattle.ecf_lines.specs.declared.saying.Saying.TheVariants.{Nothing, TakesOut}
use Rattle.ecf_lines.specs.Line.{Reading, is_skipped}
use Rattle.ecf_lines.specs.Stream.{Place, Off, StreamSaid, nothing_said, is_lf, lines_of, txs_with, saying_of, said_from}
use Rattle.ecf_stream.specs.declared.stream_reader.Stage.{Stage}
use Rattle.ecf_stream.specs.declared.stream_reader.Stage.TheVariants as stage
use Rattle.ecf_stream.specs.declared.stream_reader.TheConstants.{READ_BYTES}
use Rattle.ecf_stream.specs.declared.stream_reader.Reach.{Reach}
use Rattle.ecf_stream.specs.declared.stream_reader.Reach.TheVariants as reach
use Rattle.ecf_stream.specs.declared.stream_reader.Next.{Next}
use Rattle.ecf_stream.specs.declared.stream_reader.Next.TheVariants as next
use Rattle.ecf_stream.specs.declared.line_reader.Fed.{Fed}
use Rattle.ecf_stream.specs.declared.line_reader.Fed.TheVariants as fed
use Rattle.ecf_stream.specs.LineState.{LineState, first_line, opened, state_after, IsWithin}

-- a reader: whether it reads control lines, the line at hand, the bytes read and not looked at yet, the transactions so far, and how
-- far it has come
pub record StreamState : Type 0 where
  pub controls : Bool
  pub lines : LineState
  pub rest : List ℕ
  pub txs : ℕ
  pub stage : Stage

-- what holds of each reader
pub record IsSound (s : StreamState) : Type 0 where
  pub within : IsWithin s.lines
  pub most_line : s.lines.most_line ≡ MAX_LINE_BYTES
  pub most_bytes : s.lines.most_bytes ≡ MAX_STREAM_BYTES
  pub rest : length s.rest ≤ READ_BYTES
  pub txs : s.txs ≤ MAX_TRANSACTIONS
  pub over : s.stage ≡ stage.Reading → s.lines.over ≡ None

-- before the first byte, after so many transactions
abbrev pub first_state : Bool → ℕ → StreamState
first_state controls have =
    record { controls = controls; lines = first_line MAX_LINE_BYTES MAX_STREAM_BYTES; rest = []; txs = have; stage = stage.Reading }

-- where the next line begins
abbrev pub place_of : StreamState → Place
place_of s = record { lines = (opened s.lines).lines; bytes = (opened s.lines).bytes; txs = s.txs }

-- what was read from there on
abbrev pub held_of : StreamState → List ℕ
held_of s = (opened s.lines).line ++ s.rest

-- a stop at the line at hand
abbrev pub stop_at : LineState → StopCause → Stop
stop_at lines cause = record { line = lines.lines + 1; cause = cause }

-- the reader stopped at a line
abbrev pub stopped_at : StreamState → LineState → StopCause → StreamState
stopped_at s lines cause = record s { stage = stage.Ended (Some (stop_at lines cause)) }

-- the reader once the line at hand said this, behind which the stream may have ended
abbrev pub state_behind : StreamState → Saying → Bool → StreamState
state_behind s saying is_last = record s { txs = txs_with saying s.txs; stage = if is_last then stage.Ended None else s.stage }

-- the reader once the line at hand was fed with what is left of the bytes read
abbrev pub state_fed : StreamState → Fed → StreamState
state_fed s fed.More = record s { lines = state_after s.lines s.rest; rest = [] }
state_fed s (fed.Line taken) = record s { lines = state_after s.lines s.rest; rest = drop taken s.rest }
state_fed s (fed.Long taken) = stopped_at (record s { lines = state_after s.lines s.rest }) (state_after s.lines s.rest) Long
state_fed s (fed.Bytes taken) = stopped_at (record s { lines = state_after s.lines s.rest }) (state_after s.lines s.rest) Bytes

-- the reader reads on
abbrev pub is_reading : Stage → Bool
is_reading stage.Reading = true
is_reading (stage.Ended stop) = false
is_reading stage.OutOfMemory = false

-- the stream has ended
abbrev pub IsEnded : Stage → Type 0
IsEnded (stage.Ended stop) = Unit {0}
IsEnded other = ⊥

-- memory didn't run out
abbrev pub IsFine : Stage → Type 0
IsFine stage.OutOfMemory = ⊥
IsFine other = Unit {0}

-- more lines than that don't come
abbrev pub lines_at : Stage → StreamState → ℕ
lines_at stage.Reading s = MAX_STREAM_BYTES + 1 - (place_of s).bytes
lines_at other s = 0

-- more lines than that don't come of a reader
abbrev pub lines_to_come : StreamState → ℕ
lines_to_come s = lines_at s.stage s

-- nothing but this stop
abbrev pub only_stop : Option Stop → StreamSaid
only_stop stop = record { txs = []; offs = []; stop = stop }

-- what a reader at that stage is to give yet
abbrev pub given_at : Stage → Typed → StreamState → List ℕ → Bool → StreamSaid
given_at stage.Reading typed s bytes failed = said_from typed s.controls (place_of s) (lines_of (held_of s ++ bytes)) failed
given_at (stage.Ended stop) typed s bytes failed = only_stop stop
given_at stage.OutOfMemory typed s bytes failed = nothing_said

-- what a reader is to give yet, from the bytes to come and from whether a read fails after them
abbrev pub given_yet : Typed → StreamState → List ℕ → Bool → StreamSaid
given_yet typed s bytes failed = given_at s.stage typed s bytes failed

-- what may come of the stream then: anything, or nothing
abbrev pub MayFollow : Reach → List ℕ → Bool → Type 0
MayFollow reach.Open more failed = Unit {0}
MayFollow reach.AtEnd more failed = (more ≡ []) × (failed ≡ false)
MayFollow reach.Failed more failed = (more ≡ []) × (failed ≡ true)

-- what a reader has to look at then
abbrev pub rest_at : Reach → List ℕ → Type 0
rest_at reach.Open rest = 0 < length rest
rest_at other rest = rest ≡ []

-- how far the source was read where this cause stopped the reading, at a line that an LF ended or not
abbrev pub reach_by : StopCause → Bool → Reach
reach_by Read is_whole = reach.Failed
reach_by Long is_whole = reach.Open
reach_by Bytes is_whole = reach.Open
reach_by other is_whole = if is_whole then reach.Open else reach.AtEnd

-- how far the source was read at a stage, where the line at hand is whole or not
abbrev pub reach_at : Stage → Bool → Reach
reach_at (stage.Ended None) is_whole = reach.AtEnd
reach_at (stage.Ended (Some stop)) is_whole = reach_by stop.cause is_whole
reach_at other is_whole = reach.Open

-- how far a reader has read its source
abbrev pub reach_of : StreamState → Reach
reach_of s = reach_at s.stage s.lines.is_whole

-- how many reads have failed then
abbrev pub faults_at : Reach → ℕ → ℕ
faults_at reach.Open faults = faults
faults_at reach.AtEnd faults = faults
faults_at reach.Failed faults = counted_up faults

-- nothing is left of the source then, where it tells it
abbrev pub left_at : Reach → Option (List ℕ) → Type 0
left_at reach.AtEnd left = IsAtEnd left
left_at other left = Unit {0}

-- there is no LF in the line
abbrev pub IsPlain : List ℕ → Type 0
IsPlain line = All (λ byte. is_lf byte ≡ false) line

-- lines, each with the LF that ended it
abbrev pub whole_lines : List (List ℕ) → List ℕ
whole_lines lines = flat_map (λ line. line ++ 10 ∷ []) lines

-- the last of the lines isn't skipped: it says a transaction, a control line or a stop
pub record EndsUnskipped (lines : List (List ℕ)) : Type 0 where
  pub front : List (List ℕ)
  pub line : List ℕ
  pub are : lines ≡ front ++ line ∷ []
  pub unskipped : is_skipped (strip_carriage_return line) ≡ false

-- so many lines were read, and none behind that of a stop
abbrev pub IsUpToStop : Stage → ℕ → Type 0
IsUpToStop (stage.Ended (Some stop)) lines = lines ≤ stop.line
IsUpToStop other lines = Unit {0}

-- Whole lines were dealt with, none of which has an LF in it: all that was held or came, but for what is held now. Where reading goes on,
-- they give what the call gave.
pub record Deals (typed : Typed) (old new : StreamState) (piece : List ℕ) (gives : StreamSaid → StreamSaid) (lines : List (List ℕ)) : Type 0 where
  pub kept : held_of old ++ piece ≡ whole_lines lines ++ held_of new
  pub unbroken : All IsPlain lines
  pub count : (place_of new).lines ≡ (place_of old).lines + length lines
  pub up_to_stop : old.stage ≡ stage.Reading → IsUpToStop new.stage (place_of new).lines
  pub say : new.stage ≡ stage.Reading → (more : List ℕ) (failed : Bool) →
      said_from typed old.controls (place_of old) (lines_of (whole_lines lines ++ more)) failed ≡ gives (said_from typed new.controls (place_of new) (lines_of more) failed)

-- A call read a piece, came so far, and dealt with lines; where it is settled that one that isn't skipped came last, it did. What the
-- call gave and what the reader gives from then on is what it was to give, whatever comes of the stream behind the piece.
pub record Reads (typed : Typed) (old new : StreamState) (left left' : Option (List ℕ)) (faults faults' : ℕ) (gives : StreamSaid → StreamSaid) (settled : Bool) : Type 0 where
  pub piece : List ℕ
  pub far : Reach
  pub lines : List (List ℕ)
  pub gave : Gave left piece left'
  pub end : left_at far left'
  pub counted : faults' ≡ faults_at far faults
  pub reached : old.stage ≡ stage.Reading → far ≡ reach_of new
  pub deals : Deals typed old new piece gives lines
  pub last : settled ≡ true → new.stage ≡ stage.Reading → EndsUnskipped lines
  pub said : (more : List ℕ) (failed : Bool) → MayFollow far more failed → given_yet typed old (piece ++ more) failed ≡ gives (given_yet typed new more failed)

-- these transactions, and then the rest
abbrev pub with_txs : List Tx → StreamSaid → StreamSaid
with_txs txs rest = record { txs = txs ++ rest.txs; offs = rest.offs; stop = rest.stop }

-- these transactions, the watch that is taken out behind them, if there is one, and then the rest
abbrev pub with_part : List Tx → ℕ → Option ℕ → StreamSaid → StreamSaid
with_part txs before None rest = with_txs txs rest
with_part txs before (Some watch) rest = with_txs txs (record { txs = rest.txs; offs = record { watch = watch; after = before + length txs } ∷ rest.offs; stop = rest.stop })

-- what a part says of itself, of which so many transactions were asked and so many came
pub record IsPart (most count : ℕ) (ended : Bool) (stop : Option Stop) (off : Option ℕ) (at : Stage) : Type 0 where
  pub few : count ≤ most
  pub fine : IsFine at
  pub at_end : ended ≡ true → at ≡ stage.Ended stop
  pub no_off : ended ≡ true → off ≡ None
  pub no_stop : ended ≡ false → stop ≡ None
  pub full : ended ≡ false → off ≡ None → (count ≡ most) × (at ≡ stage.Reading)

-- a reader at the end of a line: behind the lines and bytes that were before, with the bytes of the line and those read behind it
abbrev pub at_line : StreamState → List ℕ → List ℕ → Bool → StreamState
at_line old line rest is_whole = record {
  controls = old.controls;
  lines = record {
    most_line = MAX_LINE_BYTES;
    most_bytes = MAX_STREAM_BYTES;
    lines = (place_of old).lines;
    bytes = (place_of old).bytes;
    line = line;
    is_whole = is_whole;
    over = None;
  };
  rest = rest;
  txs = old.txs;
  stage = stage.Reading;
}

-- a line was read, whole or the last one
pub record HasLine (old new : StreamState) (w : List ℕ) (is_whole : Bool) : Type 0 where
  pub line : List ℕ
  pub rest : List ℕ
  pub is : new ≡ at_line old line rest is_whole
  pub within : IsWithin (at_line old line rest is_whole).lines
  pub bytes_are : w ≡ line ++ (if is_whole then 10 ∷ rest else [])
  pub no_rest : is_whole ≡ false → rest ≡ []

-- reading stopped: whatever comes of the stream, the stop is what was to be given
pub record HasStop (far : Reach) (old new : StreamState) (w : List ℕ) : Type 0 where
  pub stops : (typed : Typed) (more : List ℕ) (failed : Bool) → MayFollow far more failed →
      said_from typed old.controls (place_of old) (lines_of (w ++ more)) failed ≡ given_yet typed new more failed
  pub ended : is_reading new.stage ≡ false
  pub fine : IsFine new.stage
  pub txs : new.txs ≡ old.txs
  pub controls : new.controls ≡ old.controls
  pub reached : far ≡ reach_of new
  pub kept : w ≡ held_of new
  pub lines : (place_of new).lines ≡ (place_of old).lines
  pub up_to_stop : IsUpToStop new.stage (place_of new).lines

-- the next line, the last one or a stop
abbrev pub Comes : Next → Reach → StreamState → StreamState → List ℕ → Type 0
Comes next.Line far old new w = HasLine old new w true × (far ≡ reach.Open)
Comes next.Last far old new w = HasLine old new w false × (far ≡ reach.AtEnd)
Comes next.Stop far old new w = HasStop far old new w

-- a piece was read, and with it the next line, the last one or a stop
pub record HasNext (next : Next) (old new : StreamState) (left left' : Option (List ℕ)) (faults faults' : ℕ) : Type 0 where
  pub piece : List ℕ
  pub far : Reach
  pub gave : Gave left piece left'
  pub end : left_at far left'
  pub counted : faults' ≡ faults_at far faults
  pub comes : Comes next far old new (held_of old ++ piece)

-- what the line at hand said, or nothing where it stopped the reading
abbrev pub HasSaidBy : Reading Saying → StreamState → StreamState → Bool → Saying → Type 0
HasSaidBy (Ok said) old new is_last saying = (saying ≡ said) × (new ≡ state_behind old said is_last)
HasSaidBy (Err cause) old new is_last saying = (saying ≡ Nothing) × (new ≡ stopped_at old old.lines cause)

-- the same by the line
abbrev pub HasSaid : Typed → StreamState → StreamState → Bool → Saying → Type 0
HasSaid typed old new is_last saying = HasSaidBy (saying_of typed old.controls old.txs (strip_carriage_return old.lines.line)) old new is_last saying

-- the line says something
abbrev pub is_said : Saying → Bool
is_said Nothing = false
is_said other = true

-- the line is a control line
abbrev pub takes_out : Saying → Bool
takes_out (TakesOut watch) = true
takes_out other = false

-- a line that says something came without a failed read
abbrev pub NoFault : Saying → ℕ → ℕ → Type 0
NoFault Nothing faults faults' = Unit {0}
NoFault other faults faults' = faults' ≡ faults
