-- What a stream says: the transactions and the control lines up to the first stop, and that stop. It is said of the bytes, and of
-- whether a read failed after them, whether control lines are read, and how many transactions there were before.
use Rattle.std.specs.Prelude.{ℕ, ◌+◌, ◌==◌, Bool, true, false, ◌&&◌, nat_lt, nat_le, if◌then◌else◌, List, [], ◌∷◌, length, codes, Option, Some, None, Ok, Err}
use Rattle.std.specs.List.{slice_split}
use Rattle.std.specs.Str.{bytes_eq}
use Rattle.std.specs.Str.Lines.{strip_carriage_return}
use Rattle.ecf_decimal.specs.Decimal.{is_numeral, number_value}
use Rattle.ecf_lang.specs.declared.typed.Typed.{Typed}
use Rattle.ecf_lang.specs.declared.tx.Tx.{Tx}
use Rattle.ecf_lang.specs.declared.receipt.Stop.{Stop}
use Rattle.ecf_lang.specs.declared.receipt.StopCause.{StopCause}
use Rattle.ecf_lang.specs.declared.receipt.StopCause.TheVariants.{Long, Many, Bytes, Read}
use Rattle.ecf_lang.specs.declared.limits.TheConstants.{MAX_LINE_BYTES, MAX_STREAM_BYTES, MAX_TRANSACTIONS}
use Rattle.ecf_lines.specs.declared.saying.Saying.{Saying}
use Rattle.ecf_lines.specs.declared.saying.Saying.TheVariants.{Nothing, Asks, TakesOut}
use Rattle.ecf_lines.specs.Line.{Reading, ◌>>=◌, words, is_skipped, tx_of_words}

-- ---- lines

-- LF, which ends a line
abbrev pub is_lf : ℕ → Bool
is_lf byte = byte == 10

-- the lines of bytes: those that an LF ended, and last what stands behind the last LF, which may be nothing
abbrev pub lines_of : List ℕ → List (List ℕ)
lines_of bytes = slice_split is_lf bytes

-- how many bytes a line has, with its LF if one ended it
abbrev pub bytes_of_line : Bool → List ℕ → ℕ
bytes_of_line ended line = length line + (if ended then 1 else 0)

-- The limit that a line passes, with so many bytes of the stream before it. The byte at fault is the one after as many as a line may
-- have, or the one after as many as a stream may have, whichever comes first; where one byte is both, the line is too long.
abbrev pub limit_passed : ℕ → ℕ → ℕ → Bool → List ℕ → Option StopCause
limit_passed most_of_line most_of_stream before ended line =
    if nat_lt most_of_line (length line) && nat_le (before + most_of_line) most_of_stream then Some Long
    else if nat_lt most_of_stream (before + bytes_of_line ended line) then Some Bytes
    else None

-- ---- what a line says

-- the number of one or two digits behind `@off`
abbrev pub watch_of_words : List (List ℕ) → Option ℕ
watch_of_words (command ∷ number ∷ []) =
    if bytes_eq command (codes "@off") && is_numeral number && nat_le (length number) 2 then Some (number_value number) else None
watch_of_words other = None

-- the watch that words take out, where control lines are read and they are one
abbrev pub watch_of : Bool → List (List ℕ) → Option ℕ
watch_of false words = None
watch_of true words = watch_of_words words

-- what a line says that is neither skipped nor a control line, after so many transactions: there may be no more than MAX_TRANSACTIONS
abbrev pub request_of : Typed → ℕ → List ℕ → Reading Saying
request_of typed txs line = if nat_lt txs MAX_TRANSACTIONS then (tx_of_words typed (words line) >>= (λ tx. Ok (Asks tx))) else Err Many

-- a line that takes out a watch says so, and another one what it says otherwise
abbrev pub control_or : Option ℕ → Reading Saying → Reading Saying
control_or None otherwise = otherwise
control_or (Some watch) otherwise = Ok (TakesOut watch)

-- what a line says after so many transactions
abbrev pub saying_of : Typed → Bool → ℕ → List ℕ → Reading Saying
saying_of typed controls txs line = if is_skipped line then Ok Nothing else control_or (watch_of controls (words line)) (request_of typed txs line)

-- a line that passes a limit isn't looked at
abbrev pub unless_passed : Option StopCause → Reading Saying → Reading Saying
unless_passed None reading = reading
unless_passed (Some cause) reading = Err cause

-- ---- what a stream says

-- how far a stream has been read: the lines, the bytes and the transactions before
pub record Place : Type 0 where
  pub lines : ℕ
  pub bytes : ℕ
  pub txs : ℕ

-- what a line says at a place, without the one CR at its end
abbrev pub saying_at : Typed → Bool → Place → Bool → List ℕ → Reading Saying
saying_at typed controls at ended line =
    unless_passed (limit_passed MAX_LINE_BYTES MAX_STREAM_BYTES at.bytes ended line) (saying_of typed controls at.txs (strip_carriage_return line))

-- what the last line says, which no LF ended: where a read failed behind it, it isn't whole
abbrev pub last_saying_at : Typed → Bool → Place → Bool → List ℕ → Reading Saying
last_saying_at typed controls at false line = saying_at typed controls at false line
last_saying_at typed controls at true line = unless_passed (limit_passed MAX_LINE_BYTES MAX_STREAM_BYTES at.bytes false line) (Err Read)

-- how many transactions there are with what a line says
abbrev pub txs_with : Saying → ℕ → ℕ
txs_with (Asks tx) txs = txs + 1
txs_with other txs = txs

-- the place behind a line that an LF ended and that says this
abbrev pub place_behind : Place → List ℕ → Saying → Place
place_behind at line saying = record { lines = at.lines + 1; bytes = at.bytes + bytes_of_line true line; txs = txs_with saying at.txs }

-- a watch that is taken out, and how many transactions stand before
pub record Off : Type 0 where
  pub watch : ℕ
  pub after : ℕ

-- what lines say: transactions and offs up to the first stop, and that stop
pub record StreamSaid : Type 0 where
  pub txs : List Tx
  pub offs : List Off
  pub stop : Option Stop

-- nothing, and no stop
abbrev pub nothing_said : StreamSaid
nothing_said = record { txs = []; offs = []; stop = None }

-- what a line says after so many transactions, and then what the rest says
abbrev pub said_first : Saying → ℕ → StreamSaid → StreamSaid
said_first Nothing txs rest = rest
said_first (Asks tx) txs rest = record { txs = tx ∷ rest.txs; offs = rest.offs; stop = rest.stop }
said_first (TakesOut watch) txs rest = record { txs = rest.txs; offs = record { watch = watch; after = txs } ∷ rest.offs; stop = rest.stop }

-- a line that stops the reading ends what is said, and behind another one comes the rest
abbrev pub said_with : Place → Reading Saying → (Saying → StreamSaid) → StreamSaid
said_with at (Err cause) rest = record { txs = []; offs = []; stop = Some (record { line = at.lines + 1; cause = cause }) }
said_with at (Ok saying) rest = said_first saying at.txs (rest saying)

-- what lines say from a place on
unfoldable pub said_from : Typed → Bool → Place → List (List ℕ) → Bool → StreamSaid
said_from typed controls at [] failed = nothing_said
said_from typed controls at (last ∷ []) failed = said_with at (last_saying_at typed controls at failed last) (λ saying. nothing_said)
said_from typed controls at (line ∷ next ∷ more) failed =
    said_with at (saying_at typed controls at true line) (λ saying. said_from typed controls (place_behind at line saying) (next ∷ more) failed)

-- the place before the first line, after so many transactions
abbrev pub start_after : ℕ → Place
start_after have = record { lines = 0; bytes = 0; txs = have }

-- what a stream says: its contract, whether control lines are read, how many transactions there were before, its bytes, and whether a
-- read failed after them
abbrev pub stream_said : Typed → Bool → ℕ → List ℕ → Bool → StreamSaid
stream_said typed controls have bytes failed = said_from typed controls (start_after have) (lines_of bytes) failed
