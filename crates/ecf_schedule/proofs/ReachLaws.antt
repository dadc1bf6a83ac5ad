-- How far a source was read, told by what the bytes that it gave say.
use Rattle.std.proofs.Common.{◌≡◌, ℕ, ◌+◌, ◌<◌, Bool, true, false, if◌then◌else◌, List, [], ◌∷◌, length, Option, Some, None, Ok, Err, refl, sym, ap, subst, ◌∙◌, arith}
use Rattle.std.specs.Prelude.{nat_lt}
use Rattle.std.specs.Option.{ok_or}
use Rattle.std.specs.Str.Lines.{strip_carriage_return}
use Rattle.std.proofs.lemmas.List.Splits.{length-slice_split}
use Rattle.ecf_core.specs.declared.event.Event.{Event}
use Rattle.ecf_events.specs.Line.{event_of}
use Rattle.ecf_events.specs.Stream.{Place, ScheduleSaid, event_said, nothing_said, passed_at, place_behind, said_from, said_with, saying_of, schedule_said, start, unless_passed}
use Rattle.ecf_lang.specs.declared.limits.TheConstants.{MAX_EVENTS}
use Rattle.ecf_lang.specs.declared.receipt.Stop.{Stop}
use Rattle.ecf_lang.specs.declared.receipt.StopCause.{StopCause}
use Rattle.ecf_lang.specs.declared.receipt.StopCause.TheVariants.{Form, Long, Many, Bytes, Read}
use Rattle.ecf_lines.specs.Line.{Reading, ◌>>=◌, is_skipped}
use Rattle.ecf_lines.specs.Stream.{is_lf, lines_of}
use Rattle.ecf_stream.specs.declared.stream_reader.Reach.{Reach}
use Rattle.ecf_stream.specs.declared.stream_reader.Reach.TheVariants as reach
use Rattle.ecf_stream.specs.StreamState.{reach_by}
use Rattle.ecf_schedule.specs.Said.{reach_of}

-- how far a source was read that gave so many lines, each but the last with its LF
abbrev reach_to : ℕ → Option Stop → Reach
reach_to count None = reach.AtEnd
reach_to count (Some stop) = reach_by stop.cause (nat_lt stop.line count)

abbrev at_line : ℕ → StopCause → Stop
at_line line cause = record { line = line; cause = cause }

-- Where a read may fail behind lines or not: either it counts, and all was read up to the end; or a line stops the reading before.
data Reached (count : ℕ) (whole failed : Option Stop) : Type 0 where
  to_end : reach_to count whole ≡ reach.AtEnd → failed ≡ Some (at_line count Read) → Reached count whole failed
  before : (stop : Stop) → whole ≡ Some stop → failed ≡ Some stop → reach_to count (Some stop) ≡ reach.Open → Reached count whole failed

-- ---- which causes a line gives

data IsOfLine : StopCause → Type 0 where
  form : IsOfLine Form
  many : IsOfLine Many

data IsOfLimit : StopCause → Type 0 where
  long : IsOfLimit Long
  bytes : IsOfLimit Bytes

abbrev StopsOfLine : Reading (Option Event) → Type 0
StopsOfLine (Ok said) = Unit {0}
StopsOfLine (Err cause) = IsOfLine cause

abbrev PassedOfLimit : Option StopCause → Type 0
PassedOfLimit None = Unit {0}
PassedOfLimit (Some cause) = IsOfLimit cause

if_line : (b : Bool) (r s : Reading (Option Event)) → StopsOfLine r → StopsOfLine s → StopsOfLine (if b then r else s)
if_line true r s h k = h
if_line false r s h k = k

event_line : (o : Option Event) → StopsOfLine (ok_or o Form >>= (λ e. Ok (Some e)))
event_line None = form
event_line (Some e) = tt

saying_line : (events : ℕ) (line : List ℕ) → StopsOfLine (saying_of events line)
saying_line events line =
    if_line (is_skipped line) (Ok None) (event_said events line) tt
    (if_line (nat_lt events MAX_EVENTS) (ok_or (event_of line) Form >>= (λ e. Ok (Some e))) (Err Many) (event_line (event_of line)) many)

limits : (a b : Bool) → PassedOfLimit (if a then Some Long else if b then Some Bytes else None)
limits true b = long
limits false true = bytes
limits false false = tt

passed_limit : (at : Place) (ended : Bool) (line : List ℕ) → PassedOfLimit (passed_at at ended line)
passed_limit at ended line = limits _ _

-- ---- line by line

limit_is_open : (cause : StopCause) (b : Bool) → IsOfLimit cause → reach_by cause b ≡ reach.Open
limit_is_open cause b long = refl
limit_is_open cause b bytes = refl

line_is_open : (cause : StopCause) (b : Bool) → IsOfLine cause → b ≡ true → reach_by cause b ≡ reach.Open
line_is_open cause b form e = ap (reach_by Form) e
line_is_open cause b many e = ap (reach_by Many) e

line_at_end : (cause : StopCause) (b : Bool) → IsOfLine cause → b ≡ false → reach_by cause b ≡ reach.AtEnd
line_at_end cause b form e = ap (reach_by Form) e
line_at_end cause b many e = ap (reach_by Many) e

not_before : (n : ℕ) → nat_lt n n ≡ false
not_before n = grind arith

-- the last line
last_reached : (k count : ℕ) (o : Option StopCause) (r : Reading (Option Event)) → PassedOfLimit o → StopsOfLine r → k + 1 ≡ count →
    Reached count (said_with k (unless_passed o r) (λ said. nothing_said)).stop (said_with k (unless_passed o (Err Read)) (λ said. nothing_said)).stop
last_reached k count None (Ok None) h s e = to_end refl (ap (λ n. Some (at_line n Read)) e)
last_reached k count None (Ok (Some event)) h s e = to_end refl (ap (λ n. Some (at_line n Read)) e)
last_reached k count None (Err cause) h s e =
    to_end (line_at_end cause (nat_lt (k + 1) count) s (ap (nat_lt (k + 1)) (sym e) ∙ not_before (k + 1))) (ap (λ n. Some (at_line n Read)) e)
last_reached k count (Some cause) r h s e = before (at_line (k + 1) cause) refl refl (limit_is_open cause (nat_lt (k + 1) count) h)

-- another line, by what the rest came to
line_reached : (k count : ℕ) (o : Option StopCause) (r : Reading (Option Event)) (f g : Option Event → ScheduleSaid) → PassedOfLimit o → StopsOfLine r → nat_lt (k + 1) count ≡ true →
    ((said : Option Event) → Reached count (f said).stop (g said).stop) → Reached count (said_with k (unless_passed o r) f).stop (said_with k (unless_passed o r) g).stop
line_reached k count None (Ok None) f g h s e rest = rest None
line_reached k count None (Ok (Some event)) f g h s e rest = rest (Some event)
line_reached k count None (Err cause) f g h s e rest = before (at_line (k + 1) cause) refl refl (line_is_open cause (nat_lt (k + 1) count) s e)
line_reached k count (Some cause) r f g h s e rest = before (at_line (k + 1) cause) refl refl (limit_is_open cause (nat_lt (k + 1) count) h)

reached : (at : Place) (line : List ℕ) (more : List (List ℕ)) (count : ℕ) → at.lines + length (line ∷ more) ≡ count →
    Reached count (said_from at (line ∷ more) false).stop (said_from at (line ∷ more) true).stop
unfolding said_from
reached at line [] count e =
    last_reached at.lines count (passed_at at false line) (saying_of at.events (strip_carriage_return line)) (passed_limit at false line) (saying_line at.events (strip_carriage_return line)) (omega (arith, e))
reached at line (next ∷ more) count e =
    line_reached at.lines count (passed_at at true line) (saying_of at.events (strip_carriage_return line))
    (λ said. said_from (place_behind at line said) (next ∷ more) false) (λ said. said_from (place_behind at line said) (next ∷ more) true)
    (passed_limit at true line) (saying_line at.events (strip_carriage_return line)) (earlier at.lines count (length more) (omega (arith, e)))
    (λ said. reached (place_behind at line said) next more count (omega (arith, e))) where
      earlier : (k count rest : ℕ) → k + (rest + 2) ≡ count → nat_lt (k + 1) count ≡ true
      earlier k count rest e = grind arith

all_reached : (lines : List (List ℕ)) → 0 < length lines → Reached (length lines) (said_from start lines false).stop (said_from start lines true).stop
all_reached [] h = let no : ⊥ = omega (arith, h) in absurd no
all_reached (line ∷ more) h = reached start line more (length (line ∷ more)) (omega arith)

bytes_reached : (piece : List ℕ) → Reached (length (lines_of piece)) (schedule_said piece false).stop (schedule_said piece true).stop
bytes_reached piece = let count = length-slice_split is_lf piece in all_reached (lines_of piece) (omega (arith, count))

-- ---- what that says of a stop

not_failed : (count : ℕ) (b : Bool) (stop : Stop) → at_line count Read ≡ stop → reach_by stop.cause b ≡ reach.AtEnd → ⊥
not_failed count b stop is e = let read : reach_by Read b ≡ reach.AtEnd = ap (λ (s : Stop). reach_by s.cause b) is ∙ e in cc

is_failed : (line count : ℕ) (stop : Stop) → stop ≡ at_line line Read → reach_by stop.cause (nat_lt stop.line count) ≡ reach.Open → ⊥
is_failed line count stop is e = let read : reach_by Read (nat_lt line count) ≡ reach.Open = sym (ap (λ (s : Stop). reach_by s.cause (nat_lt s.line count)) is) ∙ e in cc

same_stop : (a b : Stop) (o : Option Stop) → o ≡ Some a → o ≡ Some b → a ≡ b
same_stop a b o e f = let both : (let x : Option Stop = Some a in x) ≡ Some b = sym e ∙ f in cc

-- a stop that comes whether a read fails behind the bytes or not
pub reach_open : (piece : List ℕ) (stop : Stop) → (schedule_said piece false).stop ≡ Some stop → (schedule_said piece true).stop ≡ Some stop → reach_of piece (Some stop) ≡ reach.Open
reach_open piece stop e f = by (bytes_reached piece) where
  by : Reached (length (lines_of piece)) (schedule_said piece false).stop (schedule_said piece true).stop → reach_of piece (Some stop) ≡ reach.Open
  by (to_end h k) =
      absurd (not_failed (length (lines_of piece)) (nat_lt stop.line (length (lines_of piece))) stop (same_stop (at_line (length (lines_of piece)) Read) stop (schedule_said piece true).stop k f)
      (sym (ap (reach_to (length (lines_of piece))) e) ∙ h))
  by (before other h k is) = subst (λ s. reach_to (length (lines_of piece)) (Some s) ≡ reach.Open) (same_stop other stop (schedule_said piece false).stop h e) is

-- what comes at the end of the source, where a failed read would count
pub reach_end : (piece : List ℕ) (stop : Option Stop) (line : ℕ) → (schedule_said piece false).stop ≡ stop → (schedule_said piece true).stop ≡ Some (at_line line Read) → reach_of piece stop ≡ reach.AtEnd
reach_end piece stop line e f = sym (same stop) ∙ subst (λ o. reach_to (length (lines_of piece)) o ≡ reach.AtEnd) e (by (bytes_reached piece)) where
  same : (o : Option Stop) → reach_to (length (lines_of piece)) o ≡ reach_of piece o
  same None = refl
  same (Some stop) = refl

  by : Reached (length (lines_of piece)) (schedule_said piece false).stop (schedule_said piece true).stop → reach_to (length (lines_of piece)) (schedule_said piece false).stop ≡ reach.AtEnd
  by (to_end h k) = h
  by (before other h k is) = absurd (is_failed line (length (lines_of piece)) other (same_stop other (at_line line Read) (schedule_said piece true).stop k f) is)
