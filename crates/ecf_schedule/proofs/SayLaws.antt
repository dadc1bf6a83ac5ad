-- What a schedule says, by its lines as a reader of lines cuts them.
use Rattle.std.proofs.Common.{◌≡◌, ℕ, ◌+◌, ◌<◌, ◌≤◌, ◌&&◌, Bool, true, false, if◌then◌else◌, List, [], ◌∷◌, ◌++◌, length, Option, Some, None, Ok, Err, refl, sym, ap, subst, ◌∙◌, arith, append-nil}
use Rattle.std.specs.Prelude.{nat_lt, nat_le}
use Rattle.std.specs.Str.Lines.{strip_carriage_return}
use Rattle.std.proofs.lemmas.List.Splits.{length-slice_split, slice_split_none}
use Rattle.ecf_core.specs.declared.event.Event.{Event}
use Rattle.ecf_events.specs.Stream.{Place, ScheduleSaid, nothing_said, events_with, last_saying_of, passed_at, place_behind, said_first, said_from, said_with, saying_of, unless_passed}
use Rattle.ecf_lang.specs.declared.limits.TheConstants.{MAX_LINE_BYTES, MAX_SCHEDULE_BYTES}
use Rattle.ecf_lang.specs.declared.receipt.Stop.{Stop}
use Rattle.ecf_lang.specs.declared.receipt.StopCause.{StopCause}
use Rattle.ecf_lang.specs.declared.receipt.StopCause.TheVariants.{Long, Bytes}
use Rattle.ecf_lines.specs.Line.{Reading}
use Rattle.ecf_lines.specs.Stream.{is_lf, bytes_of_line, limit_passed, lines_of}
use Rattle.ecf_stream.specs.Cuts.{Cut, cut_with, cut_from, to_come}
use Rattle.ecf_stream.specs.LineState.{LineState, opened}
use Rattle.ecf_schedule.specs.Reading.{EventState, IsReading, place_of, to_say, with_events}
use Rattle.ecf_schedule.proofs.FedLaws.{opened_line, opened_bytes, opened_plain, opened_short, opened_within}

-- no line comes behind these, and no limit was passed
abbrev is_last : List (List ℕ) → Option Stop → Bool
is_last [] None = true
is_last [] (Some stop) = false
is_last (line ∷ more) stop = false

-- what a line says that passes no limit, where it is the last or not
abbrev line_says : ℕ → Bool → Bool → List ℕ → Reading (Option Event)
line_says events failed true line = last_saying_of events failed (strip_carriage_return line)
line_says events failed false line = saying_of events (strip_carriage_return line)

-- what lines within the limits say, and then the limit that was passed
unfoldable pub say : ℕ → ℕ → List (List ℕ) → Option Stop → Bool → ScheduleSaid
say events before [] stop failed = record { events = []; stop = stop }
say events before (line ∷ more) stop failed =
    said_with before (line_says events failed (is_last more stop) line) (λ said. say (events_with said events) (before + 1) more stop failed)

abbrev pub say_cut : ℕ → ℕ → Cut → Bool → ScheduleSaid
say_cut events before cut failed = say events before cut.lines cut.stop failed

pub same_with : (lines : ℕ) (r : Reading (Option Event)) (f g : Option Event → ScheduleSaid) → ((said : Option Event) → f said ≡ g said) → said_with lines r f ≡ said_with lines r g
same_with lines (Ok said) f g h = ap (said_first said) (h said)
same_with lines (Err cause) f g h = refl

-- a line behind which others come
pub say_line : (events before : ℕ) (line : List ℕ) (rest : Cut) (failed : Bool) → is_last rest.lines rest.stop ≡ false →
    say_cut events before (cut_with None before line rest) failed ≡ said_with before (saying_of events (strip_carriage_return line)) (λ said. say_cut (events_with said events) (before + 1) rest failed)
unfolding say
say_line events before line rest failed e = ap (λ b. said_with before (line_says events failed b line) (λ said. say_cut (events_with said events) (before + 1) rest failed)) e

with_more : (o : Option StopCause) (before : ℕ) (line : List ℕ) (rest : Cut) → is_last (cut_with o before line rest).lines (cut_with o before line rest).stop ≡ false
with_more None before line rest = refl
with_more (Some cause) before line rest = refl

more_come : (a b before bytes : ℕ) (line : List ℕ) (more : List (List ℕ)) → is_last (cut_from a b before bytes (line ∷ more)).lines (cut_from a b before bytes (line ∷ more)).stop ≡ false
unfolding cut_from
more_come a b before bytes line [] = with_more (limit_passed a b bytes false line) before line (record { lines = []; stop = None })
more_come a b before bytes line (next ∷ more) = with_more (limit_passed a b bytes true line) before line (cut_from a b (before + 1) (bytes + bytes_of_line true line) (next ∷ more))

-- by the cut
pub by_cut : (at : Place) (lines : List (List ℕ)) (failed : Bool) → said_from at lines failed ≡ say_cut at.events at.lines (cut_from MAX_LINE_BYTES MAX_SCHEDULE_BYTES at.lines at.bytes lines) failed
unfolding said_from say cut_from
by_cut at [] failed = refl
by_cut at (line ∷ []) failed = one (passed_at at false line) where
  one : (o : Option StopCause) → said_with at.lines (unless_passed o (last_saying_of at.events failed (strip_carriage_return line))) (λ said. nothing_said) ≡ say_cut at.events at.lines (cut_with o at.lines line (record { lines = []; stop = None })) failed
  one None = refl
  one (Some cause) = refl
by_cut at (line ∷ next ∷ more) failed =
    step (passed_at at true line) (cut_from MAX_LINE_BYTES MAX_SCHEDULE_BYTES (at.lines + 1) (at.bytes + bytes_of_line true line) (next ∷ more))
    (more_come MAX_LINE_BYTES MAX_SCHEDULE_BYTES (at.lines + 1) (at.bytes + bytes_of_line true line) next more)
    (λ said. said_from (place_behind at line said) (next ∷ more) failed) (λ said. by_cut (place_behind at line said) (next ∷ more) failed) where
      step : (o : Option StopCause) (rest : Cut) → is_last rest.lines rest.stop ≡ false → (f : Option Event → ScheduleSaid) → ((said : Option Event) → f said ≡ say_cut (events_with said at.events) (at.lines + 1) rest failed) →
          said_with at.lines (unless_passed o (saying_of at.events (strip_carriage_return line))) f ≡ say_cut at.events at.lines (cut_with o at.lines line rest) failed
      step None rest e f h =
          same_with at.lines (saying_of at.events (strip_carriage_return line)) f (λ said. say_cut (events_with said at.events) (at.lines + 1) rest failed) h
          ∙ sym (say_line at.events at.lines line rest failed e)
      step (Some cause) rest e f h = refl

some_cut : (a b before bytes : ℕ) (lines : List (List ℕ)) → 0 < length lines → is_last (cut_from a b before bytes lines).lines (cut_from a b before bytes lines).stop ≡ false
some_cut a b before bytes [] h = let no : ⊥ = omega (arith, h) in absurd no
some_cut a b before bytes (line ∷ more) h = more_come a b before bytes line more

-- something is always to come of a reader
pub some_to_come : (s : LineState) (bytes : List ℕ) → is_last (to_come s bytes).lines (to_come s bytes).stop ≡ false
some_to_come s bytes = let count = length-slice_split is_lf ((opened s).line ++ bytes) in some_cut (opened s).most_line (opened s).most_bytes (opened s).lines (opened s).bytes (lines_of ((opened s).line ++ bytes)) (omega (arith, count))

-- what a reader says, by what is to come of its lines
pub to_say_by_cut : (s : EventState) (bytes : List ℕ) (failed : Bool) → IsReading s → to_say s bytes failed ≡ with_events s.events (say_cut (length s.events) (opened s.lines).lines (to_come s.lines bytes) failed)
to_say_by_cut s bytes failed reading =
    let o = opened s.lines in
    let lines = lines_of (o.line ++ bytes) in
    ap (with_events s.events)
    (by_cut (place_of s) lines failed
    ∙ sym (ap (λ a. say_cut (length s.events) o.lines (cut_from a MAX_SCHEDULE_BYTES o.lines o.bytes lines) failed) (opened_line s.lines.is_whole s.lines ∙ reading.most_line))
    ∙ sym (ap (λ b. say_cut (length s.events) o.lines (cut_from o.most_line b o.lines o.bytes lines) failed) (opened_bytes s.lines.is_whole s.lines ∙ reading.most_bytes)))

-- ---- at the end

none_by : (most_line most_bytes before count : ℕ) → count ≤ most_line → before + (count + 0) ≤ most_bytes →
    (let o : Option StopCause = if nat_lt most_line count && nat_le (before + most_line) most_bytes then Some Long else if nat_lt most_bytes (before + (count + 0)) then Some Bytes else None in o) ≡ None
none_by most_line most_bytes before count h k = grind arith

none_passed : (s : EventState) → IsReading s → passed_at (place_of s) false (opened s.lines).line ≡ None
none_passed s reading =
    let short : length (opened s.lines).line ≤ MAX_LINE_BYTES = subst (λ n. length (opened s.lines).line ≤ n) reading.most_line (opened_short s.lines.is_whole s.lines reading.within.line) in
    let few : (opened s.lines).bytes + (length (opened s.lines).line + 0) ≤ MAX_SCHEDULE_BYTES = subst (λ n. (opened s.lines).bytes + (length (opened s.lines).line + 0) ≤ n) reading.most_bytes (opened_within s.lines.is_whole s.lines refl reading.within.bytes) in
    none_by MAX_LINE_BYTES MAX_SCHEDULE_BYTES (opened s.lines).bytes (length (opened s.lines).line) short few

-- where no more bytes come, the last line alone is to be said
pub to_say_last : (s : EventState) (failed : Bool) → IsReading s →
    to_say s [] failed ≡ with_events s.events (said_with (opened s.lines).lines (last_saying_of (length s.events) failed (strip_carriage_return (opened s.lines).line)) (λ said. nothing_said))
unfolding said_from
to_say_last s failed reading =
    let line = (opened s.lines).line in
    ap (λ bytes. with_events s.events (said_from (place_of s) (lines_of bytes) failed)) (append-nil line)
    ∙ ap (λ lines. with_events s.events (said_from (place_of s) lines failed)) (slice_split_none is_lf line (opened_plain s.lines.is_whole s.lines reading.within.plain))
    ∙ ap (λ o. with_events s.events (said_with (opened s.lines).lines (unless_passed o (last_saying_of (length s.events) failed (strip_carriage_return line))) (λ said. nothing_said))) (none_passed s reading)
