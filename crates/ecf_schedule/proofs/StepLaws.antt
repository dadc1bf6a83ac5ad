-- What a step of a reader takes and says.
use Rattle.std.proofs.Common.{◌≡◌, ℕ, ◌+◌, ◌≤◌, Bool, true, false, if◌then◌else◌, List, [], ◌∷◌, ◌++◌, length, drop, Option, Some, None, Ok, Err, sym, ap, subst, ◌∙◌, arith, append_assoc, append-nil, length-append}
use Rattle.std.specs.Str.Lines.{strip_carriage_return}
use Rattle.std.proofs.Math.Seq.{drop-length}
use Rattle.ecf_core.specs.declared.event.Event.{Event}
use Rattle.ecf_events.specs.Stream.{ScheduleSaid, events_with, nothing_said, said_first, said_with, saying_of}
use Rattle.ecf_lang.specs.declared.receipt.Stop.{Stop}
use Rattle.ecf_lang.specs.declared.receipt.StopCause.{StopCause}
use Rattle.ecf_lang.specs.declared.receipt.StopCause.TheVariants.{Long, Bytes, Read}
use Rattle.ecf_lines.specs.Line.{Reading}
use Rattle.ecf_stream.specs.declared.line_reader.Fed.{Fed}
use Rattle.ecf_stream.specs.declared.line_reader.Fed.TheVariants as fed
use Rattle.ecf_stream.specs.Cuts.{Cut, LinesAreCut, Says, to_come}
use Rattle.ecf_stream.specs.LineState.{LineState, opened, answer_to, state_after, IsWithin}
use Rattle.ecf_schedule.specs.Reading.{EventState, GoesOn, HasEnded, HasSaid, IsReading, Stops, said_up_to, stop_at, to_say, with_events}
use Rattle.ecf_schedule.proofs.FedLaws.{IsFed, opened_next, tells}
use Rattle.ecf_schedule.proofs.SayLaws.{say, say_cut, say_line, some_to_come, to_say_by_cut, to_say_last}

-- a reader with this line at hand and these events
abbrev pub at : LineState → List Event → EventState
at lines events = record { lines = lines; events = events }

-- the reader reads on behind a piece that was fed
still : (old : EventState) (lines : LineState) (events : List Event) (count : ℕ) (whole : Bool) → IsReading old → IsFed old.lines lines count whole → IsWithin lines → IsReading (at lines events)
still old lines events count whole r f w = record { within = w; most_line = f.most_line ∙ r.most_line; most_bytes = f.most_bytes ∙ r.most_bytes; over = f.over ∙ r.over }

-- the events that are said in front
in_front : (events : List Event) (e : Event) (rest : ScheduleSaid) → with_events events (said_first (Some e) rest) ≡ with_events (events ++ e ∷ []) rest
in_front events e rest = ap (λ es. record { events = es; stop = rest.stop }) (sym (append_assoc events (e ∷ []) rest.events))

said_none : (s : EventState) (stop : Stop) → with_events s.events (record { events = []; stop = Some stop }) ≡ said_up_to s stop
said_none s stop = ap (λ es. record { events = es; stop = Some stop }) (append-nil s.events)

-- ---- what a piece says by an answer

-- by the law of lines
fed_says : LinesAreCut → (old : EventState) (lines : LineState) (piece more : List ℕ) (answer : Fed) → IsReading old → answer ≡ answer_to old.lines piece → lines ≡ state_after old.lines piece → Says answer old.lines lines piece more
fed_says cut old lines piece more answer r e f =
    subst (λ (a : Fed). Says a old.lines lines piece more) (sym e)
    (subst (λ (t : LineState). Says (answer_to old.lines piece) old.lines t piece more) (sym f) (cut old.lines piece more r.within r.over))

abbrev of_cut : EventState → Cut → Bool → ScheduleSaid
of_cut old cut failed = with_events old.events (say_cut (length old.events) (opened old.lines).lines cut failed)

-- the whole piece was taken, and the line goes on
pub goes_on : LinesAreCut → (old : EventState) (lines : LineState) (piece : List ℕ) → IsReading old → fed.More ≡ answer_to old.lines piece → lines ≡ state_after old.lines piece → IsWithin lines → GoesOn old (at lines old.events) piece (length piece)
goes_on cut old lines piece r e f w =
    let t : IsFed old.lines lines (length piece) false = tells old.lines lines piece fed.More r.over e f in
    let new = at lines old.events in
    let reading = still old lines old.events (length piece) false r t w in
    let next : (opened lines).lines ≡ lines.lines + 0 = opened_next lines.is_whole lines ∙ ap (λ b. lines.lines + (if b then 1 else 0)) t.is_whole in
    let lines_are = t.lines in
    let same : (opened lines).lines ≡ (opened old.lines).lines = omega (arith, next, lines_are) in
    record {
      reading = reading;
      taken = t.taken;
      within = omega arith;
      says = λ more failed.
          to_say_by_cut old (piece ++ more) failed r
          ∙ ap (λ c. of_cut old c failed) (fed_says cut old lines piece more fed.More r e f)
          ∙ sym (ap (λ k. with_events old.events (say_cut (length old.events) k (to_come lines more) failed)) same)
          ∙ sym (to_say_by_cut new more failed reading)
          ∙ sym (ap (λ bytes. to_say new (bytes ++ more) failed) (drop-length piece));
    }

-- a limit was passed
pub passes_long : LinesAreCut → (old : EventState) (lines : LineState) (piece : List ℕ) (taken : ℕ) → IsReading old → fed.Long taken ≡ answer_to old.lines piece → lines ≡ state_after old.lines piece → Stops (stop_at (at lines old.events) Long) old (at lines old.events) piece
unfolding say
passes_long cut old lines piece taken r e f more failed =
    let same : lines.lines ≡ (opened old.lines).lines = tells old.lines lines piece (fed.Long taken) r.over e f in
    to_say_by_cut old (piece ++ more) failed r
    ∙ ap (λ c. of_cut old c failed) (fed_says cut old lines piece more (fed.Long taken) r e f)
    ∙ said_none old (record { line = (opened old.lines).lines + 1; cause = Long })
    ∙ sym (ap (λ k. said_up_to old (record { line = k + 1; cause = Long })) same)

pub passes_bytes : LinesAreCut → (old : EventState) (lines : LineState) (piece : List ℕ) (taken : ℕ) → IsReading old → fed.Bytes taken ≡ answer_to old.lines piece → lines ≡ state_after old.lines piece → Stops (stop_at (at lines old.events) Bytes) old (at lines old.events) piece
unfolding say
passes_bytes cut old lines piece taken r e f more failed =
    let same : lines.lines ≡ (opened old.lines).lines = tells old.lines lines piece (fed.Bytes taken) r.over e f in
    to_say_by_cut old (piece ++ more) failed r
    ∙ ap (λ c. of_cut old c failed) (fed_says cut old lines piece more (fed.Bytes taken) r e f)
    ∙ said_none old (record { line = (opened old.lines).lines + 1; cause = Bytes })
    ∙ sym (ap (λ k. said_up_to old (record { line = k + 1; cause = Bytes })) same)

-- ---- a line

-- what a line says that is whole, and then the rest
line_says : LinesAreCut → (old : EventState) (lines : LineState) (piece more : List ℕ) (taken : ℕ) (failed : Bool) → IsReading old → fed.Line taken ≡ answer_to old.lines piece → lines ≡ state_after old.lines piece →
    to_say old (piece ++ more) failed ≡ with_events old.events (said_with lines.lines (saying_of (length old.events) (strip_carriage_return lines.line)) (λ said. say_cut (events_with said (length old.events)) (lines.lines + 1) (to_come lines (drop taken piece ++ more)) failed))
line_says cut old lines piece more taken failed r e f =
    let t : IsFed old.lines lines taken true × (1 ≤ taken) × (taken ≤ length piece) = tells old.lines lines piece (fed.Line taken) r.over e f in
    let rest = to_come lines (drop taken piece ++ more) in
    let n = length old.events in
    let k = (opened old.lines).lines in
    to_say_by_cut old (piece ++ more) failed r
    ∙ ap (λ c. of_cut old c failed) (fed_says cut old lines piece more (fed.Line taken) r e f)
    ∙ ap (with_events old.events) (say_line n k lines.line rest failed (some_to_come lines (drop taken piece ++ more)))
    ∙ sym (ap (λ j. with_events old.events (said_with j (saying_of n (strip_carriage_return lines.line)) (λ said. say_cut (events_with said n) (j + 1) rest failed))) t.0.lines)

-- the reader behind a whole line, with these events
behind : (lines : LineState) (events : List Event) (bytes : List ℕ) (failed : Bool) → IsReading (at lines events) → lines.is_whole ≡ true →
    with_events events (say_cut (length events) (lines.lines + 1) (to_come lines bytes) failed) ≡ to_say (at lines events) bytes failed
behind lines events bytes failed reading whole =
    let next : (opened lines).lines ≡ lines.lines + 1 = opened_next lines.is_whole lines ∙ ap (λ b. lines.lines + (if b then 1 else 0)) whole in
    sym (ap (λ k. with_events events (say_cut (length events) k (to_come lines bytes) failed)) next) ∙ sym (to_say_by_cut (at lines events) bytes failed reading)

-- what was kept of a line, or why it stops the reading
abbrev pub LineTaken : Option StopCause → EventState → EventState → List ℕ → ℕ → Type 0
LineTaken None old new piece taken = GoesOn old new piece taken × (1 ≤ taken)
LineTaken (Some cause) old new piece taken = Stops (stop_at new cause) old new piece

pub line_taken : LinesAreCut → (old : EventState) (lines : LineState) (new : EventState) (piece : List ℕ) (taken : ℕ) (cause : Option StopCause) → IsReading old → fed.Line taken ≡ answer_to old.lines piece → lines ≡ state_after old.lines piece → IsWithin lines →
    HasSaid cause (saying_of (length old.events) (strip_carriage_return lines.line)) (at lines old.events) new → LineTaken cause old new piece taken
line_taken cut old lines new piece taken cause r e f w said =
    by (saying_of (length old.events) (strip_carriage_return lines.line)) (λ more failed. line_says cut old lines piece more taken failed r e f) said where
      t : IsFed old.lines lines taken true × (1 ≤ taken) × (taken ≤ length piece)
      t = tells old.lines lines piece (fed.Line taken) r.over e f

      by : (reading : Reading (Option Event)) →
          ((more : List ℕ) (failed : Bool) → to_say old (piece ++ more) failed ≡ with_events old.events (said_with lines.lines reading (λ said. say_cut (events_with said (length old.events)) (lines.lines + 1) (to_come lines (drop taken piece ++ more)) failed))) →
          HasSaid cause reading (at lines old.events) new → LineTaken cause old new piece taken
      by (Ok None) says h =
          let reading = still old lines old.events taken true r t.0 w in
          subst (λ o. LineTaken o old new piece taken) (sym h.0)
          (subst (λ (s : EventState). LineTaken None old s piece taken) (sym h.1) (
            record {
              reading = reading;
              taken = t.0.taken;
              within = t.2;
              says = λ more failed. says more failed ∙ behind lines old.events (drop taken piece ++ more) failed reading t.0.is_whole;
            },
            t.1,
          ))
      by (Ok (Some event)) says h =
          let events = old.events ++ event ∷ [] in
          let reading = still old lines events taken true r t.0 w in
          let count : length events ≡ length old.events + 1 = length-append old.events (event ∷ []) in
          subst (λ o. LineTaken o old new piece taken) (sym h.0)
          (subst (λ (s : EventState). LineTaken None old s piece taken) (sym h.1) (
            record {
              reading = reading;
              taken = t.0.taken;
              within = t.2;
              says = λ more failed.
                  says more failed
                  ∙ in_front old.events event (say_cut (length old.events + 1) (lines.lines + 1) (to_come lines (drop taken piece ++ more)) failed)
                  ∙ sym (ap (λ n. with_events events (say_cut n (lines.lines + 1) (to_come lines (drop taken piece ++ more)) failed)) count)
                  ∙ behind lines events (drop taken piece ++ more) failed reading t.0.is_whole;
            },
            t.1,
          ))
      by (Err stop) says h =
          subst (λ o. LineTaken o old new piece taken) (sym h.0)
          (subst (λ (s : EventState). LineTaken (Some stop) old s piece taken) (sym h.1)
          (λ more failed. says more failed ∙ said_none old (record { line = lines.lines + 1; cause = stop })))

-- ---- the end

-- a stop at the line at hand, if there is one
abbrev pub stop_by : EventState → Option StopCause → Option Stop
stop_by s None = None
stop_by s (Some cause) = Some (stop_at s cause)

pub has_ended : (old new : EventState) (lines : LineState) (cause : Option StopCause) → IsReading old → lines ≡ opened old.lines →
    HasSaid cause (saying_of (length old.events) (strip_carriage_return lines.line)) (at lines old.events) new → HasEnded (stop_by new cause) old new
has_ended old new lines cause r f said =
    by (saying_of (length old.events) (strip_carriage_return lines.line))
    (to_say_last old false r ∙ sym (ap (λ (l : LineState). with_events old.events (said_with l.lines (saying_of (length old.events) (strip_carriage_return l.line)) (λ said. nothing_said))) f)) said where
      by : (reading : Reading (Option Event)) → to_say old [] false ≡ with_events old.events (said_with lines.lines reading (λ said. nothing_said)) → HasSaid cause reading (at lines old.events) new → HasEnded (stop_by new cause) old new
      by (Ok None) says h =
          subst (λ o. HasEnded (stop_by new o) old new) (sym h.0)
          (subst (λ (s : EventState). HasEnded None old s) (sym h.1) (says ∙ ap (λ es. record { events = es; stop = None }) (append-nil old.events)))
      by (Ok (Some event)) says h =
          subst (λ o. HasEnded (stop_by new o) old new) (sym h.0) (subst (λ (s : EventState). HasEnded None old s) (sym h.1) says)
      by (Err stop) says h =
          subst (λ o. HasEnded (stop_by new o) old new) (sym h.0)
          (subst (λ (s : EventState). HasEnded (Some (stop_at s stop)) old s) (sym h.1) (says ∙ said_none old (record { line = lines.lines + 1; cause = stop })))

-- a read failed behind what was read
pub has_stopped : (old : EventState) → IsReading old → to_say old [] true ≡ said_up_to old (record { line = (opened old.lines).lines + 1; cause = Read })
has_stopped old r = to_say_last old true r ∙ said_none old (record { line = (opened old.lines).lines + 1; cause = Read })
