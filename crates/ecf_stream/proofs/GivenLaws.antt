-- What a reader gives with the next line, and then.
use Rattle.std.proofs.Common.{◌≡◌, ℕ, zero, suc, ◌+◌, ◌-◌, ◌<◌, ◌≤◌, Bool, true, false, List, [], ◌∷◌, ◌++◌, length, Option, Some, None, Ok, Err, refl, sym, ap, subst, ◌∙◌, arith, append_assoc, append-nil, length-append}
use Rattle.std.specs.Prelude.{is_some, not, nat_le, ◌||◌, if◌then◌else◌, Result, IfOk, OnOk, OnErr}
use Rattle.std.proofs.lemmas.List.Concat.{flat_map-append}
use Rattle.std.proofs.lemmas.List.Elements.{All-nil, All-cons, All-append}
use Rattle.std.specs.Str.Lines.{strip_carriage_return}
use Rattle.ecf_edge.specs.Chains.{Gave-nil, Gave-append}
use Rattle.ecf_edge.specs.Source.{GaveSome}
use Rattle.ecf_lang.specs.Fits.{Fits}
use Rattle.ecf_lang.specs.declared.tx.Tx.{Tx}
use Rattle.ecf_stream.specs.Saying.{SayingFits}
use Rattle.ecf_lang.specs.declared.limits.TheConstants.{MAX_LINE_BYTES, MAX_STREAM_BYTES}
use Rattle.ecf_lang.specs.declared.receipt.StopCause.{StopCause}
use Rattle.ecf_lang.specs.declared.typed.Typed.{Typed}
use Rattle.ecf_lines.specs.Line.{Reading, is_skipped}
use Rattle.ecf_lines.specs.declared.saying.Saying.{Saying}
use Rattle.ecf_lines.specs.declared.saying.Saying.TheVariants.{Nothing, Asks, TakesOut}
use Rattle.ecf_lines.specs.Stream.{bytes_of_line, lines_of, txs_with, saying_of, unless_passed, place_behind, StreamSaid, nothing_said, said_first, said_with, said_from}
use Rattle.ecf_stream.specs.declared.stream_reader.Next.TheVariants as next
use Rattle.ecf_stream.specs.declared.stream_reader.Reach.{Reach}
use Rattle.ecf_stream.specs.declared.stream_reader.Reach.TheVariants as reach
use Rattle.ecf_stream.specs.declared.stream_reader.Stage.{Stage}
use Rattle.ecf_stream.specs.declared.stream_reader.Stage.TheVariants as stage
use Rattle.ecf_stream.specs.LineState.{IsWithin}
use Rattle.ecf_stream.specs.StreamState.{StreamState, IsSound, place_of, held_of, stopped_at, state_behind, is_reading, lines_at, lines_to_come, IsFine, given_at, given_yet, MayFollow, reach_at, reach_of, left_at, faults_at, with_txs, with_part, IsPlain, whole_lines, EndsUnskipped, IsUpToStop, Deals, at_line, HasLine, HasStop, HasNext, HasSaidBy, HasSaid, is_said, takes_out, NoFault, Reads}
use Rattle.ecf_stream.proofs.FeedLaws.{none_passed}
use Rattle.ecf_stream.proofs.SayingLaws.{said_line, said_last}
use Rattle.ecf_stream.proofs.CauseLaws.{reach_of_line, no_control, unskipped}

-- what a whole line says, and what comes behind it
given_first : (typed : Typed) (old : StreamState) (line rest bytes : List ℕ) (failed : Bool) (r : Reading Saying) → IsWithin (at_line old line rest true).lines → saying_of typed old.controls old.txs (strip_carriage_return line) ≡ r →
    said_from typed old.controls (place_of old) (lines_of (line ++ (10 ∷ bytes))) failed
    ≡ said_with (place_of old) r (λ saying. said_from typed old.controls (place_behind (place_of old) line saying) (lines_of bytes) failed)
given_first typed old line rest bytes failed r w e =
    said_line typed old.controls (place_of old) line bytes failed w.plain
    ∙ ap (λ o. said_with (place_of old) (unless_passed o (saying_of typed old.controls old.txs (strip_carriage_return line))) (λ saying. said_from typed old.controls (place_behind (place_of old) line saying) (lines_of bytes) failed)) (none_passed (at_line old line rest true).lines w)
    ∙ ap (λ r. said_with (place_of old) r (λ saying. said_from typed old.controls (place_behind (place_of old) line saying) (lines_of bytes) failed)) e

given_line : (typed : Typed) (old : StreamState) (line rest more : List ℕ) (failed : Bool) (r : Reading Saying) → IsWithin (at_line old line rest true).lines → saying_of typed old.controls old.txs (strip_carriage_return line) ≡ r →
    said_from typed old.controls (place_of old) (lines_of ((line ++ (10 ∷ rest)) ++ more)) failed
    ≡ said_with (place_of old) r (λ saying. said_from typed old.controls (place_behind (place_of old) line saying) (lines_of (rest ++ more)) failed)
given_line typed old line rest more failed r w e =
    ap (λ bytes. said_from typed old.controls (place_of old) (lines_of bytes) failed) (append_assoc line (10 ∷ rest) more)
    ∙ given_first typed old line rest (rest ++ more) failed r w e

-- what the last line says
given_last : (typed : Typed) (old : StreamState) (line rest : List ℕ) (r : Reading Saying) → IsWithin (at_line old line rest false).lines → saying_of typed old.controls old.txs (strip_carriage_return line) ≡ r →
    said_from typed old.controls (place_of old) (lines_of line) false ≡ said_with (place_of old) r (λ saying. nothing_said)
given_last typed old line rest r w e =
    said_last typed old.controls (place_of old) line false w.plain
    ∙ ap (λ o. said_with (place_of old) (unless_passed o (saying_of typed old.controls old.txs (strip_carriage_return line))) (λ saying. nothing_said)) (none_passed (at_line old line rest false).lines w)
    ∙ ap (λ r. said_with (place_of old) r (λ saying. nothing_said)) e

-- ---- the same from the reader's states

given_reading : (typed : Typed) (s : StreamState) (bytes : List ℕ) (failed : Bool) → s.stage ≡ stage.Reading → given_yet typed s bytes failed ≡ said_from typed s.controls (place_of s) (lines_of (held_of s ++ bytes)) failed
given_reading typed s bytes failed e = ap (λ at. given_at at typed s bytes failed) e

-- a line, by what it says
by_line : (typed : Typed) (old mid new : StreamState) (line rest more : List ℕ) (failed : Bool) (saying : Saying) (r : Reading Saying) → IsWithin (at_line old line rest true).lines → saying_of typed old.controls old.txs (strip_carriage_return line) ≡ r →
    HasSaidBy r (at_line old line rest true) new false saying → said_from typed old.controls (place_of old) (lines_of ((line ++ (10 ∷ rest)) ++ more)) failed ≡ said_first saying old.txs (given_yet typed new more failed)
by_line typed old mid new line rest more failed saying (Ok said) w e h =
    given_line typed old line rest more failed (Ok said) w e
    ∙ ap (λ (t : StreamState). said_first said old.txs (given_yet typed t more failed)) (sym h.1)
    ∙ ap (λ s. said_first s old.txs (given_yet typed new more failed)) (sym h.0)
by_line typed old mid new line rest more failed saying (Err cause) w e h =
    given_line typed old line rest more failed (Err cause) w e
    ∙ ap (λ (t : StreamState). given_yet typed t more failed) (sym h.1)
    ∙ ap (λ s. said_first s old.txs (given_yet typed new more failed)) (sym h.0)

by_last : (typed : Typed) (old new : StreamState) (line rest : List ℕ) (saying : Saying) (r : Reading Saying) → IsWithin (at_line old line rest false).lines → saying_of typed old.controls old.txs (strip_carriage_return line) ≡ r →
    HasSaidBy r (at_line old line rest false) new true saying → said_from typed old.controls (place_of old) (lines_of line) false ≡ said_first saying old.txs (given_yet typed new [] false)
by_last typed old new line rest saying (Ok said) w e h =
    given_last typed old line rest (Ok said) w e
    ∙ ap (λ (t : StreamState). said_first said old.txs (given_yet typed t [] false)) (sym h.1)
    ∙ ap (λ s. said_first s old.txs (given_yet typed new [] false)) (sym h.0)
by_last typed old new line rest saying (Err cause) w e h =
    given_last typed old line rest (Err cause) w e
    ∙ ap (λ (t : StreamState). given_yet typed t [] false) (sym h.1)
    ∙ ap (λ s. said_first s old.txs (given_yet typed new [] false)) (sym h.0)

-- ---- what else a line leaves

pub counted_by : (r : Reading Saying) (mid new : StreamState) (last : Bool) (saying : Saying) → HasSaidBy r mid new last saying → new.txs ≡ txs_with saying mid.txs
counted_by (Ok said) mid new last saying h = ap (λ (t : StreamState). t.txs) h.1 ∙ ap (λ s. txs_with s mid.txs) (sym h.0)
counted_by (Err cause) mid new last saying h = ap (λ (t : StreamState). t.txs) h.1 ∙ ap (λ s. txs_with s mid.txs) (sym h.0)

fine_stage : (b : Bool) (at : Stage) → at ≡ stage.Reading → IsFine (if b then stage.Ended None else at)
fine_stage true at e = tt
fine_stage false at e = subst IsFine (sym e) tt

pub fine_by : (r : Reading Saying) (mid new : StreamState) (last : Bool) (saying : Saying) → mid.stage ≡ stage.Reading → HasSaidBy r mid new last saying → IsFine new.stage
fine_by (Ok said) mid new last saying e h = subst (λ (t : StreamState). IsFine t.stage) (sym h.1) (fine_stage last mid.stage e)
fine_by (Err cause) mid new last saying e h = subst (λ (t : StreamState). IsFine t.stage) (sym h.1) tt

-- behind the last line nothing is read
last_ended : (r : Reading Saying) (mid new : StreamState) (saying : Saying) → HasSaidBy r mid new true saying → is_reading new.stage ≡ false
last_ended (Ok said) mid new saying h = ap (λ (t : StreamState). is_reading t.stage) h.1
last_ended (Err cause) mid new saying h = ap (λ (t : StreamState). is_reading t.stage) h.1

pub not_reading : {A : Type 0} (at : Stage) → is_reading at ≡ false → at ≡ stage.Reading → A
not_reading stage.Reading e f = let no : ⊥ = cc in absurd no
not_reading (stage.Ended stop) e f = let no : ⊥ = cc in absurd no
not_reading stage.OutOfMemory e f = let no : ⊥ = cc in absurd no

pub reading_is : (at : Stage) → is_reading at ≡ true → at ≡ stage.Reading
reading_is stage.Reading e = refl
reading_is (stage.Ended stop) e = let no : ⊥ = cc in absurd no
reading_is stage.OutOfMemory e = let no : ⊥ = cc in absurd no

none_to_come : (at : Stage) (s : StreamState) → is_reading at ≡ false → lines_at at s ≡ 0
none_to_come stage.Reading s e = let no : ⊥ = cc in absurd no
none_to_come (stage.Ended stop) s e = refl
none_to_come stage.OutOfMemory s e = refl

-- fewer lines are to come
some_to_come : (old : StreamState) → old.stage ≡ stage.Reading → lines_to_come old ≡ MAX_STREAM_BYTES + 1 - (place_of old).bytes
some_to_come old e = ap (λ at. lines_at at old) e

pub fewer_after_stop : (old new : StreamState) → old.stage ≡ stage.Reading → (place_of old).bytes ≤ MAX_STREAM_BYTES → is_reading new.stage ≡ false → lines_to_come new < lines_to_come old
fewer_after_stop old new e h f =
    let some = some_to_come old e in
    let none : lines_to_come new ≡ 0 = none_to_come new.stage new f in
    omega (arith, some, none, h)

fewer_by : (r : Reading Saying) (old new : StreamState) (line rest : List ℕ) (last : Bool) (saying : Saying) → old.stage ≡ stage.Reading → IsWithin (at_line old line rest true).lines → HasSaidBy r (at_line old line rest true) new false saying → lines_to_come new < lines_to_come old
fewer_by (Ok said) old new line rest last saying e w h =
    let some = some_to_come old e in
    let now : lines_to_come new ≡ MAX_STREAM_BYTES + 1 - ((place_of old).bytes + bytes_of_line true line) = ap lines_to_come h.1 in
    let within : (place_of old).bytes + bytes_of_line true line ≤ MAX_STREAM_BYTES = w.bytes in
    omega (arith, some, now, within)
fewer_by (Err cause) old new line rest last saying e w h =
    let within : (place_of old).bytes + bytes_of_line true line ≤ MAX_STREAM_BYTES = w.bytes in
    fewer_after_stop old new e (omega (arith, within)) (ap (λ (t : StreamState). is_reading t.stage) h.1)

-- ---- the lines that were dealt with

-- one line, and what comes behind it
whole_one : (line more : List ℕ) → whole_lines (line ∷ []) ++ more ≡ line ++ (10 ∷ more)
whole_one line more = append_assoc (line ++ 10 ∷ []) [] more ∙ append_assoc line (10 ∷ []) more

-- no line
none_dealt : (old new : StreamState) (piece : List ℕ) → held_of old ++ piece ≡ held_of new → (place_of new).lines ≡ (place_of old).lines → (old.stage ≡ stage.Reading → IsUpToStop new.stage (place_of new).lines) → is_reading new.stage ≡ false → (typed : Typed) (gives : StreamSaid → StreamSaid) → Deals typed old new piece gives []
none_dealt old new piece held count up_to ended typed gives = record {
  kept = held;
  unbroken = All-nil IsPlain;
  count = omega (arith, count);
  up_to_stop = up_to;
  say = λ reading. not_reading new.stage ended reading;
}

-- what a whole line leaves
held_line : (r : Reading Saying) (old new : StreamState) (line rest : List ℕ) (saying : Saying) → HasSaidBy r (at_line old line rest true) new false saying → held_of new ≡ rest
held_line (Ok said) old new line rest saying h = ap held_of h.1
held_line (Err cause) old new line rest saying h = ap held_of h.1

lines_line : (r : Reading Saying) (old new : StreamState) (line rest : List ℕ) (saying : Saying) → HasSaidBy r (at_line old line rest true) new false saying → (place_of new).lines ≡ (place_of old).lines + 1
lines_line (Ok said) old new line rest saying h = ap (λ (t : StreamState). (place_of t).lines) h.1
lines_line (Err cause) old new line rest saying h = ap (λ (t : StreamState). (place_of t).lines) h.1

up_to_line : (r : Reading Saying) (old new : StreamState) (line rest : List ℕ) (saying : Saying) → HasSaidBy r (at_line old line rest true) new false saying → IsUpToStop new.stage (place_of new).lines
up_to_line (Ok said) old new line rest saying h = subst (λ (t : StreamState). IsUpToStop t.stage (place_of t).lines) (sym h.1) tt
up_to_line (Err cause) old new line rest saying h = subst (λ (t : StreamState). IsUpToStop t.stage (place_of t).lines) (sym h.1) (omega arith)

say_line : (typed : Typed) (old new : StreamState) (line rest : List ℕ) (saying : Saying) (r : Reading Saying) → IsWithin (at_line old line rest true).lines → saying_of typed old.controls old.txs (strip_carriage_return line) ≡ r →
    HasSaidBy r (at_line old line rest true) new false saying → new.stage ≡ stage.Reading → (more : List ℕ) (failed : Bool) →
    said_from typed old.controls (place_of old) (lines_of (whole_lines (line ∷ []) ++ more)) failed ≡ said_first saying old.txs (said_from typed new.controls (place_of new) (lines_of more) failed)
say_line typed old new line rest saying (Ok said) w e h reading more failed =
    ap (λ bytes. said_from typed old.controls (place_of old) (lines_of bytes) failed) (whole_one line more)
    ∙ given_first typed old line rest more failed (Ok said) w e
    ∙ ap (λ (t : StreamState). said_first said old.txs (said_from typed t.controls (place_of t) (lines_of more) failed)) (sym h.1)
    ∙ ap (λ s. said_first s old.txs (said_from typed new.controls (place_of new) (lines_of more) failed)) (sym h.0)
say_line typed old new line rest saying (Err cause) w e h reading more failed =
    not_reading new.stage (ap (λ (t : StreamState). is_reading t.stage) h.1) reading

line_deals : (typed : Typed) (old new : StreamState) (line rest piece : List ℕ) (saying : Saying) (r : Reading Saying) → IsWithin (at_line old line rest true).lines → saying_of typed old.controls old.txs (strip_carriage_return line) ≡ r →
    HasSaidBy r (at_line old line rest true) new false saying → held_of old ++ piece ≡ line ++ (10 ∷ rest) → Deals typed old new piece (said_first saying old.txs) (line ∷ [])
line_deals typed old new line rest piece saying r w e h bytes = record {
  kept = bytes ∙ sym (whole_one line rest) ∙ ap (λ held. whole_lines (line ∷ []) ++ held) (sym (held_line r old new line rest saying h));
  unbroken = All-cons IsPlain line [] w.plain (All-nil IsPlain);
  count = lines_line r old new line rest saying h;
  up_to_stop = λ reading. up_to_line r old new line rest saying h;
  say = say_line typed old new line rest saying r w e h;
}

-- what the last line leaves
held_last : (r : Reading Saying) (old new : StreamState) (line rest : List ℕ) (saying : Saying) → HasSaidBy r (at_line old line rest false) new true saying → held_of new ≡ line ++ rest
held_last (Ok said) old new line rest saying h = ap held_of h.1
held_last (Err cause) old new line rest saying h = ap held_of h.1

lines_last : (r : Reading Saying) (old new : StreamState) (line rest : List ℕ) (saying : Saying) → HasSaidBy r (at_line old line rest false) new true saying → (place_of new).lines ≡ (place_of old).lines
lines_last (Ok said) old new line rest saying h = ap (λ (t : StreamState). (place_of t).lines) h.1
lines_last (Err cause) old new line rest saying h = ap (λ (t : StreamState). (place_of t).lines) h.1

up_to_last : (r : Reading Saying) (old new : StreamState) (line rest : List ℕ) (saying : Saying) → HasSaidBy r (at_line old line rest false) new true saying → IsUpToStop new.stage (place_of new).lines
up_to_last (Ok said) old new line rest saying h = subst (λ (t : StreamState). IsUpToStop t.stage (place_of t).lines) (sym h.1) tt
up_to_last (Err cause) old new line rest saying h = subst (λ (t : StreamState). IsUpToStop t.stage (place_of t).lines) (sym h.1) (omega arith)

-- ---- how far the source was read

pub open_at : (s : StreamState) → s.stage ≡ stage.Reading → reach_of s ≡ reach.Open
open_at s e = ap (λ at. reach_at at s.lines.is_whole) e

reach_line : (typed : Typed) (old new : StreamState) (line rest : List ℕ) (saying : Saying) (r : Reading Saying) → saying_of typed old.controls old.txs (strip_carriage_return line) ≡ r → HasSaidBy r (at_line old line rest true) new false saying → reach.Open ≡ reach_of new
reach_line typed old new line rest saying (Ok said) e h = sym (ap reach_of h.1)
reach_line typed old new line rest saying (Err cause) e h = sym (ap reach_of h.1 ∙ reach_of_line typed old.controls old.txs (strip_carriage_return line) cause true e)

reach_last : (typed : Typed) (old new : StreamState) (line rest : List ℕ) (saying : Saying) (r : Reading Saying) → saying_of typed old.controls old.txs (strip_carriage_return line) ≡ r → HasSaidBy r (at_line old line rest false) new true saying → reach.AtEnd ≡ reach_of new
reach_last typed old new line rest saying (Ok said) e h = sym (ap reach_of h.1)
reach_last typed old new line rest saying (Err cause) e h = sym (ap reach_of h.1 ∙ reach_of_line typed old.controls old.txs (strip_carriage_return line) cause false e)

-- ---- the last line of those

said_something : (saying : Saying) → is_said saying ≡ true → saying ≡ Nothing → ⊥
said_something Nothing e f = let no : ⊥ = cc in absurd no
said_something (Asks tx) e f = cc
said_something (TakesOut watch) e f = cc

line_last : (typed : Typed) (old new : StreamState) (line rest : List ℕ) (saying : Saying) (r : Reading Saying) → saying_of typed old.controls old.txs (strip_carriage_return line) ≡ r → HasSaidBy r (at_line old line rest true) new false saying → is_said saying ≡ true → EndsUnskipped (line ∷ [])
line_last typed old new line rest saying (Ok said) e h some = record {
  front = [];
  line = line;
  are = refl;
  unskipped = unskipped typed old.controls old.txs (strip_carriage_return line) said e (λ none. said_something saying some (h.0 ∙ none));
}
line_last typed old new line rest saying (Err cause) e h some = absurd (said_something saying some h.0)

ends_behind : (first second : List (List ℕ)) → EndsUnskipped second → EndsUnskipped (first ++ second)
ends_behind first second h = record {
  front = first ++ h.front;
  line = h.line;
  are = ap (λ lines. first ++ lines) h.are ∙ sym (append_assoc first h.front (h.line ∷ []));
  unskipped = h.unskipped;
}

-- ---- a line is read and said

-- the line at hand of what came
abbrev SaidAt : Typed → StreamState → StreamState → Bool → Saying → StreamState → Type 0
SaidAt typed mid new last saying at = HasSaidBy (saying_of typed at.controls at.txs (strip_carriage_return at.lines.line)) at new last saying

pub line_reads : (typed : Typed) (old mid new : StreamState) (left left' : Option (List ℕ)) (faults faults' : ℕ) (saying : Saying) → old.stage ≡ stage.Reading → HasNext next.Line old mid left left' faults faults' → HasSaid typed mid new false saying →
    Reads typed old new left left' faults faults' (said_first saying old.txs) (is_said saying)
line_reads typed old mid new left left' faults faults' saying e n h =
    let l = n.comes.0 in
    let said = subst (λ (at : StreamState). SaidAt typed mid new false saying at) l.is h in
    let r = saying_of typed old.controls old.txs (strip_carriage_return l.line) in
    record {
      piece = n.piece;
      far = n.far;
      lines = l.line ∷ [];
      gave = n.gave;
      end = n.end;
      counted = n.counted;
      reached = λ reading. n.comes.1 ∙ reach_line typed old new l.line l.rest saying r refl said;
      deals = line_deals typed old new l.line l.rest n.piece saying r l.within refl said l.bytes_are;
      last = λ some reading. line_last typed old new l.line l.rest saying r refl said some;
      said = λ more failed follow.
          given_reading typed old (n.piece ++ more) failed e
          ∙ ap (λ bytes. said_from typed old.controls (place_of old) (lines_of bytes) failed) (sym (append_assoc (held_of old) n.piece more) ∙ ap (λ w. w ++ more) l.bytes_are)
          ∙ by_line typed old mid new l.line l.rest more failed saying (saying_of typed old.controls old.txs (strip_carriage_return l.line)) l.within refl said;
    }

pub last_reads : (typed : Typed) (old mid new : StreamState) (left left' : Option (List ℕ)) (faults faults' : ℕ) (saying : Saying) → old.stage ≡ stage.Reading → HasNext next.Last old mid left left' faults faults' → HasSaid typed mid new true saying →
    Reads typed old new left left' faults faults' (said_first saying old.txs) (is_said saying)
last_reads typed old mid new left left' faults faults' saying e n h =
    let l = n.comes.0 in
    let said = subst (λ (at : StreamState). SaidAt typed mid new true saying at) l.is h in
    let r = saying_of typed old.controls old.txs (strip_carriage_return l.line) in
    let ended = last_ended r (at_line old l.line l.rest false) new saying said in
    record {
      piece = n.piece;
      far = n.far;
      lines = [];
      gave = n.gave;
      end = n.end;
      counted = n.counted;
      reached = λ reading. n.comes.1 ∙ reach_last typed old new l.line l.rest saying r refl said;
      deals = none_dealt old new n.piece
          (l.bytes_are ∙ ap (λ rest. l.line ++ rest) (sym (l.no_rest refl)) ∙ sym (held_last r old new l.line l.rest saying said))
          (lines_last r old new l.line l.rest saying said)
          (λ reading. up_to_last r old new l.line l.rest saying said) ended typed (said_first saying old.txs);
      last = λ some reading. not_reading new.stage ended reading;
      said = λ more failed follow.
          let over : (more ≡ []) × (failed ≡ false) = subst (λ far. MayFollow far more failed) n.comes.1 follow in
          subst (λ m. given_yet typed old (n.piece ++ m) failed ≡ said_first saying old.txs (given_yet typed new m failed)) (sym over.0)
          (subst (λ f. given_yet typed old (n.piece ++ []) f ≡ said_first saying old.txs (given_yet typed new [] f)) (sym over.1)
          (given_reading typed old (n.piece ++ []) false e
          ∙ ap (λ bytes. said_from typed old.controls (place_of old) (lines_of bytes) false) (ap (λ p. held_of old ++ p) (append-nil n.piece) ∙ l.bytes_are ∙ append-nil l.line)
          ∙ by_last typed old new l.line l.rest saying (saying_of typed old.controls old.txs (strip_carriage_return l.line)) l.within refl said));
    }

pub stop_reads : (typed : Typed) (old new : StreamState) (left left' : Option (List ℕ)) (faults faults' : ℕ) → old.stage ≡ stage.Reading → HasNext next.Stop old new left left' faults faults' → Reads typed old new left left' faults faults' (said_first Nothing old.txs) (is_said Nothing)
stop_reads typed old new left left' faults faults' e n = record {
  piece = n.piece;
  far = n.far;
  lines = [];
  gave = n.gave;
  end = n.end;
  counted = n.counted;
  reached = λ reading. n.comes.reached;
  deals = none_dealt old new n.piece n.comes.kept n.comes.lines (λ reading. n.comes.up_to_stop) n.comes.ended typed (said_first Nothing old.txs);
  last = λ some reading. not_reading new.stage n.comes.ended reading;
  said = λ more failed follow.
      given_reading typed old (n.piece ++ more) failed e
      ∙ ap (λ bytes. said_from typed old.controls (place_of old) (lines_of bytes) failed) (sym (append_assoc (held_of old) n.piece more))
      ∙ n.comes.stops typed more failed follow;
}

-- what a line says and leaves of control lines
controls_by : (r : Reading Saying) (mid new : StreamState) (last : Bool) (saying : Saying) → HasSaidBy r mid new last saying → new.controls ≡ mid.controls
controls_by (Ok said) mid new last saying h = ap (λ (t : StreamState). t.controls) h.1
controls_by (Err cause) mid new last saying h = ap (λ (t : StreamState). t.controls) h.1

no_control_by : (typed : Typed) (old mid new : StreamState) (line : List ℕ) (last : Bool) (saying : Saying) (r : Reading Saying) → saying_of typed old.controls old.txs line ≡ r → HasSaidBy r mid new last saying → old.controls ≡ false → takes_out saying ≡ false
no_control_by typed old mid new line last saying (Ok said) e h none = ap takes_out h.0 ∙ no_control typed old.controls old.txs line said none e
no_control_by typed old mid new line last saying (Err cause) e h none = ap takes_out h.0

-- what else holds then
pub record LineLeaves (old new : StreamState) (faults faults' : ℕ) (saying : Saying) : Type 0 where
  pub counts : new.txs ≡ txs_with saying old.txs
  pub controls : new.controls ≡ old.controls
  pub no_control : old.controls ≡ false → takes_out saying ≡ false
  pub fine : IsFine new.stage
  pub fewer : lines_to_come new < lines_to_come old

pub line_leaves : (typed : Typed) (old mid new : StreamState) (left left' : Option (List ℕ)) (faults faults' : ℕ) (saying : Saying) → old.stage ≡ stage.Reading → HasNext next.Line old mid left left' faults faults' → HasSaid typed mid new false saying → LineLeaves old new faults faults' saying
line_leaves typed old mid new left left' faults faults' saying e n h =
    let l = n.comes.0 in
    let said = subst (λ (at : StreamState). SaidAt typed mid new false saying at) l.is h in
    let r = saying_of typed old.controls old.txs (strip_carriage_return l.line) in
    record {
      counts = counted_by r (at_line old l.line l.rest true) new false saying said;
      controls = controls_by r (at_line old l.line l.rest true) new false saying said;
      no_control = no_control_by typed old (at_line old l.line l.rest true) new (strip_carriage_return l.line) false saying r refl said;
      fine = fine_by r (at_line old l.line l.rest true) new false saying refl said;
      fewer = fewer_by r old new l.line l.rest false saying e l.within said;
    }

pub last_leaves : (typed : Typed) (old mid new : StreamState) (left left' : Option (List ℕ)) (faults faults' : ℕ) (saying : Saying) → old.stage ≡ stage.Reading → HasNext next.Last old mid left left' faults faults' → HasSaid typed mid new true saying → LineLeaves old new faults faults' saying
last_leaves typed old mid new left left' faults faults' saying e n h =
    let l = n.comes.0 in
    let said = subst (λ (at : StreamState). SaidAt typed mid new true saying at) l.is h in
    let r = saying_of typed old.controls old.txs (strip_carriage_return l.line) in
    let within : (place_of old).bytes + bytes_of_line false l.line ≤ MAX_STREAM_BYTES = l.within.bytes in
    record {
      counts = counted_by r (at_line old l.line l.rest false) new true saying said;
      controls = controls_by r (at_line old l.line l.rest false) new true saying said;
      no_control = no_control_by typed old (at_line old l.line l.rest false) new (strip_carriage_return l.line) true saying r refl said;
      fine = fine_by r (at_line old l.line l.rest false) new true saying refl said;
      fewer = fewer_after_stop old new e (omega (arith, within)) (last_ended r (at_line old l.line l.rest false) new saying said);
    }

no_fault : (faults faults' : ℕ) (saying : Saying) → faults' ≡ faults → NoFault saying faults faults'
no_fault faults faults' Nothing e = tt
no_fault faults faults' (Asks tx) e = e
no_fault faults faults' (TakesOut watch) e = e

-- ---- the same of an answer that may be want of memory

module _ {E : Type 0} (typed : Typed) (old mid new : StreamState) (left left' : Option (List ℕ)) (faults faults' : ℕ) (reading : old.stage ≡ stage.Reading) where
  pub line_reads_ok : HasNext next.Line old mid left left' faults faults' → (r : Result Saying E) → IfOk r (HasSaid typed mid new false) → IfOk r (λ saying. Reads typed old new left left' faults faults' (said_first saying old.txs) (is_said saying))
  line_reads_ok n (Ok saying) h = line_reads typed old mid new left left' faults faults' saying reading n h
  line_reads_ok n (Err e) h = tt

  pub line_counts_ok : HasNext next.Line old mid left left' faults faults' → (r : Result Saying E) → IfOk r (HasSaid typed mid new false) → IfOk r (λ saying. new.txs ≡ txs_with saying old.txs)
  line_counts_ok n (Ok saying) h = (line_leaves typed old mid new left left' faults faults' saying reading n h).counts
  line_counts_ok n (Err e) h = tt

  pub line_controls_ok : HasNext next.Line old mid left left' faults faults' → (r : Result Saying E) → IfOk r (HasSaid typed mid new false) → OnOk r (new.controls ≡ old.controls)
  line_controls_ok n (Ok saying) h = (line_leaves typed old mid new left left' faults faults' saying reading n h).controls
  line_controls_ok n (Err e) h = tt

  pub line_no_control_ok : HasNext next.Line old mid left left' faults faults' → (r : Result Saying E) → IfOk r (HasSaid typed mid new false) → old.controls ≡ false → IfOk r (λ saying. takes_out saying ≡ false)
  line_no_control_ok n (Ok saying) h none = (line_leaves typed old mid new left left' faults faults' saying reading n h).no_control none
  line_no_control_ok n (Err e) h none = tt

  pub line_fine_ok : HasNext next.Line old mid left left' faults faults' → (r : Result Saying E) → IfOk r (HasSaid typed mid new false) → OnOk r (IsFine new.stage)
  line_fine_ok n (Ok saying) h = (line_leaves typed old mid new left left' faults faults' saying reading n h).fine
  line_fine_ok n (Err e) h = tt

  pub line_fewer_ok : HasNext next.Line old mid left left' faults faults' → (r : Result Saying E) → IfOk r (HasSaid typed mid new false) → OnOk r (lines_to_come new < lines_to_come old)
  line_fewer_ok n (Ok saying) h = (line_leaves typed old mid new left left' faults faults' saying reading n h).fewer
  line_fewer_ok n (Err e) h = tt

  pub line_no_fault_ok : HasNext next.Line old mid left left' faults faults' → (r : Result Saying E) → IfOk r (HasSaid typed mid new false) → IfOk r (λ saying. NoFault saying faults faults')
  line_no_fault_ok n (Ok saying) h = no_fault faults faults' saying (n.counted ∙ ap (λ far. faults_at far faults) n.comes.1)
  line_no_fault_ok n (Err e) h = tt

  pub last_no_fault_ok : HasNext next.Last old mid left left' faults faults' → (r : Result Saying E) → IfOk r (HasSaid typed mid new true) → IfOk r (λ saying. NoFault saying faults faults')
  last_no_fault_ok n (Ok saying) h = no_fault faults faults' saying (n.counted ∙ ap (λ far. faults_at far faults) n.comes.1)
  last_no_fault_ok n (Err e) h = tt

  pub last_reads_ok : HasNext next.Last old mid left left' faults faults' → (r : Result Saying E) → IfOk r (HasSaid typed mid new true) → IfOk r (λ saying. Reads typed old new left left' faults faults' (said_first saying old.txs) (is_said saying))
  last_reads_ok n (Ok saying) h = last_reads typed old mid new left left' faults faults' saying reading n h
  last_reads_ok n (Err e) h = tt

  pub last_counts_ok : HasNext next.Last old mid left left' faults faults' → (r : Result Saying E) → IfOk r (HasSaid typed mid new true) → IfOk r (λ saying. new.txs ≡ txs_with saying old.txs)
  last_counts_ok n (Ok saying) h = (last_leaves typed old mid new left left' faults faults' saying reading n h).counts
  last_counts_ok n (Err e) h = tt

  pub last_controls_ok : HasNext next.Last old mid left left' faults faults' → (r : Result Saying E) → IfOk r (HasSaid typed mid new true) → OnOk r (new.controls ≡ old.controls)
  last_controls_ok n (Ok saying) h = (last_leaves typed old mid new left left' faults faults' saying reading n h).controls
  last_controls_ok n (Err e) h = tt

  pub last_no_control_ok : HasNext next.Last old mid left left' faults faults' → (r : Result Saying E) → IfOk r (HasSaid typed mid new true) → old.controls ≡ false → IfOk r (λ saying. takes_out saying ≡ false)
  last_no_control_ok n (Ok saying) h none = (last_leaves typed old mid new left left' faults faults' saying reading n h).no_control none
  last_no_control_ok n (Err e) h none = tt

  pub last_fine_ok : HasNext next.Last old mid left left' faults faults' → (r : Result Saying E) → IfOk r (HasSaid typed mid new true) → OnOk r (IsFine new.stage)
  last_fine_ok n (Ok saying) h = (last_leaves typed old mid new left left' faults faults' saying reading n h).fine
  last_fine_ok n (Err e) h = tt

  pub last_fewer_ok : HasNext next.Last old mid left left' faults faults' → (r : Result Saying E) → IfOk r (HasSaid typed mid new true) → OnOk r (lines_to_come new < lines_to_come old)
  last_fewer_ok n (Ok saying) h = (last_leaves typed old mid new left left' faults faults' saying reading n h).fewer
  last_fewer_ok n (Err e) h = tt

-- ---- parts of what was read, one after the other

-- one call and then another: the lines of both
both_deal : (typed : Typed) (a b d : StreamState) (p q : List ℕ) (first second both : StreamSaid → StreamSaid) (k l : List (List ℕ)) → Deals typed a b p first k → b.stage ≡ stage.Reading → Deals typed b d q second l → ((rest : StreamSaid) → first (second rest) ≡ both rest) → Deals typed a d (p ++ q) both (k ++ l)
both_deal typed a b d p q first second both k l r e s g =
    let lines = flat_map-append (λ (line : List ℕ). line ++ 10 ∷ []) k l in
    let one = r.count in
    let two = s.count in
    let all = length-append k l in
    record {
      kept = sym (append_assoc (held_of a) p q)
          ∙ ap (λ held. held ++ q) r.kept
          ∙ append_assoc (whole_lines k) (held_of b) q
          ∙ ap (λ held. whole_lines k ++ held) s.kept
          ∙ sym (append_assoc (whole_lines k) (whole_lines l) (held_of d))
          ∙ ap (λ bytes. bytes ++ held_of d) (sym lines);
      unbroken = All-append IsPlain k l r.unbroken s.unbroken;
      count = omega (arith, one, two, all);
      up_to_stop = λ reading. s.up_to_stop e;
      say = λ reading more failed.
          ap (λ bytes. said_from typed a.controls (place_of a) (lines_of (bytes ++ more)) failed) lines
          ∙ ap (λ bytes. said_from typed a.controls (place_of a) (lines_of bytes) failed) (append_assoc (whole_lines k) (whole_lines l) more)
          ∙ r.say e (whole_lines l ++ more) failed
          ∙ ap first (s.say reading more failed)
          ∙ g (said_from typed d.controls (place_of d) (lines_of more) failed);
    }

pub chain : (typed : Typed) (a b d : StreamState) (l m n : Option (List ℕ)) (f g h : ℕ) (first second both : StreamSaid → StreamSaid) (some settled : Bool) → a.stage ≡ stage.Reading → Reads typed a b l m f g first some → b.stage ≡ stage.Reading → Reads typed b d m n g h second settled → ((rest : StreamSaid) → first (second rest) ≡ both rest) → Reads typed a d l n f h both settled
chain typed a b d l m n f g h first second both some settled at r e s k =
    let going : r.far ≡ reach.Open = r.reached at ∙ open_at b e in
    record {
      piece = r.piece ++ s.piece;
      far = s.far;
      lines = r.lines ++ s.lines;
      gave = Gave-append l m n r.piece s.piece r.gave s.gave;
      end = s.end;
      counted = s.counted ∙ ap (faults_at s.far) (r.counted ∙ ap (λ far. faults_at far f) going);
      reached = λ reading. s.reached e;
      deals = both_deal typed a b d r.piece s.piece first second both r.lines s.lines r.deals e s.deals k;
      last = λ is reading. ends_behind r.lines s.lines (s.last is reading);
      said = λ more failed follow.
          ap (λ bytes. given_yet typed a bytes failed) (append_assoc r.piece s.piece more)
          ∙ r.said (s.piece ++ more) failed (subst (λ far. MayFollow far (s.piece ++ more) failed) (sym going) tt)
          ∙ ap first (s.said more failed follow)
          ∙ k (given_yet typed d more failed);
    }

-- less may be settled
pub less_settled : (typed : Typed) (a b : StreamState) (l m : Option (List ℕ)) (f g : ℕ) (gives : StreamSaid → StreamSaid) (some settled : Bool) → (settled ≡ true → some ≡ true) → Reads typed a b l m f g gives some → Reads typed a b l m f g gives settled
less_settled typed a b l m f g gives some settled h r = record {
  piece = r.piece;
  far = r.far;
  lines = r.lines;
  gave = r.gave;
  end = r.end;
  counted = r.counted;
  reached = r.reached;
  deals = r.deals;
  last = λ is. r.last (h is);
  said = r.said;
}

pub nothing_read : (typed : Typed) (s : StreamState) (left : Option (List ℕ)) (faults : ℕ) → Reads typed s s left left faults faults (with_part [] s.txs None) false
nothing_read typed s left faults = record {
  piece = [];
  far = reach.Open;
  lines = [];
  gave = Gave-nil left;
  end = tt;
  counted = refl;
  reached = λ reading. sym (open_at s reading);
  deals = record {
    kept = append-nil (held_of s);
    unbroken = All-nil IsPlain;
    count = omega arith;
    up_to_stop = λ reading. subst (λ at. IsUpToStop at (place_of s).lines) (sym reading) tt;
    say = λ reading more failed. refl;
  };
  last = λ no. let none : ⊥ = cc in absurd none;
  said = λ more failed follow. refl;
}

-- a saying that is no control line takes out nothing
pub takes_none : {A : Type 0} (saying : Saying) (watch : ℕ) → takes_out saying ≡ false → saying ≡ TakesOut watch → A
takes_none Nothing watch e f = let no : ⊥ = cc in absurd no
takes_none (Asks tx) watch e f = let no : ⊥ = cc in absurd no
takes_none (TakesOut other) watch e f = let no : ⊥ = cc in absurd no

pub on_err : {A E : Type 0} (r : Result A E) (Q : Type 0) → Q → OnErr r Q
on_err (Ok x) Q q = tt
on_err (Err e) Q q = q

pub none_is : (o : Option ℕ) → is_some o ≡ false → o ≡ None
none_is None e = refl
none_is (Some n) e = let no : ⊥ = cc in absurd no

-- ---- a line more of a part

-- so many transactions came, or a control line: no line more is dealt with
abbrev pub is_full : ℕ → ℕ → Option ℕ → Bool
is_full most count off = nat_le most count || is_some off

not_up_to : (most count : ℕ) → count < most → nat_le most count ≡ false
not_up_to most count h = grind arith

pub not_full : (most count : ℕ) (off : Option ℕ) → count < most → off ≡ None → is_full most count off ≡ false
not_full most count off h e = ap (λ o. nat_le most count || is_some o) e ∙ ap (λ b. b || false) (not_up_to most count h)

up_to : (most count : ℕ) → most ≤ count → nat_le most count ≡ true
up_to most count h = grind arith

or_true : (b : Bool) → (b || true) ≡ true
or_true true = refl
or_true false = refl

pub full_of_txs : (most count : ℕ) (off : Option ℕ) → most ≤ count → is_full most count off ≡ true
full_of_txs most count off h = ap (λ b. b || is_some off) (up_to most count h)

pub full_by_off : (most count : ℕ) (off : Option ℕ) → is_some off ≡ true → is_full most count off ≡ true
full_by_off most count off e = ap (λ b. nat_le most count || b) e ∙ or_true (nat_le most count)

pub not_true : (b : Bool) → not b ≡ true → b ≡ false
not_true false e = refl
not_true true e = let no : ⊥ = cc in absurd no

module _ (typed : Typed) (a b d : StreamState) (l m n : Option (List ℕ)) (f g h : ℕ) (txs : List Tx) (before : ℕ) (off : Option ℕ) (some : Bool) (at : a.stage ≡ stage.Reading) where
  pub nothing_step : Reads typed a b l m f g (with_part txs before off) some → b.stage ≡ stage.Reading → (saying : Saying) → saying ≡ Nothing → Reads typed b d m n g h (said_first saying b.txs) (is_said saying) → Reads typed a d l n f h (with_part txs before off) false
  nothing_step r e saying is s =
      chain typed a b d l m n f g h (with_part txs before off) (said_first Nothing b.txs) (with_part txs before off) some false at r e
      (subst (λ saying. Reads typed b d m n g h (said_first saying b.txs) (is_said saying)) is s) (λ rest. refl)

  asks_given : (tx : Tx) → off ≡ None → (rest : StreamSaid) → with_part txs before off (said_first (Asks tx) b.txs rest) ≡ with_part (txs ++ tx ∷ []) before off rest
  asks_given tx none rest =
      subst (λ o. with_part txs before o (said_first (Asks tx) b.txs rest) ≡ with_part (txs ++ tx ∷ []) before o rest) (sym none)
      (ap (λ ts. let s : StreamSaid = record { txs = ts; offs = rest.offs; stop = rest.stop } in s) (sym (append_assoc txs (tx ∷ []) rest.txs)))

  pub asks_step : Reads typed a b l m f g (with_part txs before off) some → b.stage ≡ stage.Reading → off ≡ None → (saying : Saying) (tx : Tx) → saying ≡ Asks tx → Reads typed b d m n g h (said_first saying b.txs) (is_said saying) → Reads typed a d l n f h (with_part (txs ++ tx ∷ []) before off) true
  asks_step r e none saying tx is s =
      chain typed a b d l m n f g h (with_part txs before off) (said_first (Asks tx) b.txs) (with_part (txs ++ tx ∷ []) before off) some true at r e
      (subst (λ saying. Reads typed b d m n g h (said_first saying b.txs) (is_said saying)) is s) (asks_given tx none)

  off_given : (watch : ℕ) → off ≡ None → b.txs ≡ before + length txs → (rest : StreamSaid) → with_part txs before off (said_first (TakesOut watch) b.txs rest) ≡ with_part txs before (Some watch) rest
  off_given watch none count rest =
      ap (λ o. with_part txs before o (said_first (TakesOut watch) b.txs rest)) none
      ∙ ap (λ after. with_txs txs (said_first (TakesOut watch) after rest)) count

  pub off_step : Reads typed a b l m f g (with_part txs before off) some → b.stage ≡ stage.Reading → off ≡ None → b.txs ≡ before + length txs → (saying : Saying) (watch : ℕ) → saying ≡ TakesOut watch → Reads typed b d m n g h (said_first saying b.txs) (is_said saying) → Reads typed a d l n f h (with_part txs before (Some watch)) true
  off_step r e none count saying watch is s =
      chain typed a b d l m n f g h (with_part txs before off) (said_first (TakesOut watch) b.txs) (with_part txs before (Some watch)) some true at r e
      (subst (λ saying. Reads typed b d m n g h (said_first saying b.txs) (is_said saying)) is s) (off_given watch none count)

-- no read failed while reads may go on
pub no_fault_yet : (typed : Typed) (a b : StreamState) (l m : Option (List ℕ)) (f g : ℕ) (gives : StreamSaid → StreamSaid) (some : Bool) → a.stage ≡ stage.Reading → Reads typed a b l m f g gives some → b.stage ≡ stage.Reading → g ≡ f
no_fault_yet typed a b l m f g gives some at r e = r.counted ∙ ap (λ far. faults_at far f) (r.reached at ∙ open_at b e)

-- how far the source was read
pub end_at : (typed : Typed) (a b : StreamState) (l m : Option (List ℕ)) (f g : ℕ) (gives : StreamSaid → StreamSaid) (some : Bool) → a.stage ≡ stage.Reading → Reads typed a b l m f g gives some → left_at (reach_of b) m
end_at typed a b l m f g gives some at r = subst (λ far. left_at far m) (r.reached at) r.end

pub counted_at : (typed : Typed) (a b : StreamState) (l m : Option (List ℕ)) (f g : ℕ) (gives : StreamSaid → StreamSaid) (some : Bool) → a.stage ≡ stage.Reading → Reads typed a b l m f g gives some → g ≡ faults_at (reach_of b) f
counted_at typed a b l m f g gives some at r = r.counted ∙ ap (λ far. faults_at far f) (r.reached at)

-- the bytes of both pieces came
pub both_gave : (l m n : Option (List ℕ)) → GaveSome l m → GaveSome m n → GaveSome l n
both_gave l m n p q = (p.0 ++ q.0, Gave-append l m n p.0 q.0 p.1 q.1)

pub no_fault_asked : (saying : Saying) (tx : Tx) (f g h : ℕ) → saying ≡ Asks tx → NoFault saying g h → g ≡ f → h ≡ f
no_fault_asked saying tx f g h is none e = (subst (λ s. NoFault s g h) is none) ∙ e

pub one_fits : (typed : Typed) (saying : Saying) (tx : Tx) → saying ≡ Asks tx → SayingFits typed saying → Fits typed tx
one_fits typed saying tx is fits = subst (SayingFits typed) is fits
