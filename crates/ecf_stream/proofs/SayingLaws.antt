-- What lines say, the first line taken off.
use Rattle.std.proofs.Common.{◌≡◌, ℕ, zero, suc, ◌+◌, ◌<◌, Bool, true, false, List, [], ◌∷◌, ◌++◌, length, Option, Some, None, Err, refl, sym, ap, subst, ◌∙◌, arith, append_assoc}
use Rattle.std.specs.Prelude.{All}
use Rattle.std.specs.Str.Lines.{strip_carriage_return}
use Rattle.std.proofs.lemmas.List.Elements.{All-append}
use Rattle.std.proofs.lemmas.List.Splits.{slice_split_none, slice_split_at, length-slice_split}
use Rattle.ecf_lang.specs.declared.limits.TheConstants.{MAX_LINE_BYTES, MAX_STREAM_BYTES}
use Rattle.ecf_lang.specs.declared.receipt.Stop.{Stop}
use Rattle.ecf_lang.specs.declared.receipt.StopCause.{StopCause}
use Rattle.ecf_lang.specs.declared.receipt.StopCause.TheVariants.{Read}
use Rattle.ecf_lang.specs.declared.typed.Typed.{Typed}
use Rattle.ecf_lines.specs.Line.{Reading}
use Rattle.ecf_lines.specs.declared.saying.Saying.{Saying}
use Rattle.ecf_lines.specs.Stream.{is_lf, lines_of, limit_passed, saying_of, unless_passed, Place, saying_at, last_saying_at, place_behind, StreamSaid, nothing_said, said_with, said_from}
use Rattle.ecf_stream.specs.LineState.{part_of, has_lf}
use Rattle.ecf_stream.specs.StreamState.{only_stop}
use Rattle.ecf_stream.proofs.FeedLaws.{passed_later, split_at_lf, whole_part, plain_part}

-- no LF stands in these bytes
abbrev pub IsPlain : List ℕ → Type 0
IsPlain line = All (λ byte. is_lf byte ≡ false) line

-- the stop at a place
abbrev pub stop_at : Place → StopCause → StreamSaid
stop_at at cause = only_stop (Some (record { line = at.lines + 1; cause = cause }))

some_line : (xs : List (List ℕ)) → 0 < length xs → (first : List ℕ) × (others : List (List ℕ)) × (xs ≡ first ∷ others)
some_line [] h = let no : ⊥ = omega (arith, h) in absurd no
some_line (x ∷ xs) h = (x, xs, refl)

-- a stream has a line, if only an empty one
pub lines_some : (bytes : List ℕ) → (first : List ℕ) × (others : List (List ℕ)) × (lines_of bytes ≡ first ∷ others)
lines_some bytes = let count = length-slice_split is_lf bytes in some_line (lines_of bytes) (omega (arith, count))

-- the first line, ended by an LF
pub said_line : (typed : Typed) (controls : Bool) (at : Place) (line rest : List ℕ) (failed : Bool) → IsPlain line →
    said_from typed controls at (lines_of (line ++ (10 ∷ rest))) failed
    ≡ said_with at (saying_at typed controls at true line) (λ saying. said_from typed controls (place_behind at line saying) (lines_of rest) failed)
unfolding said_from
said_line typed controls at line rest failed plain =
    let more = lines_some rest in
    ap (λ lines. said_from typed controls at lines failed) (slice_split_at is_lf line 10 rest plain refl)
    ∙ ap (λ lines. said_from typed controls at (line ∷ lines) failed) more.2
    ∙ sym (ap (λ lines. said_with at (saying_at typed controls at true line) (λ saying. said_from typed controls (place_behind at line saying) lines failed)) more.2)

-- the last line
pub said_last : (typed : Typed) (controls : Bool) (at : Place) (line : List ℕ) (failed : Bool) → IsPlain line →
    said_from typed controls at (lines_of line) failed ≡ said_with at (last_saying_at typed controls at failed line) (λ saying. nothing_said)
unfolding said_from
said_last typed controls at line failed plain = ap (λ lines. said_from typed controls at lines failed) (slice_split_none is_lf line plain)

-- ---- lines that pass a limit

unless : (limit : Option StopCause) (cause : StopCause) (r : Reading Saying) → limit ≡ Some cause → unless_passed limit r ≡ Err cause
unless limit cause r e = rw e refl

-- a line that an LF ended
pub ended_passes : (typed : Typed) (controls : Bool) (at : Place) (line rest : List ℕ) (failed : Bool) (cause : StopCause) → IsPlain line →
    limit_passed MAX_LINE_BYTES MAX_STREAM_BYTES at.bytes true line ≡ Some cause → said_from typed controls at (lines_of (line ++ (10 ∷ rest))) failed ≡ stop_at at cause
ended_passes typed controls at line rest failed cause plain e =
    said_line typed controls at line rest failed plain
    ∙ ap (λ r. said_with at r (λ saying. said_from typed controls (place_behind at line saying) (lines_of rest) failed)) (unless (limit_passed MAX_LINE_BYTES MAX_STREAM_BYTES at.bytes true line) cause (saying_of typed controls at.txs (strip_carriage_return line)) e)

last_passes : (typed : Typed) (controls : Bool) (at : Place) (line : List ℕ) (failed : Bool) (cause : StopCause) → IsPlain line →
    limit_passed MAX_LINE_BYTES MAX_STREAM_BYTES at.bytes false line ≡ Some cause → said_from typed controls at (lines_of line) failed ≡ stop_at at cause
last_passes typed controls at line failed cause plain e = said_last typed controls at line failed plain ∙ ap (λ r. said_with at r (λ saying. nothing_said)) (passes failed) where
  passes : (failed : Bool) → last_saying_at typed controls at failed line ≡ Err cause
  passes false = unless (limit_passed MAX_LINE_BYTES MAX_STREAM_BYTES at.bytes false line) cause (saying_of typed controls at.txs (strip_carriage_return line)) e
  passes true = unless (limit_passed MAX_LINE_BYTES MAX_STREAM_BYTES at.bytes false line) cause (Err Read) e

-- a line that isn't ended yet, however it goes on
pub open_passes : (typed : Typed) (controls : Bool) (at : Place) (line more : List ℕ) (failed : Bool) (cause : StopCause) → IsPlain line →
    limit_passed MAX_LINE_BYTES MAX_STREAM_BYTES at.bytes false line ≡ Some cause → said_from typed controls at (lines_of (line ++ more)) failed ≡ stop_at at cause
open_passes typed controls at line more failed cause plain e = by (has_lf more) refl where
  by : (b : Bool) → has_lf more ≡ b → said_from typed controls at (lines_of (line ++ more)) failed ≡ stop_at at cause
  by true has =
      ap (λ bytes. said_from typed controls at (lines_of (line ++ bytes)) failed) (split_at_lf more has)
      ∙ ap (λ bytes. said_from typed controls at (lines_of bytes) failed) (sym (append_assoc line (part_of more) _))
      ∙ ended_passes typed controls at (line ++ part_of more) _ failed cause (All-append (λ byte. is_lf byte ≡ false) line (part_of more) plain (plain_part more)) (passed_later MAX_LINE_BYTES MAX_STREAM_BYTES at.bytes true line (part_of more) cause e)
  by false none =
      let all : IsPlain more = subst IsPlain (whole_part more none) (plain_part more) in
      last_passes typed controls at (line ++ more) failed cause (All-append (λ byte. is_lf byte ≡ false) line more plain all) (passed_later MAX_LINE_BYTES MAX_STREAM_BYTES at.bytes false line more cause e)
