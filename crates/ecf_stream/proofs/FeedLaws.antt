-- What a piece of a stream does to the line at hand.
use Rattle.std.proofs.Common.{◌≡◌, ◌≢◌, ℕ, zero, suc, ◌+◌, ◌-◌, ◌^◌, ◌<◌, ◌≤◌, Bool, true, false, cond, ◌&&◌, ltb, leb, List, [], ◌∷◌, ◌++◌, length, take, drop, Option, Some, None, refl, sym, ap, subst, ◌∙◌, arith, length-append, ltb-true, ltb-false, leb-true, leb-false}
use Rattle.std.specs.Prelude.{All, nat_lt, nat_le, if◌then◌else◌}
use Rattle.std.specs.List.{position_or_len}
use Rattle.std.proofs.lemmas.List.{length-take-le, get_or-take}
use Rattle.std.proofs.lemmas.List.Elements.{All-from_get_or, All-append}
use Rattle.std.proofs.lemmas.List.Sums.{prefix_len-le-length, split_at_first, passes_at_first, fails_before_first}
use Rattle.ecf_lang.specs.declared.receipt.StopCause.{StopCause}
use Rattle.ecf_lang.specs.declared.receipt.StopCause.TheVariants.{Long, Bytes}
use Rattle.ecf_lines.specs.Stream.{is_lf, bytes_of_line, limit_passed}
use Rattle.ecf_stream.specs.declared.line_reader.Fed.{Fed}
use Rattle.ecf_stream.specs.declared.line_reader.Fed.TheVariants as fed
use Rattle.ecf_stream.specs.LineState.{LineState, opened, part_of, has_lf, limit_passed_with, answer_by, state_by, answer_unless, state_unless, answer_to, state_after, IsWithin}

-- the limit by numbers: that of a line of so many bytes, with an LF of one byte or none
abbrev pub limit_by : ℕ → ℕ → ℕ → ℕ → ℕ → Option StopCause
limit_by most_line most_bytes before count lf =
    if nat_lt most_line count && nat_le (before + most_line) most_bytes then Some Long
    else if nat_lt most_bytes (before + (count + lf)) then Some Bytes
    else None

-- a limit that was passed stays passed
later : (most_line most_bytes before count more lf : ℕ) (cause : StopCause) → limit_by most_line most_bytes before count 0 ≡ Some cause → limit_by most_line most_bytes before (count + more) lf ≡ Some cause
later most_line most_bytes before count more lf cause e = by (ltb most_line count) (leb (before + most_line) most_bytes) (ltb most_bytes (before + (count + 0))) refl refl refl e where
  by : (a b d : Bool) → ltb most_line count ≡ a → leb (before + most_line) most_bytes ≡ b → ltb most_bytes (before + (count + 0)) ≡ d → cond (a && b) (Some Long) (cond d (Some Bytes) None) ≡ Some cause → limit_by most_line most_bytes before (count + more) lf ≡ Some cause
  by true true d p q r e = long (ltb-true most_line count p) (leb-true (before + most_line) most_bytes q) ∙ e where
    long : most_line < count → before + most_line ≤ most_bytes → limit_by most_line most_bytes before (count + more) lf ≡ Some Long
    long h k = grind arith
  by true false true p q r e = over (leb-false (before + most_line) most_bytes q) (ltb-true most_bytes (before + (count + 0)) r) ∙ e where
    over : most_bytes < before + most_line → most_bytes < before + (count + 0) → limit_by most_line most_bytes before (count + more) lf ≡ Some Bytes
    over h k = grind arith
  by false true true p q r e = over (ltb-false most_line count p) (leb-true (before + most_line) most_bytes q) (ltb-true most_bytes (before + (count + 0)) r) ∙ e where
    over : count ≤ most_line → before + most_line ≤ most_bytes → most_bytes < before + (count + 0) → limit_by most_line most_bytes before (count + more) lf ≡ Some Bytes
    over h k l = let no : ⊥ = omega (arith, h, k, l) in absurd no
  by false false true p q r e = over (leb-false (before + most_line) most_bytes q) (ltb-true most_bytes (before + (count + 0)) r) ∙ e where
    over : most_bytes < before + most_line → most_bytes < before + (count + 0) → limit_by most_line most_bytes before (count + more) lf ≡ Some Bytes
    over h k = grind arith
  by true false false p q r e = let no : ⊥ = cc in absurd no
  by false true false p q r e = let no : ⊥ = cc in absurd no
  by false false false p q r e = let no : ⊥ = cc in absurd no

pub passed_later : (most_line most_bytes before : ℕ) (ended : Bool) (line more : List ℕ) (cause : StopCause) → limit_passed most_line most_bytes before false line ≡ Some cause → limit_passed most_line most_bytes before ended (line ++ more) ≡ Some cause
passed_later most_line most_bytes before ended line more cause e = ap (λ n. limit_by most_line most_bytes before n (cond ended 1 0)) (length-append line more) ∙ later most_line most_bytes before (length line) (length more) (cond ended 1 0) cause e

-- within the limits none is passed
none_by : (most_line most_bytes before count lf : ℕ) → count ≤ most_line → before + (count + lf) ≤ most_bytes → limit_by most_line most_bytes before count lf ≡ None
none_by most_line most_bytes before count lf h k = grind arith

pub none_passed : (s : LineState) → IsWithin s → limit_passed s.most_line s.most_bytes s.bytes s.is_whole s.line ≡ None
none_passed s w = none_by s.most_line s.most_bytes s.bytes (length s.line) (cond s.is_whole 1 0) w.line w.bytes

kept_by : (most_line most_bytes before count lf : ℕ) → limit_by most_line most_bytes before count lf ≡ None → (count ≤ most_line) × (before + (count + lf) ≤ most_bytes)
kept_by most_line most_bytes before count lf e = by (ltb most_line count) (leb (before + most_line) most_bytes) (ltb most_bytes (before + (count + lf))) refl refl refl e where
  by : (a b d : Bool) → ltb most_line count ≡ a → leb (before + most_line) most_bytes ≡ b → ltb most_bytes (before + (count + lf)) ≡ d → (let o : Option StopCause = cond (a && b) (Some Long) (cond d (Some Bytes) None) in o) ≡ None → (count ≤ most_line) × (before + (count + lf) ≤ most_bytes)
  by true true d p q r e = let no : ⊥ = cc in absurd no
  by true false true p q r e = let no : ⊥ = cc in absurd no
  by false true true p q r e = let no : ⊥ = cc in absurd no
  by false false true p q r e = let no : ⊥ = cc in absurd no
  by true false false p q r e =
      let h = ltb-true most_line count p in
      let k = leb-false (before + most_line) most_bytes q in
      let l = ltb-false most_bytes (before + (count + lf)) r in
      let no : ⊥ = omega (arith, h, k, l) in absurd no
  by false b false p q r e = (ltb-false most_line count p, ltb-false most_bytes (before + (count + lf)) r)

-- where no limit is passed the line is within both
pub limits_kept : (most_line most_bytes before : ℕ) (ended : Bool) (line : List ℕ) → limit_passed most_line most_bytes before ended line ≡ None → (length line ≤ most_line) × (before + bytes_of_line ended line ≤ most_bytes)
limits_kept most_line most_bytes before ended line e = kept_by most_line most_bytes before (length line) (cond ended 1 0) e

-- the line at hand with more bytes
pub within_more : (old new : LineState) (part : List ℕ) → IsWithin old → new.most_line ≡ old.most_line → new.most_bytes ≡ old.most_bytes → new.lines ≡ old.lines → new.bytes ≡ old.bytes → new.line ≡ old.line ++ part →
    All (λ byte. is_lf byte ≡ false) part → limit_passed old.most_line old.most_bytes old.bytes new.is_whole (old.line ++ part) ≡ None → IsWithin new
within_more old new part w same_line same_bytes lines bytes line plain e =
    let kept = limits_kept old.most_line old.most_bytes old.bytes new.is_whole (old.line ++ part) e in
    record {
      small_line = subst (λ n. n < 2 ^ 32 - 1) (sym same_line) w.small_line;
      small_stream = subst (λ n. n < 2 ^ 32 - 1) (sym same_bytes) w.small_stream;
      lines = rw (lines, bytes) w.lines;
      line = rw (line, same_line) kept.0;
      bytes = rw (bytes, line, same_bytes) kept.1;
      plain = subst (All (λ byte. is_lf byte ≡ false)) (sym line) (All-append (λ byte. is_lf byte ≡ false) old.line part w.plain plain);
    }

-- only these limits are passed
only_these : (a b : Bool) (cause : StopCause) → cond a (Some Long) (cond b (Some Bytes) None) ≡ Some cause → cause ≢ Long → cause ≡ Bytes
only_these true b cause e other = absurd (other (sym (long cause e))) where
  long : (cause : StopCause) → (let o : Option StopCause = Some Long in o) ≡ Some cause → Long ≡ cause
  long cause e = cc
only_these false true cause e other = cc
only_these false false cause e other = let no : ⊥ = cc in absurd no

-- the answers, and what each says
not_line : (b : Bool) (n : ℕ) → (if b then fed.Line n else fed.More) ≡ fed.More → b ≡ false
not_line false n e = refl
not_line true n e = let no : ⊥ = cc in absurd no

is_line : (b : Bool) (n m : ℕ) → (if b then fed.Line n else fed.More) ≡ fed.Line m → (b ≡ true) × (n ≡ m)
is_line true n m e = (refl, grind arith)
is_line false n m e = let no : ⊥ = cc in absurd no

no_long : (b : Bool) (n m : ℕ) → (if b then fed.Line n else fed.More) ≡ fed.Long m → ⊥
no_long true n m e = cc
no_long false n m e = cc

no_bytes : (b : Bool) (n m : ℕ) → (if b then fed.Line n else fed.More) ≡ fed.Bytes m → ⊥
no_bytes true n m e = cc
no_bytes false n m e = cc

pub more_answered : (s : LineState) (piece : List ℕ) (limit : Option StopCause) → answer_by s piece limit ≡ fed.More → (limit ≡ None) × (has_lf piece ≡ false)
more_answered s piece None e = (refl, not_line (has_lf piece) _ e)
more_answered s piece (Some Long) e = let no : ⊥ = cc in absurd no
more_answered s piece (Some other) e = let no : ⊥ = cc in absurd no

pub line_answered : (s : LineState) (piece : List ℕ) (limit : Option StopCause) (taken : ℕ) → answer_by s piece limit ≡ fed.Line taken → (limit ≡ None) × (has_lf piece ≡ true) × (length (part_of piece) + 1 ≡ taken)
line_answered s piece None taken e = let t = is_line (has_lf piece) (length (part_of piece) + 1) taken e in (refl, t.0, t.1)
line_answered s piece (Some Long) taken e = let no : ⊥ = cc in absurd no
line_answered s piece (Some other) taken e = let no : ⊥ = cc in absurd no

pub long_answered : (s : LineState) (piece : List ℕ) (limit : Option StopCause) (taken : ℕ) → answer_by s piece limit ≡ fed.Long taken → limit ≡ Some Long
long_answered s piece None taken e = absurd (no_long (has_lf piece) _ taken e)
long_answered s piece (Some Long) taken e = refl
long_answered s piece (Some other) taken e = let no : ⊥ = cc in absurd no

-- some limit is passed, and not that of the line
pub data IsOther : Option StopCause → Type 0 where
  other : (cause : StopCause) → cause ≢ Long → IsOther (Some cause)

pub bytes_answered : (s : LineState) (piece : List ℕ) (limit : Option StopCause) (taken : ℕ) → answer_by s piece limit ≡ fed.Bytes taken → IsOther limit
bytes_answered s piece None taken e = absurd (no_bytes (has_lf piece) _ taken e)
bytes_answered s piece (Some Long) taken e = let no : ⊥ = cc in absurd no
bytes_answered s piece (Some cause) taken e = other cause (λ is. let no : ⊥ = cc in absurd no)

-- and so it is that of the stream
pub only_bytes : (most_line most_bytes before : ℕ) (ended : Bool) (line : List ℕ) → IsOther (limit_passed most_line most_bytes before ended line) → limit_passed most_line most_bytes before ended line ≡ Some Bytes
only_bytes most_line most_bytes before ended line o = by (nat_lt most_line (length line) && nat_le (before + most_line) most_bytes) (nat_lt most_bytes (before + bytes_of_line ended line)) o where
  by : (a b : Bool) → IsOther (cond a (Some Long) (cond b (Some Bytes) None)) → (let o : Option StopCause = cond a (Some Long) (cond b (Some Bytes) None) in o) ≡ Some Bytes
  by true b (other cause differs) = absurd (differs refl)
  by false true o = refl
  by false false o = elim o [ ]

-- the length of the first part of a piece
abbrev place_of : List ℕ → ℕ
place_of piece = position_or_len is_lf piece

part_length : (piece : List ℕ) → length (part_of piece) ≡ place_of piece
part_length piece = length-take-le (place_of piece) piece (prefix_len-le-length _ piece)

below : (m n : ℕ) → nat_lt m n ≡ true → m < n
below m n e = grind arith

not_below : (m n : ℕ) → nat_lt m n ≡ false → n ≤ m
not_below m n e = grind arith

is_ten : (n : ℕ) → is_lf n ≡ true → n ≡ 10
is_ten n e = grind arith

-- a piece with an LF: its first part, the LF and the rest
pub split_at_lf : (piece : List ℕ) → has_lf piece ≡ true → piece ≡ part_of piece ++ (10 ∷ drop (length (part_of piece) + 1) piece)
split_at_lf piece e =
    let within : place_of piece < length piece = subst (λ n. n < length piece) (part_length piece) (below (length (part_of piece)) (length piece) e) in
    split_at_first is_lf piece 0 within
    ∙ ap (λ n. part_of piece ++ (n ∷ drop (place_of piece + 1) piece)) (is_ten _ (passes_at_first is_lf piece 0 within))
    ∙ ap (λ n. part_of piece ++ (10 ∷ drop (n + 1) piece)) (sym (part_length piece))

take_past : (n : ℕ) (xs : List ℕ) → length xs ≤ n → take n xs ≡ xs
take_past zero [] h = refl
take_past (suc n) [] h = refl
take_past zero (x ∷ xs) h = let no : ⊥ = omega (arith, h) in absurd no
take_past (suc n) (x ∷ xs) h = ap (λ ys. x ∷ ys) (take_past n xs (omega (arith, h)))

-- a piece without LF is one part
pub whole_part : (piece : List ℕ) → has_lf piece ≡ false → part_of piece ≡ piece
whole_part piece e = take_past (place_of piece) piece (subst (λ n. length piece ≤ n) (part_length piece) (not_below (length (part_of piece)) (length piece) e))

-- no LF stands in the first part
pub plain_part : (piece : List ℕ) → All (λ byte. is_lf byte ≡ false) (part_of piece)
plain_part piece = All-from_get_or (λ byte. is_lf byte ≡ false) (part_of piece) 0 (λ k h.
    let within : k < place_of piece = subst (λ n. k < n) (part_length piece) h in
    subst (λ n. is_lf n ≡ false) (sym (get_or-take (place_of piece) piece k 0 within)) (fails_before_first is_lf piece k 0 within))
