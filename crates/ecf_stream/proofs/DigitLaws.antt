-- Numbers of two digits at most.
use Rattle.std.proofs.Common.{◌≡◌, ℕ, zero, suc, ◌+◌, ◌-◌, ◌*◌, ◌≤◌, Bool, true, false, ◌&&◌, if◌then◌else◌, List, [], ◌∷◌, Option, Some, None, length, refl, arith}
use Rattle.std.specs.Prelude.{nat_le}
use Rattle.std.specs.Char.{is_ascii_digit}
use Rattle.ecf_decimal.specs.Decimal.{is_numeral, number_value}
use Rattle.ecf_lines.specs.Line.{number_within}

digit : (n : ℕ) → is_ascii_digit n ≡ true → n - 48 ≤ 9
digit n e = grind arith

both : (a b : Bool) → (a && b) ≡ true → (a ≡ true) × (b ≡ true)
both true b e = (refl, e)
both false b e = let no : ⊥ = cc in absurd no

at_most : (word : List ℕ) → length word ≤ 2 → is_numeral word ≡ true → number_value word ≤ 99
at_most [] h e = omega arith
at_most (a ∷ []) h e = let t = both (is_ascii_digit a) true e in let d = digit a t.0 in omega (arith, d)
at_most (a ∷ b ∷ []) h e =
    let t = both (is_ascii_digit a) (is_ascii_digit b && true) e in
    let u = both (is_ascii_digit b) true t.1 in
    let d = digit a t.0 in
    let f = digit b u.0 in
    omega (arith, d, f)
at_most (a ∷ b ∷ d ∷ more) h e = let no : ⊥ = omega (arith, h) in absurd no

same : (b : Bool) (value count : ℕ) → count ≤ 2 → (b ≡ true → value ≤ 99) → (if b && nat_le 0 value && nat_le value 99 then Some value else None) ≡ (if b && nat_le count 2 then Some value else None)
same true value count h few = let most = few refl in grind arith
same false value count h few = refl

pub two_digits : (word : List ℕ) → length word ≤ 2 → number_within 0 99 word ≡ (if is_numeral word && nat_le (length word) 2 then Some (number_value word) else None)
two_digits word h = same (is_numeral word) (number_value word) (length word) h (at_most word h)
