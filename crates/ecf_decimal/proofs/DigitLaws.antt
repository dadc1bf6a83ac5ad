-- The value of digits, digit by digit.
use Rattle.std.proofs.Common.{◌≡◌, ℕ, ◌+◌, ◌-◌, ◌*◌, ◌<◌, ◌≤◌, List, [], ◌∷◌, length, get_or, drop, sym, ap, ◌∙◌, arith, add-one, drop-cons}
use Rattle.std.specs.List.{fold}

-- the value of digits behind a value
abbrev pub value_from : ℕ → List ℕ → ℕ
value_from value digits = fold (λ value digit. 10 * value + (digit - 48)) value digits

pub value_grows : (v : ℕ) (xs : List ℕ) → v ≤ value_from v xs
value_grows v [] = omega arith
value_grows v (x ∷ xs) = omega (arith, value_grows (10 * v + (x - 48)) xs)

pub next_digit : (v i : ℕ) (xs : List ℕ) → i < length xs → value_from v (drop i xs) ≡ value_from (10 * v + (get_or xs i 0 - 48)) (drop (i + 1) xs)
next_digit v i xs h = ap (value_from v) (drop-cons xs i 0 h) ∙ ap (λ t. value_from (10 * v + (get_or xs i 0 - 48)) (drop t xs)) (sym (add-one i))
