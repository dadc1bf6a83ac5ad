-- The decimal digits of a number are a numeral with its value.
use Rattle.std.proofs.Common.{◌≡◌, ℕ, ◌+◌, ◌-◌, ◌*◌, ◌/◌, ◌%◌, ◌^◌, ◌<◌, ◌≤◌, Bool, true, false, ◌&&◌, List, [], ◌∷◌, ◌++◌, refl, ap, ◌∙◌, arith, decimal, fold}
use Rattle.std.specs.List.{list_all}
use Rattle.std.specs.Char.{is_ascii_digit}
use Rattle.std.proofs.lemmas.Bool.Decides.{nat_tests}
use Rattle.std.proofs.lemmas.Fmt.{decimal_by_steps_wide}
use Rattle.ecf_decimal.specs.Decimal.{is_numeral, number_value}

pub and_parts : (a b : Bool) → (a && b) ≡ true → (a ≡ true) × (b ≡ true)
and_parts true b h = (refl, h)
and_parts false b h = absurd cc

pub and_both : (a b : Bool) → a ≡ true → b ≡ true → (a && b) ≡ true
and_both true b h g = g
and_both false b h g = absurd cc

-- the value so far, and one digit more
abbrev value_step : ℕ → ℕ → ℕ
value_step value digit = 10 * value + (digit - 48)

fold_end : (start : ℕ) (ds : List ℕ) (d : ℕ) → fold value_step start (ds ++ d ∷ []) ≡ value_step (fold value_step start ds) d
fold_end start [] d = refl
fold_end start (e ∷ ds) d = fold_end (value_step start e) ds d

digits_end : (ds : List ℕ) (d : ℕ) → list_all is_ascii_digit ds ≡ true → is_ascii_digit d ≡ true → list_all is_ascii_digit (ds ++ d ∷ []) ≡ true
digits_end [] d are is = and_both (is_ascii_digit d) true is refl
digits_end (e ∷ ds) d are is =
    let parts = and_parts (is_ascii_digit e) (list_all is_ascii_digit ds) are in
    and_both (is_ascii_digit e) (list_all is_ascii_digit (ds ++ d ∷ [])) parts.0 (digits_end ds d parts.1 is)

digit_of : (n : ℕ) → n < 10 → is_ascii_digit (48 + n) ≡ true
digit_of n h = grind (arith, nat_tests)

-- digits, and the number that they are
record AreDigitsOf (n : ℕ) (ds : List ℕ) : Type 0 where
  numeral : is_numeral ds ≡ true
  value : number_value ds ≡ n

one_digit : (n : ℕ) → n < 10 → AreDigitsOf n ((48 + n) ∷ [])
one_digit n h = record { numeral = and_both (is_ascii_digit (48 + n)) true (digit_of n h) refl; value = omega arith }

numeral_end : (ds : List ℕ) (d : ℕ) → is_numeral ds ≡ true → is_ascii_digit d ≡ true → is_numeral (ds ++ d ∷ []) ≡ true
numeral_end [] d are is = absurd cc
numeral_end (e ∷ ds) d are is = digits_end (e ∷ ds) d are is

one_more : (n : ℕ) (ds : List ℕ) → 10 ≤ n → AreDigitsOf (n / 10) ds → AreDigitsOf n (ds ++ ((48 + n % 10) ∷ []))
one_more n ds h are =
    let last : 10 * (n / 10) + ((48 + n % 10) - 48) ≡ n = omega arith in
    let small : n % 10 < 10 = omega arith in
    record {
      numeral = numeral_end ds (48 + n % 10) are.numeral (digit_of (n % 10) small);
      value = fold_end 0 ds (48 + n % 10) ∙ ap (λ v. value_step v (48 + n % 10)) are.value ∙ last;
    }

wide : (n : ℕ) → n < 2 ^ 128 → n < 10 ^ 64
wide n h = omega arith

digits_of : (n : ℕ) → n < 2 ^ 128 → AreDigitsOf n (decimal n)
digits_of n h = decimal_by_steps_wide AreDigitsOf one_digit one_more n (wide n h)

pub decimal_numeral : (n : ℕ) → n < 2 ^ 128 → is_numeral (decimal n) ≡ true
decimal_numeral n h = (digits_of n h).numeral

pub decimal_value : (n : ℕ) → n < 2 ^ 128 → number_value (decimal n) ≡ n
decimal_value n h = (digits_of n h).value
