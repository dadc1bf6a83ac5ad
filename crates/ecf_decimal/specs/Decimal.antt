-- Numerals of decimal digits, and their values.
use Rattle.std.specs.Prelude.{ℕ, ◌+◌, ◌-◌, ◌*◌, Bool, false, List, [], ◌∷◌, fold}
use Rattle.std.specs.List.{list_all}
use Rattle.std.specs.Char.{is_ascii_digit}

-- one digit or more, and nothing else
abbrev pub is_numeral : List ℕ → Bool
is_numeral [] = false
is_numeral (first ∷ more) = list_all is_ascii_digit (first ∷ more)

-- the value of decimal digits, which may begin with zeros
abbrev pub number_value : List ℕ → ℕ
number_value digits = fold (λ value digit. 10 * value + (digit - 48)) 0 digits
