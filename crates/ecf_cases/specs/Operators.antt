-- The eleven operators, each at a few pairs of numbers.
use Rattle.std.specs.Prelude.{◌≡◌, ℕ, List, [], ◌∷◌, map, Result, Ok, Err}
use Rattle.ecf_lang.specs.declared.run.Cause.{Cause}
use Rattle.ecf_lang.specs.declared.run.Cause.TheVariants.{Overflow, DivZero}
use Rattle.ecf_lang.specs.declared.tree.Op.TheVariants.{Add, Sub, Mul, Div, Rem, Eq, Ne, Lt, Le, Gt, Ge}
use Rattle.ecf_lang.specs.Meaning.{op_value}

-- `+`, `-`, `*`, `/`, `%`, `==`, `!=`, `<`, `<=`, `>` and `>=` of two numbers
abbrev pub all_at : ℕ → ℕ → List (Result ℕ Cause)
all_at x y = map (λ op. op_value op x y) (Add ∷ Sub ∷ Mul ∷ Div ∷ Rem ∷ Eq ∷ Ne ∷ Lt ∷ Le ∷ Gt ∷ Ge ∷ [])

-- of a greater and a smaller number
abbrev pub AtGreater : Type 0
AtGreater = all_at 7 3 ≡ Ok 10 ∷ Ok 4 ∷ Ok 21 ∷ Ok 2 ∷ Ok 1 ∷ Ok 0 ∷ Ok 1 ∷ Ok 0 ∷ Ok 0 ∷ Ok 1 ∷ Ok 1 ∷ []

-- of a smaller and a greater one
abbrev pub AtSmaller : Type 0
AtSmaller = all_at 3 7 ≡ Ok 10 ∷ Err Overflow ∷ Ok 21 ∷ Ok 0 ∷ Ok 3 ∷ Ok 0 ∷ Ok 1 ∷ Ok 1 ∷ Ok 1 ∷ Ok 0 ∷ Ok 0 ∷ []

-- of equal numbers
abbrev pub AtEqual : Type 0
AtEqual = all_at 5 5 ≡ Ok 10 ∷ Ok 0 ∷ Ok 25 ∷ Ok 1 ∷ Ok 0 ∷ Ok 1 ∷ Ok 0 ∷ Ok 0 ∷ Ok 1 ∷ Ok 0 ∷ Ok 1 ∷ []

-- with 0 on the right
abbrev pub AtZero : Type 0
AtZero = all_at 6 0 ≡ Ok 6 ∷ Ok 6 ∷ Ok 0 ∷ Err DivZero ∷ Err DivZero ∷ Ok 0 ∷ Ok 1 ∷ Ok 0 ∷ Ok 0 ∷ Ok 1 ∷ Ok 1 ∷ []

-- with 0 on the left
abbrev pub AtZeroLeft : Type 0
AtZeroLeft = all_at 0 6 ≡ Ok 6 ∷ Err Overflow ∷ Ok 0 ∷ Ok 0 ∷ Ok 0 ∷ Ok 0 ∷ Ok 1 ∷ Ok 1 ∷ Ok 1 ∷ Ok 0 ∷ Ok 0 ∷ []
