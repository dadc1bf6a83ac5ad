-- Which histories of a sum are legal, and the sum after one.
use Rattle.std.specs.Prelude.{ℕ, ◌+◌, Bool, true, ◌&&◌, ◌==◌, nat_le, List, [], ◌∷◌}
use Rattle.ecf_crew_tests.specs.declared.sum.Entry.{Entry}

-- an addition
abbrev pub entry : ℕ → ℕ → Entry
entry amount reply = record { amount = amount; reply = reply }

-- each addition was told the sum after it, which is no more than the limit; the sum before the first is given
abbrev pub is_legal : ℕ → ℕ → List Entry → Bool
is_legal limit sum [] = true
is_legal limit sum (e ∷ es) = (e.reply == sum + e.amount) && nat_le e.reply limit && is_legal limit e.reply es

-- the sum after these additions to a sum
abbrev pub sum_from : ℕ → List Entry → ℕ
sum_from sum [] = sum
sum_from sum (e ∷ es) = sum_from e.reply es

-- the sum after all additions
abbrev pub sum_of : List Entry → ℕ
sum_of es = sum_from 0 es
