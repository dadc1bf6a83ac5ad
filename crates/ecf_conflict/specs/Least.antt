-- A step that puts its invocation before another, and the least of a list that passes a test.
use Rattle.std.specs.Prelude.{◌≡◌, ◌≤◌, ℕ, Bool, true, false, ◌&&◌, ◌==◌, nat_lt, List, Option, Some, None, Contains}
use Rattle.std.specs.List.{list_any}
use Rattle.ecf_lang.specs.declared.run.Step.{Step}
use Rattle.ecf_verdicts.specs.Conflicts.{conflicts}

-- the step is of i, and one of j among the later ones conflicts with it
abbrev pub begins : Step → List Step → ℕ → ℕ → Bool
begins s later i j = (s.inv == i) && list_any (λ u. (u.inv == j) && conflicts s u) later

-- i is the least of a list that passes a test
pub record IsLeast (p : ℕ → Bool) (list : List ℕ) (i : ℕ) : Type 0 where
  pub member : Contains list i
  pub passes : p i ≡ true
  pub least : (k : ℕ) → Contains list k → p k ≡ true → i ≤ k

-- the least of a list that passes a test, or none where none does
abbrev pub TellsLeast : (ℕ → Bool) → List ℕ → Option ℕ → Type 0
TellsLeast p list None = (k : ℕ) → Contains list k → p k ≡ false
TellsLeast p list (Some i) = IsLeast p list i

-- a number is below another, if there is one
abbrev pub is_below : Option ℕ → ℕ → Bool
is_below None i = true
is_below (Some k) i = nat_lt i k
