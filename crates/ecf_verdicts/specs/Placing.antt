-- Invocations placed one after the other, as long as the trace allows it.
use Rattle.std.specs.Prelude.{ℕ, zero, suc, Bool, not, ◌==◌, List, [], ◌∷◌, length, filter, find, Option, Some, None}
use Rattle.std.specs.List.{list_any}
use Rattle.ecf_lang.specs.declared.run.Step.{Step}
use Rattle.ecf_verdicts.specs.Before.{before}
use Rattle.ecf_verdicts.specs.Traces.{members}

-- an unplaced invocation is before j
unfoldable pub waits : List Step → List ℕ → ℕ → Bool
waits t unplaced j = list_any (λ i. before t i j) unplaced

-- the least unplaced invocation that no unplaced one is before; the unplaced ones rise
unfoldable pub next_placed : List Step → List ℕ → Option ℕ
next_placed t unplaced = find (λ j. not (waits t unplaced j)) unplaced

-- the list without a number
unfoldable pub without : ℕ → List ℕ → List ℕ
without i xs = filter (λ j. not (j == i)) xs

-- the invocations in the order of placing, and those that can't be placed, rising
pub record Placing : Type 0 where
  pub order : List ℕ
  pub rest : List ℕ

-- at most so many are placed, again and again the next
unfoldable pub placing_from : List Step → ℕ → List ℕ → Placing
placing_from t zero unplaced = record { order = []; rest = unplaced }
placing_from t (suc n) unplaced = elim (next_placed t unplaced) [
  | None ↦ record { order = []; rest = unplaced }
  | Some j ↦
      let later = placing_from t n (without j unplaced) in
      record { order = j ∷ later.order; rest = later.rest }
]

-- the placing of all invocations that have steps in the trace
unfoldable pub placing : List Step → Placing
placing t = placing_from t (length (members t)) (members t)
