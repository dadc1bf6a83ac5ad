-- The placement step by step.
use Rattle.std.proofs.Common.{◌≡◌, ℕ, suc, Bool, List, [], ◌∷◌, Option, Some, None, ap}
use Rattle.ecf_graph.specs.Placement.{Placement, next_of, without, placement_from}

-- one step of the placement
abbrev after_next : (ℕ → ℕ → Bool) → ℕ → List ℕ → Option ℕ → Placement
after_next r n unplaced o = elim o as (λ _. Placement) [
  | None ↦ record { order = []; rest = unplaced }
  | Some j ↦ record { order = j ∷ (placement_from r n (without j unplaced)).order; rest = (placement_from r n (without j unplaced)).rest }
]

pub placement_none : (r : ℕ → ℕ → Bool) (n : ℕ) (unplaced : List ℕ) → next_of r unplaced ≡ None → placement_from r (suc n) unplaced ≡ record { order = []; rest = unplaced }
unfolding placement_from
placement_none r n unplaced e = ap (after_next r n unplaced) e

pub placement_some : (r : ℕ → ℕ → Bool) (n : ℕ) (unplaced : List ℕ) (j : ℕ) → next_of r unplaced ≡ Some j →
    placement_from r (suc n) unplaced ≡ record { order = j ∷ (placement_from r n (without j unplaced)).order; rest = (placement_from r n (without j unplaced)).rest }
unfolding placement_from
placement_some r n unplaced j e = ap (after_next r n unplaced) e
