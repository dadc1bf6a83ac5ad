-- What these pairs and paths are worth.
use Rattle.std.specs.Prelude.{◌≡◌, ◌↔◌, ◌⊎◌, ◌&&◌, ◌||◌, ◌==◌, ℕ, Bool, true, List, [], ◌∷◌, ◌++◌, reverse}
use Rattle.ecf_lang.specs.declared.run.Step.{Step}
use Rattle.ecf_graph.specs.Paths.{Reaches, IsAcyclic, SameReach, with_pair}
use Rattle.ecf_graph.specs.Placement.{placement_of, IsWithin}
use Rattle.ecf_verdicts.specs.Before.{before}
use Rattle.ecf_verdicts.specs.Free.{Free}
use Rattle.ecf_verdicts.specs.Placing.{placing}
use Rattle.ecf_verdicts.specs.Traces.{members}
use Rattle.ecf_precedence.specs.Newest.{adds_pair, reduced}

-- one step more adds to "before" exactly the pairs of its invocation with those that have an earlier conflicting step
abbrev pub OneStepMore : Type 0
OneStepMore = (t : List Step) (s : Step) (i j : ℕ) → before (t ++ s ∷ []) i j ≡ (before t i j || ((s.inv == j) && adds_pair t s i))

-- a trace is free exactly where "before" has no cycle
abbrev pub FreeExactlyWhereAcyclic : Type 0
FreeExactlyWhereAcyclic = (t : List Step) → Free t ↔ IsAcyclic (before t)

-- the pairs from last writers and readers since have the paths of "before"
abbrev pub ReducedReachesBefore : Type 0
ReducedReachesBefore = (earlier : List Step) → SameReach (reduced earlier) (before (reverse earlier))

-- each of these pairs is one of "before"
abbrev pub ReducedIsBefore : Type 0
ReducedIsBefore = (earlier : List Step) (i j : ℕ) → reduced earlier i j ≡ true → before (reverse earlier) i j ≡ true

-- the placing of a trace is the placement of its members by "before"
abbrev pub PlacingIsPlacement : Type 0
PlacingIsPlacement = (t : List Step) →
    ((placing t).order ≡ (placement_of (before t) (members t)).order) × ((placing t).rest ≡ (placement_of (before t) (members t)).rest)

-- a placement depends on reachability alone
abbrev pub PlacementByReach : Type 0
PlacementByReach = (r q : ℕ → ℕ → Bool) (members : List ℕ) → IsWithin r members → IsWithin q members → SameReach r q →
    placement_of r members ≡ placement_of q members

-- what one pair more reaches: what was reached, and from all that reach its first to all that its second reaches
abbrev pub OnePairMore : Type 0
OnePairMore = (r : ℕ → ℕ → Bool) (i j a b : ℕ) →
    Reaches (with_pair r i j) a b ↔ (Reaches r a b ⊎ (((a ≡ i) ⊎ Reaches r a i) × ((b ≡ j) ⊎ Reaches r j b)))
