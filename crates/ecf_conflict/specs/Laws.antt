-- What the numbers that have steps are, and what the pairs of a trace are worth.
use Rattle.std.specs.Prelude.{◌≡◌, ◌<◌, ◌==◌, ℕ, Bool, true, List}
use Rattle.std.specs.List.{list_any}
use Rattle.ecf_conflict.specs.Pairs.{pairs_of}
use Rattle.ecf_graph.specs.Pairs.{joins}
use Rattle.ecf_graph.specs.Placement.{placement_of}
use Rattle.ecf_graph.specs.Rows.{numbers_below}
use Rattle.ecf_lang.specs.declared.run.Step.{Step}
use Rattle.ecf_verdicts.specs.Before.{before}
use Rattle.ecf_verdicts.specs.Placing.{placing}
use Rattle.ecf_verdicts.specs.Traces.{members}

-- a test that tells which invocations have steps, below a number above all of them, lists the members
abbrev pub NumbersAreMembers : Type 0
NumbersAreMembers = (t : List Step) (p : ℕ → Bool) (n : ℕ) → ((i : ℕ) → p i ≡ list_any (λ s. s.inv == i) t) →
    ((i : ℕ) → list_any (λ s. s.inv == i) t ≡ true → i < n) → numbers_below p n ≡ members t

-- the pairs of a trace join what "before" joins
abbrev pub PairsAreBefore : Type 0
PairsAreBefore = (t : List Step) (i j : ℕ) → joins (pairs_of (before t) (members t)) i j ≡ before t i j

-- the placement of the members of a trace by its pairs is its placing
abbrev pub PlacementIsPlacing : Type 0
PlacementIsPlacing = (t : List Step) →
    let p = placement_of (joins (pairs_of (before t) (members t))) (members t) in
    ((placing t).order ≡ p.order) × ((placing t).rest ≡ p.rest)
