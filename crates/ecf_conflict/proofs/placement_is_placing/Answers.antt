use Rattle.std.proofs.Common.{◌≡◌, ℕ, Bool, sym, subst}
use Rattle.ecf_graph.specs.Pairs.{joins}
use Rattle.ecf_graph.specs.Placement.{placement_of}
use Rattle.ecf_verdicts.specs.Before.{before}
use Rattle.ecf_verdicts.specs.Placing.{placing}
use Rattle.ecf_verdicts.specs.Traces.{members}
use Rattle.ecf_conflict.specs.Pairs.{pairs_of}
use Rattle.ecf_conflict.proofs.placement_is_placing.Goals as goal

-- relations that agree everywhere are one
alike : (r q : ℕ → ℕ → Bool) → ((a b : ℕ) → r a b ≡ q a b) → r ≡ q
alike r q e = λ i a b. e a b i

pub returns : goal.returns
returns c t =
    let same : before t ≡ joins (pairs_of (before t) (members t)) = sym (alike (joins (pairs_of (before t) (members t))) (before t) (c.pairs_are_before.ensures t)) in
    subst (λ (r : ℕ → ℕ → Bool). ((placing t).order ≡ (placement_of r (members t)).order) × ((placing t).rest ≡ (placement_of r (members t)).rest)) same (c.placing_is_placement.ensures t)
