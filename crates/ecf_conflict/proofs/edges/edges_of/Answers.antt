use Rattle.std.proofs.Common.{◌≡◌, ap, ◌∙◌}
use Rattle.std.specs.List.Sorted.{IsStrictlyIncreasing}
use Rattle.ecf_verdicts.specs.Before.{before}
use Rattle.ecf_verdicts.specs.RisingLemmas.{rising_from}
use Rattle.ecf_conflict.specs.Pairs.{pairs_of}
use Rattle.ecf_conflict.proofs.JoinLaws.{pairs_rise, pairs_are_of_two}
use Rattle.ecf_conflict.proofs.edges.edges_of.Goals as goal

pub invariant_of-result : goal.invariant_of-result
invariant_of-result c =
    let t = c.args.steps.now in
    let list = c.in_ok-members.members.items in
    let pairs : c.in_ok-pairs.pairs.items ≡ pairs_of (before t) list = c.in_ok-pairs.ensures ∙ ap (pairs_of (before t)) c.as_slice.ensures.value in
    let rises : IsStrictlyIncreasing list = rw c.in_ok-members.ensures (c.members_are.ensures t).0 in
    record {
      members_rise = rises;
      pairs_rise = rw pairs (pairs_rise (before t) list (rising_from list rises));
      of_two = rw pairs (pairs_are_of_two t list);
    }

pub returns-clause-pairs : goal.returns-clause-pairs
returns-clause-pairs c =
    let t = c.args.steps.now in
    c.in_ok-pairs.ensures ∙ ap (pairs_of (before t)) (c.as_slice.ensures.value ∙ c.in_ok-members.ensures)
