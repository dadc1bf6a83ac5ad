use Rattle.std.proofs.Common.{ap, ◌∙◌, arith}
use Rattle.ecf_judge.specs.Walks.{RowsTell}
use Rattle.ecf_verdicts.specs.Cycles.{rotation_to_minimum}
use Rattle.ecf_judge.proofs.WalkLaws.{written_back, cycle_none, cycle_first}
use Rattle.ecf_judge.proofs.cycle.cycle_in.Goals as goal

pub returns-in-empty : goal.returns-in-empty
returns-in-empty c = c.new.ensures.items ∙ cycle_none c.args.trace.now c.args.rest.now c.in-empty.len_below

pub returns-in_ok-cycle-in-len1-up : goal.returns-in_ok-cycle-in-len1-up
returns-in_ok-cycle-in-len1-up c =
    let tells : RowsTell c.args.trace.now c.as_slice.result.now = λ i j. rw c.as_slice.ensures.value (c.in_ok-rows-in-len1-up.ensures i j) in
    written_back _ c.begin_with_least.new.cycle _ (grind arith)
    ∙ (c.begin_with_least.ensures
    ∙ (ap rotation_to_minimum (c.as_mut_slice.ensures.value ∙ c.in_ok-cycle-in-len1-up.ensures c.args.trace.now tells)
    ∙ cycle_first c.args.trace.now c.args.rest.now c.in-len1-up.len_at_least))
