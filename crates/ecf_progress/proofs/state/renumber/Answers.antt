use Rattle.std.proofs.Common.{false, arith}
use Rattle.ecf_lang.specs.Alone.{of_invocation}
use Rattle.ecf_progress.proofs.UndoLaws.{mapped_one_more}
use Rattle.ecf_progress.proofs.state.renumber.Goals as goal

pub loop-step-preserved : goal.loop-step-preserved
loop-step-preserved c =
    mapped_one_more (of_invocation c.args.inv) c.args.steps.now c.loop-step.steps c.loop-step.step-index (record { inv = 0; write = false; cell = record { object = 0; field = 0; key = 0 }; value = 0 }) (omega arith) (omega arith) c.loop-step.invariant.0 c.loop-step.invariant.1
