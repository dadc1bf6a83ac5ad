use Rattle.std.proofs.Common.{arith}
use Rattle.ecf_lang.specs.Part.{as_undone}
use Rattle.ecf_progress.proofs.UndoLaws.{mapped_one_more}
use Rattle.ecf_progress.proofs.state.mark_each_undone.Goals as goal

pub loop-invocation-preserved : goal.loop-invocation-preserved
loop-invocation-preserved c =
    mapped_one_more as_undone c.args.invocations.now c.loop-invocation.invocations c.loop-invocation.invocation-index c.invocation-item.result (omega arith) (omega arith) c.loop-invocation.invariant.0 c.loop-invocation.invariant.1
