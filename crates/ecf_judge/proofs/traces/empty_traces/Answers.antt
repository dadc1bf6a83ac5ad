use Rattle.std.proofs.Common.{arith}
use Rattle.ecf_judge.proofs.TraceLaws.{empty_all, empty_next}
use Rattle.ecf_judge.proofs.traces.empty_traces.Goals as goal

pub loop-k-init : goal.loop-k-init
loop-k-init c = record {
  none = empty_all _ c.new-traces.ensures.items;
  long = c.new-traces.ensures.len;
}

pub loop-k-preserved : goal.loop-k-preserved
loop-k-preserved c = record {
  none = λ o. rw c.in_ok-push.ensures.items (empty_next _ _ c.new.ensures c.loop-k.invariant.none o);
  long = omega (arith, c.in_ok-push.ensures.len);
}
