use Rattle.ecf_judge.proofs.ObjectLaws.{SettledBelow}
use Rattle.ecf_judge.proofs.verdict.judge_objects.Given as goal

abbrev pub invariant-loop-object : goal.invariant-loop-object
invariant-loop-object l = SettledBelow l.steps l.object l.orders
