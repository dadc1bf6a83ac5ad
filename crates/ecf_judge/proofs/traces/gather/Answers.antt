use Rattle.std.proofs.Common.{arith}
use Rattle.ecf_judge.proofs.TraceLaws.{traces_zero}
use Rattle.ecf_judge.proofs.traces.gather.Goals as goal

pub returns-then-members-eq0 : goal.returns-then-members-eq0
returns-then-members-eq0 c = traces_zero c.args.steps.now c.args.members.now.table c.args.members.now.above c.new.result.items (omega arith) c.args.members.now.several_below
