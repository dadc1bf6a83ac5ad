use Rattle.ecf_host.proofs.OneLaws.{one_due}
use Rattle.ecf_host.proofs.laws.one_due.Goals as goal

pub returns : goal.returns
returns c = one_due c.one_reading.ensures c.read_or_refused.ensures c.one_fault.ensures c.one_tree.ensures c.one_answer.ensures
