use Rattle.ecf_graph.specs.RowLemmas.{member_none}
use Rattle.ecf_graph.proofs.row.Row.new.Goals as goal

pub returns-clause-none : goal.returns-clause-none
returns-clause-none c i = rw c.new.ensures.items (member_none i)
