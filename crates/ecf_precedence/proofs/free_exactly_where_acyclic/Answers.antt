use Rattle.ecf_precedence.proofs.PathLaws as proved
use Rattle.ecf_precedence.proofs.free_exactly_where_acyclic.Goals as goal

pub returns : goal.returns
returns c = proved.free_exactly_where_acyclic c.free_exactly_where_ordered.ensures c.test_tells_free.ensures c.cycle_named.ensures
