use Rattle.ecf_online.proofs.OrderLaws.{pairs_reach}
use Rattle.ecf_online.proofs.monitor.Monitor.edge_count.Goals as goal

pub returns-clause-reach : goal.returns-clause-reach
returns-clause-reach c t h = pairs_reach c.reduced_reaches_before.ensures t c.args.self.now.pairs.items h.watched.pairs_are
