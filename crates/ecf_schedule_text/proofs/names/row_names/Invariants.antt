use Rattle.std.proofs.Common.{map}
use Rattle.std.specs.Arc.{arc_value}
use Rattle.ecf_schedule_text.proofs.NameLaws.{Named}
use Rattle.ecf_schedule_text.proofs.names.row_names.Given as goal

abbrev pub invariant-loop-tx : goal.invariant-loop-tx
invariant-loop-tx l = Named (map arc_value l.txs) l.tx-index l.names.items l.counts
