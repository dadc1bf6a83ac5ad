use Rattle.std.proofs.Common.{◌≡◌, map, take}
use Rattle.std.specs.Arc.{arc_value}
use Rattle.ecf_rows.specs.Standing.{submitters_of}
use Rattle.ecf_rows.proofs.links.submitters_of.Given as goal

-- those of the transactions so far
abbrev pub invariant-loop-tx : goal.invariant-loop-tx
invariant-loop-tx l = l.submitters.items ≡ submitters_of (map arc_value (take l.tx-index l.txs))
