use Rattle.std.proofs.Common.{map}
use Rattle.std.specs.Arc.{arc_value}
use Rattle.ecf_receipts.proofs.LineLaws.{Printed}
use Rattle.ecf_receipts.proofs.entries.write_entries.Given as goal

abbrev pub invariant-loop-index : goal.invariant-loop-index
invariant-loop-index l =
    Printed l.typed (map arc_value l.txs) l.entries l.from l.index l.fn.text.items l.text.items l.numbers.counts
