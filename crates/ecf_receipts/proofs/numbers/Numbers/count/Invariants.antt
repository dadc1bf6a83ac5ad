use Rattle.std.proofs.Common.{map, take}
use Rattle.std.specs.Arc.{arc_value}
use Rattle.ecf_receipts.specs.Numbers.{CountsEntries}
use Rattle.ecf_receipts.proofs.numbers.Numbers.count.Given as goal

-- the entries so far are counted
abbrev pub invariant-loop-entry : goal.invariant-loop-entry
invariant-loop-entry l = CountsEntries (map arc_value l.txs) (take l.entry-index l.entries) l.self.counts
