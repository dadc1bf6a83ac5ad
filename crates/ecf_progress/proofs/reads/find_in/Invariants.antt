use Rattle.std.proofs.Common.{◌≡◌, drop}
use Rattle.ecf_lang.specs.Store.{find_cell}
use Rattle.ecf_progress.proofs.reads.find_in.Given as goal

-- the cell isn't among the pairs so far
abbrev pub invariant-loop-other : goal.invariant-loop-other
invariant-loop-other l = find_cell l.pairs l.cell ≡ find_cell (drop l.other-index l.pairs) l.cell
