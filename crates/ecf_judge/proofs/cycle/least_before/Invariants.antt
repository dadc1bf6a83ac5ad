use Rattle.std.proofs.Common.{◌≡◌, find, drop}
use Rattle.ecf_graph.specs.Rows.{is_in_row}
use Rattle.ecf_judge.proofs.cycle.least_before.Given as goal

abbrev pub invariant-loop-i : goal.invariant-loop-i
invariant-loop-i l = find (λ i. is_in_row l.rows l.j i) (drop l.i-index l.rest) ≡ find (λ i. is_in_row l.rows l.j i) l.rest
