use Rattle.std.proofs.Common.{◌<◌, length, sym, ◌∙◌, arith}
use Rattle.ecf_graph.specs.Rows.{is_in_row}
use Rattle.ecf_judge.proofs.WalkLaws.{find_here, find_there, find_end}
use Rattle.ecf_judge.proofs.cycle.least_before.Goals as goal

pub loop-i-preserved : goal.loop-i-preserved
loop-i-preserved c =
    let inside : c.loop-i.i-index < length c.args.rest.now = omega arith in
    find_there (is_in_row c.args.rows.now c.args.j) c.args.rest.now c.loop-i.i-index inside (sym c.row_contains.ensures ∙ c.if-row_contains.false) ∙ c.loop-i.invariant

pub returns-then-row_contains : goal.returns-then-row_contains
returns-then-row_contains c =
    let inside : c.loop-i.i-index < length c.args.rest.now = omega arith in
    sym (find_here (is_in_row c.args.rows.now c.args.j) c.args.rest.now c.loop-i.i-index inside (sym c.row_contains.ensures ∙ c.if-row_contains.true)) ∙ c.loop-i.invariant

pub returns : goal.returns
returns c = sym (find_end (is_in_row c.args.rows.now c.args.j) c.args.rest.now c.loop-i.i-index (omega arith)) ∙ c.loop-i.invariant
