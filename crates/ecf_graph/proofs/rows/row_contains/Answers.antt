use Rattle.std.proofs.Common.{◌≡◌, get_or, [], sym, ap, ◌∙◌, arith}
use Rattle.std.proofs.lemmas.List.{get_or_default}
use Rattle.ecf_graph.specs.Rows.{is_member}
use Rattle.ecf_graph.specs.Rows.{is_in_row}
use Rattle.ecf_graph.specs.RowLemmas.{in_row_past}
use Rattle.ecf_graph.proofs.rows.row_contains.Goals as goal

pub returns-then-at-rows : goal.returns-then-at-rows
unfolding is_in_row
returns-then-at-rows c =
    let is : c.index-rows-at.result ≡ get_or c.args.rows.now c.args.k [] = c.index-rows-at.is ∙ get_or_default c.args.rows.now c.args.k c.index-rows-at.result [] c.if-at-rows.true in
    c.contains.ensures ∙ ap (λ r. is_member r c.args.i) is

pub returns-else-at-rows : goal.returns-else-at-rows
returns-else-at-rows c = sym (in_row_past c.args.rows.now c.args.k c.args.i (omega arith))
