use Rattle.std.proofs.Common.{◌≡◌, [], get_or, sym, ap, ◌∙◌, arith}
use Rattle.std.proofs.lemmas.Bool.{both_ways}
use Rattle.std.proofs.lemmas.List.{get_or_default}
use Rattle.ecf_graph.specs.Rows.{is_member}
use Rattle.ecf_graph.specs.Rows.{is_in_row}
use Rattle.ecf_graph.specs.RowLemmas.{in_row_past}
use Rattle.ecf_graph.proofs.placement.has_before.Goals as goal

pub returns-then-at-rows-clause-yes : goal.returns-then-at-rows-clause-yes
unfolding is_in_row
returns-then-at-rows-clause-yes c e =
    let is : c.index-rows-at.result ≡ get_or c.args.rows.now c.args.j [] = c.index-rows-at.is ∙ get_or_default c.args.rows.now c.args.j c.index-rows-at.result [] c.if-at-rows.true in
    let w = c.intersects.ensures.yes e in
    (w.0, w.1, ap (λ r. is_member r w.0) (sym is) ∙ w.2)

pub returns-then-at-rows-clause-no : goal.returns-then-at-rows-clause-no
unfolding is_in_row
returns-then-at-rows-clause-no c e i h k =
    let is : c.index-rows-at.result ≡ get_or c.args.rows.now c.args.j [] = c.index-rows-at.is ∙ get_or_default c.args.rows.now c.args.j c.index-rows-at.result [] c.if-at-rows.true in
    c.intersects.ensures.no e i h (ap (λ r. is_member r i) is ∙ k)

pub returns-else-at-rows-clause-no : goal.returns-else-at-rows-clause-no
returns-else-at-rows-clause-no c e i h k = both_ways _ (in_row_past c.args.rows.now c.args.j i (omega arith)) k
