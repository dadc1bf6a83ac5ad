use Rattle.std.proofs.Common.{◌≡◌, ◌==◌, [], get_or, refl, sym, ◌∙◌}
use Rattle.std.proofs.lemmas.Bool.{eq-eqb, ne_eqb, or_left}
use Rattle.std.proofs.lemmas.List.{get_or_default}
use Rattle.ecf_graph.specs.Rows.{is_in_row}
use Rattle.ecf_online.proofs.reach.is_reached.Goals as goal

pub returns-then-k-j : goal.returns-then-k-j
returns-then-k-j c = sym (or_left (c.args.k == c.args.j) _ (eq-eqb _ _ c.if-k-j.true))

pub returns-else-k-j : goal.returns-else-k-j
unfolding is_in_row
returns-else-k-j c =
    let read : c.index-rows-k.result ≡ get_or c.args.rows.now c.args.k [] = c.index-rows-k.is ∙ get_or_default c.args.rows.now c.args.k c.index-rows-k.result [] c.requires in
    c.contains.ensures ∙ (rw (read, ne_eqb _ _ c.if-k-j.false) refl)
