use Rattle.std.proofs.Common.{◌≡◌, ◌<◌, ◌||◌, ◌==◌, [], length, get_or, ap, ◌∙◌, arith}
use Rattle.std.proofs.lemmas.List.{get_or_default}
use Rattle.ecf_graph.specs.Rows.{is_in_row, is_member}
use Rattle.ecf_graph.proofs.RowLaws.{pair_in_row}
use Rattle.ecf_graph.proofs.edges.insert_pair.Goals as goal

pub returns : goal.returns
unfolding is_in_row
returns c =
    let rows = c.extend_rows.new.rows.items in
    let j = c.args.j in
    let at_j : j < length rows = grind arith in
    let read : c.index_mut.result.now ≡ get_or rows j [] = c.index_mut.ensures.value ∙ get_or_default rows j c.index_mut.result.now [] at_j in
    pair_in_row c.args.rows.now.items rows c.args.i j c.insert.new.self c.in_ok-extend_rows.ensures.same at_j (λ a. c.in_ok-insert.ensures.done a ∙ ap (λ r. is_member r a || (a == c.args.i)) read)
