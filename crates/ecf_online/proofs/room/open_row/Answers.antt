use Rattle.std.proofs.Common.{◌≡◌, ◌<◌, [], is_ok, length, get_or, ap, ◌∙◌, arith}
use Rattle.std.proofs.lemmas.List.{get_or_default}
use Rattle.ecf_graph.specs.Rows.{is_in_row, is_member}
use Rattle.ecf_online.proofs.WideningLaws.{opens_row}
use Rattle.ecf_online.proofs.room.open_row.Goals as goal

pub returns-clause-opens : goal.returns-clause-opens
unfolding is_in_row
returns-clause-opens c =
    let rows = c.extend_rows.new.rows.items in
    let i = c.args.i in
    let at_i : i < length rows = grind arith in
    let read : c.index_mut.result.now ≡ get_or rows i [] = c.index_mut.ensures.value ∙ get_or_default rows i c.index_mut.result.now [] at_i in
    opens_row c.args.rows.now.items rows c.args.width i c.widen.new.self (is_ok c.widen.result) c.in_ok-extend_rows.ensures.same c.in_ok-extend_rows.ensures.words at_i
    (λ a. c.widen.ensures.same a ∙ ap (λ r. is_member r a) read) (rw (← read) c.widen.ensures.words)
