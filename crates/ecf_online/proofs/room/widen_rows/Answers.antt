use Rattle.std.proofs.Common.{◌≡◌, ◌<◌, [], length, get_or, ap, ◌∙◌, arith}
use Rattle.std.proofs.lemmas.List.{get_or_default}
use Rattle.ecf_graph.specs.Rows.{is_in_row, is_member}
use Rattle.ecf_online.proofs.WideningLaws.{rows_wider_next, wide_next}
use Rattle.ecf_online.proofs.room.widen_rows.Goals as goal

pub returns-in_err-widen_row-clause-rows : goal.returns-in_err-widen_row-clause-rows
unfolding is_in_row
returns-in_err-widen_row-clause-rows c =
    let rows = c.loop-k.rows.items in
    let k = c.loop-k.k in
    let at_k : k < length rows = grind arith in
    let read : c.index_mut.result.now ≡ get_or rows k [] = c.index_mut.ensures.value ∙ get_or_default rows k c.index_mut.result.now [] at_k in
    rows_wider_next c.args.rows.now.items rows k c.widen_row.new.row at_k (λ a. c.widen_row.ensures.same a ∙ ap (λ r. is_member r a) read) (rw (← read) c.widen_row.ensures.longer) (rw (← read) c.widen_row.ensures.none) c.loop-k.invariant.wider

pub loop-k-preserved : goal.loop-k-preserved
unfolding is_in_row
loop-k-preserved c =
    let rows = c.loop-k.rows.items in
    let k = c.loop-k.k in
    let at_k : k < length rows = grind arith in
    let read : c.index_mut.result.now ≡ get_or rows k [] = c.index_mut.ensures.value ∙ get_or_default rows k c.index_mut.result.now [] at_k in
    record {
      wider = rows_wider_next c.args.rows.now.items rows k c.widen_row.new.row at_k (λ a. c.widen_row.ensures.same a ∙ ap (λ r. is_member r a) read) (rw (← read) c.widen_row.ensures.longer) (rw (← read) c.widen_row.ensures.none) c.loop-k.invariant.wider;
      wide = wide_next rows c.args.width k c.widen_row.new.row at_k (rw (← read) c.in_ok-widen_row.ensures.wide) (rw (← read) c.widen_row.ensures.none) c.loop-k.invariant.wide;
      long = grind arith;
    }
