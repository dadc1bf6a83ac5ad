use Rattle.std.proofs.Common.{◌≡◌, ◌+◌, ◌<◌, length, List, map, get_or, sym, ap, subst, ◌∙◌}
use Rattle.std.specs.Arc.{arc_value}
use Rattle.std.proofs.lemmas.List.{get_or-map, length-map}
use Rattle.ecf_schedule_text.specs.declared.names.RowName.{RowName}
use Rattle.ecf_schedule_text.proofs.NameLaws.{Named, named_more}
use Rattle.ecf_schedule_text.proofs.names.row_names.Goals as goal

pub loop-tx-preserved : goal.loop-tx-preserved
loop-tx-preserved c =
    let txs = c.args.txs.now in
    let i = c.loop-tx.tx-index in
    let within : i < length (map arc_value txs) = simp length-map c.loop-tx-test.true in
    let here : get_or (map arc_value txs) i c.deref.result.now ≡ c.deref.result.now =
    get_or-map arc_value txs i c.tx-item.result c.deref.result.now c.loop-tx-test.true ∙ ap arc_value (sym c.tx-item.is) ∙ sym c.deref.ensures in
    subst (λ (names : List RowName). Named (map arc_value txs) (i + 1) names c.next_number.new.counts) (sym c.in_ok-push.ensures.items)
    (named_more (map arc_value txs) i c.loop-tx.names.items c.loop-tx.counts c.next_number.new.counts c.deref.result.now c.in_ok-number.number
    within here c.in_ok-number.ensures.number c.in_ok-number.ensures.counts c.loop-tx.invariant)
