-- One field more writes into the heap that the earlier ones left.
use Rattle.std.proofs.Common.{arith, ◌<◌, length, ap, ◌∙◌}
use Rattle.ecf_lang.specs.Store.{with_writes}
use Rattle.ecf_lang.specs.Genesis.{field_cells}
use Rattle.ecf_heap.proofs.GenesisLaws.{one_more_item}
use Rattle.ecf_heap.proofs.initial.put_object.Goals as goal

pub loop-field_number-preserved : goal.loop-field_number-preserved
loop-field_number-preserved c =
    let inside : c.loop-field_number.field_number < length c.as_slice-field-items.result.now = omega arith in
    one_more_item (field_cells c.args.number) c.args.heap.now c.loop-field_number.heap c.put_field.new.heap c.as_slice-field-items.result.now c.loop-field_number.field_number c.field-item.result inside c.loop-field_number.invariant
    (c.in_ok-put_field.ensures ∙ ap (λ field. with_writes c.loop-field_number.heap (field_cells c.args.number (c.loop-field_number.field_number, field))) c.field-item.is)
