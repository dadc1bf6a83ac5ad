-- One object more writes into the heap that the earlier ones left.
use Rattle.std.proofs.Common.{arith, ◌<◌, length, ap, ◌∙◌, []}
use Rattle.ecf_lang.specs.Store.{with_writes}
use Rattle.ecf_lang.specs.Genesis.{object_cells}
use Rattle.ecf_heap.proofs.GenesisLaws.{one_more_item}
use Rattle.ecf_heap.proofs.initial.genesis.Goals as goal

pub loop-number-preserved : goal.loop-number-preserved
loop-number-preserved c =
    let inside : c.loop-number.number < length c.as_slice-object-items.result.now = omega arith in
    one_more_item object_cells [] c.loop-number.heap c.put_object.new.heap c.as_slice-object-items.result.now c.loop-number.number c.object-item.result inside c.loop-number.invariant
    (c.in_ok-put_object.ensures ∙ ap (λ object. with_writes c.loop-number.heap (object_cells (c.loop-number.number, object))) c.object-item.is)
