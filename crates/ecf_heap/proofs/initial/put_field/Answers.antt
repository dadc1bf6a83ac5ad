-- One pair more is a put into the heap that the earlier ones left.
use Rattle.std.proofs.Common.{arith, ◌<◌, length}
use Rattle.ecf_heap.proofs.GenesisLaws.{one_more_pair}
use Rattle.ecf_heap.proofs.initial.put_field.Goals as goal

pub loop-key-preserved : goal.loop-key-preserved
loop-key-preserved c =
    let inside : c.loop-key.key-index < length c.as_slice-key-items.result.now = omega arith in
    one_more_pair (λ pair. (record { object = c.args.object; field = c.args.number; key = pair.0 }, pair.1)) c.args.heap.now c.loop-key.heap c.put.new.self c.as_slice-key-items.result.now c.loop-key.key-index _ inside c.loop-key.invariant c.in_ok-put.ensures.ok
