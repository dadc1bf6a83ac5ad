-- One write more is a put into the fields that the earlier ones left.
use Rattle.std.proofs.Common.{arith, ◌<◌, length}
use Rattle.ecf_heap.specs.Overlaid.{store_of}
use Rattle.ecf_isolate.proofs.RunLaws.{one_more_write}
use Rattle.ecf_isolate.proofs.alone.write_all.Goals as goal

pub loop-cell-preserved : goal.loop-cell-preserved
loop-cell-preserved g c =
    let inside : c.loop-cell.cell-index < length c.args.writes.now = omega arith in
    one_more_write (store_of c.args.fields.now) (store_of c.loop-cell.fields) (store_of c.set.new.self) c.args.writes.now c.loop-cell.cell-index _ inside c.loop-cell.invariant c.in_ok-set.ensures.store
