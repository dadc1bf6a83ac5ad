-- One write more is a put into the heap that the earlier ones left; a put that fails leaves those alone.
use Rattle.std.proofs.Common.{arith, ◌<◌, length, ◌∙◌}
use Rattle.ecf_heap.specs.Writes.{HasFirstWrites}
use Rattle.ecf_heap.proofs.WriteLaws.{one_more, on_err}
use Rattle.ecf_heap.proofs.heap.Heap.write.Goals as goal

pub loop-cell-preserved : goal.loop-cell-preserved
loop-cell-preserved c =
    let inside : c.loop-cell.cell-index < length c.args.writes.now = omega arith in
    one_more c.args.self.now c.loop-cell.self c.put.new.self c.args.writes.now c.loop-cell.cell-index _ inside c.loop-cell.invariant c.in_ok-put.ensures.ok

pub returns-in_err-put-clause-err : goal.returns-in_err-put-clause-err
returns-in_err-put-clause-err c =
    let some : HasFirstWrites c.args.self.now c.args.writes.now c.put.new.self = record {
      count = c.loop-cell.cell-index;
      not_all = omega arith;
      store = c.in_err-put.ensures.err ∙ c.loop-cell.invariant;
    } in
    on_err c.from_residual.result some
