-- The pairs stay a store.
use Rattle.std.proofs.Common.{arith, ◌<◌}
use Rattle.ecf_stores.specs.StoreLaws.{put_keeps_store}
use Rattle.ecf_heap.proofs.WriteLaws.{set_keeps_store}
use Rattle.ecf_heap.proofs.heap.Heap.put.Goals as goal

pub invariant_of-self : goal.invariant_of-self
invariant_of-self c = rw c.remove.ensures.entries (put_keeps_store _ c.args.cell 0 c.self.invariant)

pub invariant_of-self-in_ok-insert : goal.invariant_of-self-in_ok-insert
invariant_of-self-in_ok-insert c =
    let above : 0 < c.args.value = omega arith in
    rw c.in_ok-insert.ensures.entries (set_keeps_store _ c.args.cell c.args.value above c.self.invariant)
