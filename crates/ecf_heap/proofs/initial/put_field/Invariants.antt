-- The pairs so far are in the heap.
use Rattle.std.proofs.Common.{◌≡◌, take, map}
use Rattle.ecf_lang.specs.Store.{with_writes}
use Rattle.ecf_heap.proofs.initial.put_field.Given as goal

abbrev pub invariant-loop-key : goal.invariant-loop-key
invariant-loop-key l = l.heap ≡ with_writes l.initial.heap (map (λ pair. (record { object = l.object; field = l.number; key = pair.0 }, pair.1)) (take l.key-index l.key-items))
