-- The initial values of the fields so far are in the heap.
use Rattle.std.proofs.Common.{◌≡◌}
use Rattle.ecf_lang.specs.Store.{with_writes}
use Rattle.ecf_lang.specs.Genesis.{field_cells}
use Rattle.ecf_heap.proofs.GenesisLaws.{first_writes}
use Rattle.ecf_heap.proofs.initial.put_object.Given as goal

abbrev pub invariant-loop-field_number : goal.invariant-loop-field_number
invariant-loop-field_number l = l.heap ≡ with_writes l.initial.heap (first_writes (field_cells l.number) l.field-items l.field_number)
