-- The initial values of the objects so far are in the heap.
use Rattle.std.proofs.Common.{◌≡◌, []}
use Rattle.ecf_lang.specs.Store.{with_writes}
use Rattle.ecf_lang.specs.Genesis.{object_cells}
use Rattle.ecf_heap.proofs.GenesisLaws.{first_writes}
use Rattle.ecf_heap.proofs.initial.genesis.Given as goal

abbrev pub invariant-loop-number : goal.invariant-loop-number
invariant-loop-number l = l.heap ≡ with_writes [] (first_writes object_cells l.object-items l.number)
