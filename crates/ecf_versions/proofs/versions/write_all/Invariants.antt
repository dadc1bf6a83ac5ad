-- The writes so far are in the root, and it is a store.
use Rattle.std.proofs.Common.{◌≡◌, take}
use Rattle.ecf_lang.specs.Store.{IsStore, with_writes}
use Rattle.ecf_versions.proofs.versions.write_all.Given as goal

abbrev pub invariant-loop-cell : goal.invariant-loop-cell
invariant-loop-cell l = (l.root ≡ with_writes l.fn.from (take l.cell-index l.writes)) × IsStore l.root
