-- One cell is a leaf.
use Rattle.std.proofs.Common.{subst, sym}
use Rattle.ecf_versions.specs.Leaves.{IsLeaf}
use Rattle.ecf_versions.proofs.LeafLaws.{single_leaf}
use Rattle.ecf_versions.proofs.leaf.LeafPage.single.Goals as goal

pub invariant_of-result : goal.invariant_of-result
invariant_of-result c = subst IsLeaf (sym c.in_ok-from_slice.ensures.items) (single_leaf (c.args.cell, c.args.value))
