-- The cells still rise after a write, and are one more at most.
use Rattle.std.proofs.Common.{arith, ◌≡◌, ◌≤◌, subst, sym, length, ap}
use Rattle.ecf_lang.specs.Store.{IsRising, put}
use Rattle.ecf_versions.specs.declared.page.TheConstants.{MAX_ITEMS}
use Rattle.ecf_versions.proofs.LeafLaws.{put_length, put_rises}
use Rattle.ecf_versions.proofs.leaf.LeafPage.put.Goals as goal

pub halves-requires-clause-rising : goal.halves-requires-clause-rising
halves-requires-clause-rising c = subst IsRising (sym c.in_ok-items.ensures) (put_rises c.self.inside.items.items c.args.cell c.args.value c.self.invariant.rising)

pub halves-requires-clause-short : goal.halves-requires-clause-short
halves-requires-clause-short c =
    let more : length c.in_ok-items.items.items ≡ length (put c.self.inside.items.items c.args.cell c.args.value) = ap length c.in_ok-items.ensures in
    let few : length c.self.inside.items.items ≤ MAX_ITEMS = c.self.invariant.few in
    omega (arith, more, few, put_length c.self.inside.items.items c.args.cell c.args.value)

pub invariant_of-result : goal.invariant_of-result
invariant_of-result c = record {
  rising = subst IsRising (sym c.in_ok-items.ensures) (put_rises c.self.inside.items.items c.args.cell c.args.value c.self.invariant.rising);
  few = omega arith;
}
