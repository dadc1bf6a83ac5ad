-- Rising cells cut before the one in their middle.
use Rattle.std.proofs.Common.{arith, ◌<◌, ◌≤◌, ◌+◌, ◌/◌, ℕ, length}
use Rattle.ecf_versions.specs.declared.page.TheConstants.{MAX_ITEMS}
use Rattle.ecf_versions.proofs.LeafLaws.{first_part, second_part, cut_leaf}
use Rattle.ecf_versions.proofs.leaf.halves.Goals as goal

pub invariant_of-result : goal.invariant_of-result
invariant_of-result c =
    let half : ℕ = c.len.result / 2 in
    let few : length c.args.items.items ≤ half + MAX_ITEMS = omega arith in
    second_part c.args.items.items c.in_ok-rest.rest.items half c.in_ok-rest.ensures.tail few c.requires.rising

pub invariant_of-result-2 : goal.invariant_of-result-2
invariant_of-result-2 c =
    let half : ℕ = c.len.result / 2 in
    let few : half ≤ MAX_ITEMS = omega arith in
    let inside : half ≤ length c.args.items.items = omega arith in
    first_part c.args.items.items c.split_off.new.self.items half c.in_ok-rest.ensures.items few inside c.requires.rising

pub returns : goal.returns
returns c =
    let half : ℕ = c.len.result / 2 in
    let above : 0 < half = omega arith in
    let inside : half < length c.args.items.items = omega arith in
    cut_leaf c.args.items.items c.split_off.new.self.items c.in_ok-rest.rest.items half c.index.result.now c.in_ok-rest.ensures.items c.in_ok-rest.ensures.tail c.index.ensures above inside c.requires.rising
