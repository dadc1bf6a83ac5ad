use Rattle.std.proofs.Common.{◌≡◌, ℕ, get_or, is_ok}
use Rattle.std.specs.declared.cmp.Ordering.TheVariants.{Equal}
use Rattle.ecf_graph.specs.Edges.{pair_cmp}
use Rattle.ecf_graph.proofs.EdgeLaws.{indexes_rise, joins_found, joins_insert, of_two_after, rise_after}
use Rattle.ecf_graph.proofs.edges.Edges.add.Goals as goal

pub invariant_of-self-clause-pairs_rise : goal.invariant_of-self-clause-pairs_rise
invariant_of-self-clause-pairs_rise c =
    let old = c.args.self.now.pairs.items in
    let p : ℕ × ℕ = (c.args.from, c.args.to) in
    let parted = (rw c.as_slice.ensures.value at c.in-Err.ensures.position) (indexes_rise old p c.args.self.now.pairs_rise) in
    rise_after (is_ok c.insert.result) old c.insert.new.self.items c.in-Err.place p c.insert.ensures.items (rw c.as_slice.ensures.value at c.in-Err.ensures.bound) c.args.self.now.pairs_rise parted.0 parted.1

pub invariant_of-self-clause-of_two : goal.invariant_of-self-clause-of_two
invariant_of-self-clause-of_two c =
    of_two_after (is_ok c.insert.result) c.args.self.now.members.items c.args.self.now.pairs.items c.insert.new.self.items c.in-Err.place (c.args.from, c.args.to) c.insert.ensures.items (rw c.as_slice.ensures.value at c.in-Err.ensures.bound) c.args.self.now.of_two c.requires

pub returns-in-Ok-clause-added : goal.returns-in-Ok-clause-added
returns-in-Ok-clause-added c =
    let found : (d : ℕ × ℕ) → pair_cmp (get_or c.args.self.now.pairs.items c.in-Ok.field-0 d) (c.args.from, c.args.to) ≡ Equal = rw c.as_slice.ensures.value at c.in-Ok.ensures.ok in
    joins_found c.args.self.now.pairs.items c.in-Ok.field-0 c.args.from c.args.to (rw c.as_slice.ensures.value at c.in-Ok.ensures.bound) found

pub returns-in_ok-insert-in-Err-clause-added : goal.returns-in_ok-insert-in-Err-clause-added
returns-in_ok-insert-in-Err-clause-added c i j = rw c.in_ok-insert-in-Err.ensures.items (joins_insert c.args.self.now.pairs.items c.in-Err.place c.args.from c.args.to i j)
