use Rattle.std.proofs.Common.{◌<◌, ◌==◌, ◌&&◌, not, ℕ, Bool, length, sym, refl, ◌∙◌, arith}
use Rattle.ecf_conflict.specs.Pairs.{pairs_of}
use Rattle.ecf_graph.specs.Rows.{is_in_row}
use Rattle.ecf_conflict.proofs.PairLaws.{over_next, over_end}
use Rattle.ecf_conflict.proofs.edges.pairs_in.Goals as goal

pub loop-i-init : goal.loop-i-init
unfolding pairs_of
loop-i-init c = rw c.new-pairs.ensures.items refl

pub loop-i-preserved : goal.loop-i-preserved
loop-i-preserved c =
    let r : ℕ → ℕ → Bool = λ a b. not (a == b) && is_in_row c.args.rows.now b a in
    let h : c.loop-i.i-index < length c.args.members.now = omega arith in
    rw c.in_ok-add_pairs.ensures (over_next r c.loop-i.pairs.items c.args.members.now c.args.members.now c.loop-i.i-index h ∙ c.loop-i.invariant)

pub returns : goal.returns
returns c =
    let r : ℕ → ℕ → Bool = λ a b. not (a == b) && is_in_row c.args.rows.now b a in
    sym (over_end r c.loop-i.pairs.items c.args.members.now c.args.members.now c.loop-i.i-index (omega arith)) ∙ c.loop-i.invariant
