use Rattle.std.proofs.Common.{◌<◌, ◌==◌, ◌&&◌, not, ℕ, Bool, length, sym, ◌∙◌, arith}
use Rattle.ecf_graph.specs.Rows.{is_in_row}
use Rattle.ecf_conflict.proofs.PairLaws.{pairs_next, pairs_skip, pairs_end}
use Rattle.ecf_conflict.proofs.edges.add_pairs.Goals.{then-is_pair+in_ok-push, else-is_pair}
use Rattle.ecf_conflict.proofs.edges.add_pairs.Goals as goal

pub loop-j-preserved : goal.loop-j-preserved
loop-j-preserved c =
    let r : ℕ → ℕ → Bool = λ a b. not (a == b) && is_in_row c.args.rows.now b a in
    let h : c.loop-j.j-index < length c.args.members.now = omega arith in
    elim c.if-is_pair.branch [
      | then-is_pair+in_ok-push w ↦ rw (w.pairs-is, w.in_ok-push.ensures.items) (pairs_next r c.loop-j.pairs.items c.args.members.now c.args.i c.loop-j.j-index h (sym c.is_pair.ensures ∙ w.if-is_pair.true) ∙ c.loop-j.invariant)
      | else-is_pair w ↦ rw w.pairs-is (pairs_skip r c.loop-j.pairs.items c.args.members.now c.args.i c.loop-j.j-index h (sym c.is_pair.ensures ∙ w.if-is_pair.false) ∙ c.loop-j.invariant)
    ]

pub returns : goal.returns
returns c =
    let r : ℕ → ℕ → Bool = λ a b. not (a == b) && is_in_row c.args.rows.now b a in
    sym (pairs_end r c.loop-j.pairs.items c.args.members.now c.args.i c.loop-j.j-index (omega arith)) ∙ c.loop-j.invariant
