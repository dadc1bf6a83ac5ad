use Rattle.std.proofs.Common.{◌≡◌, ◌||◌, ◌&&◌, ◌==◌, ℕ, get_or, sym, ap, ◌∙◌, arith}
use Rattle.ecf_graph.specs.Pairs.{joins}
use Rattle.ecf_graph.specs.Paths.{with_pair}
use Rattle.ecf_graph.specs.RowLemmas.{in_row_past}
use Rattle.ecf_graph.specs.Rows.{is_in_row}
use Rattle.ecf_graph.proofs.CheckLaws.{joins_take}
use Rattle.ecf_graph.proofs.edges.rows_of.Goals as goal

pub loop-pair-init : goal.loop-pair-init
unfolding joins
loop-pair-init c a b = in_row_past c.new-rows.result.items b a (grind arith)

pub loop-pair-preserved : goal.loop-pair-preserved
unfolding with_pair
loop-pair-preserved c a b =
    let pairs = c.args.pairs.now in
    let k = c.loop-pair.pair-index in
    let new = c.insert_pair.new.rows.items in
    let old = c.loop-pair.rows.items in
    let next = λ (d : ℕ × ℕ) (w : is_in_row new b a ≡ (is_in_row old b a || ((a == (get_or pairs k d).0) && (b == (get_or pairs k d).1)))).
    w ∙ (ap (λ x. x || ((a == (get_or pairs k d).0) && (b == (get_or pairs k d).1))) (c.loop-pair.invariant a b) ∙ sym (joins_take pairs k d c.loop-pair-test.true a b)) in
    next _ (c.in_ok-insert_pair.ensures a b)
