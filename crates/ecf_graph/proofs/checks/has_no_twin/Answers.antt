use Rattle.std.proofs.Common.{◌≡◌, ◌+◌, true, false, not, ◌&&◌, drop, get_or, sym, ap, ◌∙◌}
use Rattle.ecf_graph.specs.Checks.{is_distinct, stands_in}
use Rattle.ecf_graph.proofs.CheckLaws.{distinct_at, distinct_end}
use Rattle.ecf_graph.proofs.checks.has_no_twin.Goals as goal

pub returns-then-contains_from : goal.returns-then-contains_from
returns-then-contains_from c =
    let l = c.args.list.now in
    let k = c.loop-k.k in
    let e : stands_in (drop (k + 1) l) (get_or l k 0) ≡ true = sym c.contains_from.ensures ∙ c.if-contains_from.true in
    sym (sym c.loop-k.invariant ∙ (distinct_at l k c.loop-k-test.true ∙ ap (λ b. not b && is_distinct (drop (k + 1) l)) e))

pub loop-k-preserved : goal.loop-k-preserved
loop-k-preserved c =
    let l = c.args.list.now in
    let k = c.loop-k.k in
    let e : stands_in (drop (k + 1) l) (get_or l k 0) ≡ false = sym c.contains_from.ensures ∙ c.if-contains_from.false in
    sym (distinct_at l k c.loop-k-test.true ∙ ap (λ b. not b && is_distinct (drop (k + 1) l)) e) ∙ c.loop-k.invariant

pub returns : goal.returns
returns c = sym (distinct_end c.args.list.now c.loop-k.k c.loop-k-test.false) ∙ c.loop-k.invariant
