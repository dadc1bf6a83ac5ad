use Rattle.std.proofs.Common.{◌≡◌, ◌+◌, true, false, ◌&&◌, drop, get_or, sym, ap, ◌∙◌}
use Rattle.ecf_graph.specs.Checks.{leads_to}
use Rattle.ecf_graph.specs.Pairs.{joins}
use Rattle.ecf_graph.proofs.CheckLaws.{leads_at, leads_end}
use Rattle.ecf_graph.proofs.checks.goes_around.Goals as goal

pub returns-then-not-has_pair : goal.returns-then-not-has_pair
returns-then-not-has_pair c =
    let pairs = c.args.pairs.now in
    let l = c.args.cycle.now in
    let k = c.loop-k.k in
    let end = get_or l 0 0 in
    let e : joins pairs (get_or l k 0) (get_or l (k + 1) end) ≡ false = ap (joins pairs (get_or l k 0)) (sym c.next_around.ensures) ∙ (sym c.has_pair.ensures ∙ c.if-not-has_pair.true) in
    sym (sym c.loop-k.invariant ∙ (leads_at pairs end l k c.loop-k-test.true ∙ ap (λ b. b && leads_to pairs end (drop (k + 1) l)) e))

pub loop-k-preserved : goal.loop-k-preserved
loop-k-preserved c =
    let pairs = c.args.pairs.now in
    let l = c.args.cycle.now in
    let k = c.loop-k.k in
    let end = get_or l 0 0 in
    let e : joins pairs (get_or l k 0) (get_or l (k + 1) end) ≡ true = ap (joins pairs (get_or l k 0)) (sym c.next_around.ensures) ∙ (sym c.has_pair.ensures ∙ c.if-not-has_pair.false) in
    sym (leads_at pairs end l k c.loop-k-test.true ∙ ap (λ b. b && leads_to pairs end (drop (k + 1) l)) e) ∙ c.loop-k.invariant

pub returns : goal.returns
returns c = sym (leads_end c.args.pairs.now (get_or c.args.cycle.now 0 0) c.args.cycle.now c.loop-k.k c.loop-k-test.false) ∙ c.loop-k.invariant
