use Rattle.std.proofs.Common.{◌&&◌, Bool, ℕ, List, length, get_or, nat_le, ap, ◌∙◌}
use Rattle.ecf_graph.specs.Checks.{is_cycle, is_distinct, leads_to}
use Rattle.ecf_graph.proofs.checks.check_cycle.Goals as goal

pub returns : goal.returns
unfolding is_cycle
returns c =
    let cycle = c.args.cycle.now in
    ap (λ (x : Bool). nat_le 2 (length cycle) && (x && c.goes_around.result)) c.has_no_twin-once.ensures ∙
    ap (λ (x : Bool). nat_le 2 (length cycle) && (is_distinct cycle && x)) (c.goes_around.ensures ∙ ap (λ (ps : List (ℕ × ℕ)). leads_to ps (get_or cycle 0 0) cycle) c.as_slice.ensures.value)
