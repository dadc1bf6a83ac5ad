use Rattle.std.proofs.Common.{◌&&◌, Bool, ℕ, List, ap, ◌∙◌}
use Rattle.std.specs.List.{list_all}
use Rattle.ecf_graph.specs.Checks.{all_stand_in, goes_forward, is_distinct, is_order}
use Rattle.ecf_graph.proofs.checks.check_order.Goals as goal

pub returns : goal.returns
unfolding is_order
returns c =
    let order = c.args.order.now in
    let members = c.args.edges.now.members.items in
    ap (λ (x : Bool). x && c.all_forward.result) (c.lists_each_once-listed.ensures ∙ ap (λ (ms : List ℕ). is_distinct order && (all_stand_in order ms && all_stand_in ms order)) c.as_slice.ensures.value) ∙
    ap (λ (x : Bool). (is_distinct order && (all_stand_in order members && all_stand_in members order)) && x) (c.all_forward.ensures ∙ ap (λ (ps : List (ℕ × ℕ)). list_all (goes_forward order) ps) c.as_slice-2.ensures.value)
