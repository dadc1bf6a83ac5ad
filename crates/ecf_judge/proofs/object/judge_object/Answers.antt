use Rattle.std.proofs.Common.{◌≡◌, ℕ, List, [], ◌∷◌, ◌++◌, sym, ap, ◌∙◌}
use Rattle.ecf_graph.specs.Placement.{placement_of}
use Rattle.ecf_online.specs.Fed.{IsFed}
use Rattle.ecf_online.specs.Watched.{first_not_free}
use Rattle.ecf_verdicts.specs.Before.{before}
use Rattle.ecf_verdicts.specs.Cycles.{cycle, cycle_in}
use Rattle.ecf_verdicts.specs.Traces.{members}
use Rattle.ecf_verdicts.specs.Words.{order}
use Rattle.ecf_judge.proofs.ObjectLaws.{placed_where_none, stuck_where_some, cycle_from, same_veto}
use Rattle.ecf_judge.proofs.object.judge_object.Goals as goal

pub returns-in-Some : goal.returns-in-Some
returns-in-Some c =
    let t = c.args.trace.now in
    let fed : IsFed t c.feed.new.self = c.in_ok-first.ensures.fed [] c.new-monitor.ensures.fed in
    let first : c.in_ok-first.first ≡ first_not_free t = c.in_ok-first.ensures.first [] c.new-monitor.ensures.fed in
    let stuck = stuck_where_some t c.in-Some.at (sym c.in-Some.is ∙ first) in
    let rest : c.rest_of-rest.result.items ≡ (placement_of (before t) (members t)).rest = c.rest_of-rest.ensures (placement_of (before t) (members t)) (c.in_ok-ordered.ensures t fed) in
    let named : c.from_vec.result ≡ cycle t = c.from_vec.ensures ∙ cycle_from c.placing_is_placement.ensures t c.rest_of-rest.result.items c.in_ok-cycle-in-Some.cycle.items rest (c.in_ok-cycle-in-Some.ensures ∙ ap (cycle_in t) c.as_slice.ensures.value) in
    (stuck.0, same_veto c.args.object c.in-Some.at _ c.from_vec.result _ stuck.1 named)

pub returns : goal.returns
returns c =
    let t = c.args.trace.now in
    let fed : IsFed t c.feed.new.self = c.in_ok-first.ensures.fed [] c.new-monitor.ensures.fed in
    let first : c.in_ok-first.first ≡ first_not_free t = c.in_ok-first.ensures.first [] c.new-monitor.ensures.fed in
    let placed : c.placed_of.result.items ≡ (placement_of (before t) (members t)).order = c.placed_of.ensures (placement_of (before t) (members t)) (c.in_ok-ordered.ensures t fed) in (
      placed_where_none t (sym c.in-None.is ∙ first),
      c.in_ok-push-in-None.ensures.ok ∙ ap (λ (invs : List ℕ). c.args.orders.now ++ order c.args.object invs ∷ []) (c.from_vec-invs.ensures ∙ (placed ∙ sym (c.placing_is_placement.ensures t).0)),
    )
