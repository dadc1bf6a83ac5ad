use Rattle.std.proofs.Common.{◌==◌, ◌&&◌, not, drop, refl, sym, ap, ◌∙◌}
use Rattle.std.specs.List.{list_any}
use Rattle.ecf_graph.specs.Placement.{without}
use Rattle.ecf_graph.specs.Rows.{those_in}
use Rattle.ecf_graph.proofs.RoundLaws.{any_without, in_without}
use Rattle.ecf_graph.proofs.placement.place_next.Goals as goal

pub returns-in-None-clause-next : goal.returns-in-None-clause-next
returns-in-None-clause-next c = (sym c.in-None.ensures, refl, refl)

pub returns-in_ok-push-in-Some-clause-next : goal.returns-in_ok-push-in-Some-clause-next
returns-in_ok-push-in-Some-clause-next c =
    let j = c.in-Some.j in
    (j, sym c.in-Some.ensures, in_without c.args.left.now c.remove.new.self j c.remove.ensures c.args.members.now, c.in_ok-push-in-Some.ensures.items)

pub returns-in_ok-push-in-Some-clause-from : goal.returns-in_ok-push-in-Some-clause-from
returns-in_ok-push-in-Some-clause-from c =
    let j = c.in-Some.j in
    let members = c.args.members.now in
    let kept = in_without c.args.left.now c.remove.new.self j c.remove.ensures in
    kept (drop c.args.from members) ∙ (ap (without j) c.requires.from ∙ sym (kept members))

pub returns-in_ok-push-in-Some-clause-set : goal.returns-in_ok-push-in-Some-clause-set
returns-in_ok-push-in-Some-clause-set c i =
    let j = c.in-Some.j in
    let members = c.args.members.now in
    let kept = in_without c.args.left.now c.remove.new.self j c.remove.ensures in
    c.remove.ensures i ∙ (ap (λ b. b && not (i == j)) (c.requires.set i) ∙ (sym (any_without j (those_in c.args.left.now members) i) ∙ ap (λ l. list_any (λ x. x == i) l) (sym (kept members))))
