use Rattle.std.proofs.Common.{◌≡◌, ◌<◌, ◌≤◌, ℕ, [], get_or, add-one, sym, subst, ap, ◌∙◌, arith}
use Rattle.ecf_graph.specs.Rows.{numbers_below}
use Rattle.ecf_judge.specs.Membership.{membership}
use Rattle.ecf_judge.specs.declared.membership.Membership.TheVariants.{Nobody, Several}
use Rattle.ecf_lang.specs.declared.limits.TheConstants.{MAX_OBJECTS}
use Rattle.ecf_verdicts.specs.Traces.{objects, trace}
use Rattle.ecf_judge.proofs.ObjectLaws.{SettledBelow, has_steps, objects_below, settled_none, settled_few, settled_order, settled_rest, settled_all, settled_veto, same_free, same_stuck, length-trace}
use Rattle.ecf_judge.proofs.verdict.judge_objects.Goals.{then-is_several+in_ok-veto+in_default, else-is_several}
use Rattle.ecf_judge.proofs.verdict.judge_objects.Goals as goal

pub loop-object-init : goal.loop-object-init
loop-object-init c = settled_none c.args.steps.now c.new-orders.result c.new-orders.ensures

pub loop-object-preserved : goal.loop-object-preserved
loop-object-preserved c =
    let steps = c.args.steps.now in
    let o = c.loop-object.object in
    subst (λ m. SettledBelow steps m c.if-is_several.orders) (sym (add-one o)) (elim c.if-is_several.branch [
      | then-is_several+in_ok-veto+in_default w ↦ (
          let several : get_or c.memberships_of-members.result.table o Nobody ≡ Several = c.is_several.ensures.yes w.if-is_several.true in
          let mine : w.trace_at-trace.result.now ≡ trace steps o = w.trace_at-trace.ensures ∙ (ap (λ l. get_or l o []) w.as_slice.ensures.value ∙ c.in_ok-traces.ensures o several) in
          let free = same_free o _ (trace steps o) c.loop-object.orders w.judge_object.new.orders w.in_ok-veto.field-0 mine w.in_default.is w.in_ok-veto.ensures in
          rw w.orders-is (settled_order c.members_are.ensures steps o c.loop-object.orders w.judge_object.new.orders (sym (c.memberships_of-members.ensures o) ∙ several) free.0 free.1 c.loop-object.invariant)
          )
      | else-is_several w ↦ rw w.orders-is (settled_few c.members_are.ensures c.single_free.ensures c.test_tells_free.ensures steps o c.loop-object.orders (λ e. c.is_several.ensures.no w.if-is_several.false (c.memberships_of-members.ensures o ∙ e)) c.loop-object.invariant)
    ])

pub judge_object-requires : goal.judge_object-requires
judge_object-requires c =
    let steps = c.args.steps.now in
    let o = c.loop-object.object in
    let several : get_or c.memberships_of-members.result.table o Nobody ≡ Several = c.is_several.ensures.yes c.if-is_several.true in
    let mine : c.trace_at-trace.result.now ≡ trace steps o = c.trace_at-trace.ensures ∙ (ap (λ l. get_or l o []) c.as_slice.ensures.value ∙ c.in_ok-traces.ensures o several) in
    rw mine (omega (arith, length-trace steps o, c.requires))

pub returns-in-Some : goal.returns-in-Some
returns-in-Some c =
    let steps = c.args.steps.now in
    let o = c.loop-object.object in
    let several : get_or c.memberships_of-members.result.table o Nobody ≡ Several = c.is_several.ensures.yes c.if-is_several.true in
    let mine : c.trace_at-trace.result.now ≡ trace steps o = c.trace_at-trace.ensures ∙ (ap (λ l. get_or l o []) c.as_slice.ensures.value ∙ c.in_ok-traces.ensures o several) in
    let stuck = same_stuck o _ (trace steps o) c.loop-object.orders c.judge_object.new.orders c.in_ok-veto.field-0 c.in-Some.veto mine c.in-Some.is c.in_ok-veto.ensures in
    let few = c.memberships_of-members.result.few in
    let all : numbers_below (has_steps steps) MAX_OBJECTS ≡ objects steps = objects_below c.numbers_are_members.ensures steps c.memberships_of-members.result.table c.memberships_of-members.ensures MAX_OBJECTS c.memberships_of-members.result.long in
    stuck.1 ∙ settled_veto c.members_are.ensures steps o MAX_OBJECTS c.loop-object.orders all (omega (arith, few)) (sym (c.memberships_of-members.ensures o) ∙ several) stuck.0 c.loop-object.invariant

pub returns : goal.returns
returns c =
    let steps = c.args.steps.now in
    let members = c.memberships_of-members.result in
    let all : numbers_below (has_steps steps) MAX_OBJECTS ≡ objects steps = objects_below c.numbers_are_members.ensures steps members.table c.memberships_of-members.ensures MAX_OBJECTS members.long in
    let few : c.loop-object.object ≤ MAX_OBJECTS = (let f = members.few in omega (arith, f)) in
    let below = λ (o : ℕ) (e : membership (trace steps o) ≡ Several). (let l = members.several_below o (c.memberships_of-members.ensures o ∙ e) in let x : o < c.loop-object.object = omega (arith, l) in x) in
    settled_all steps MAX_OBJECTS c.loop-object.orders all (settled_rest c.members_are.ensures c.single_free.ensures c.test_tells_free.ensures steps c.loop-object.object MAX_OBJECTS c.loop-object.orders few below c.loop-object.invariant)
