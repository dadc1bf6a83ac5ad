use Rattle.std.proofs.Common.{◌≡◌, ◌-◌, ◌+◌, suc, length, sym, ◌∙◌, arith}
use Rattle.std.proofs.lemmas.Result.{IfOk-weaker}
use Rattle.ecf_judge.proofs.WalkLaws.{way_first, way_next, way_repeats, way_none, way_ends}
use Rattle.ecf_judge.proofs.cycle.walk.Goals as goal

pub loop-k-init : goal.loop-k-init
loop-k-init c = way_first c.args.rest.now c.args.start c.args.rows.now _ _ _ (omega arith) c.new-path.ensures.items c.new-visited.ensures.none

pub loop-k-preserved : goal.loop-k-preserved
loop-k-preserved c =
    let n = length c.args.rest.now - c.loop-k.k in
    let m = length c.args.rest.now - (c.loop-k.k + 1) in
    let e : n ≡ suc m = omega arith in
    way_next c.args.rest.now c.args.start c.args.rows.now n m c.loop-k.present c.in-Some.i c.loop-k.path.items c.push.new.self.items c.loop-k.visited c.insert.new.self
    e c.in_ok-push.ensures.items c.in_ok-insert.ensures.done c.in-Some.ensures (sym c.contains.ensures ∙ c.if-contains.false) c.loop-k.invariant

pub returns-in-None : goal.returns-in-None
returns-in-None c t tells = c.new.ensures.items ∙ way_none c.args.rest.now c.args.start c.args.rows.now _ c.loop-k.present c.loop-k.path.items c.loop-k.visited c.in-None.ensures c.loop-k.invariant t tells

pub returns-then-contains : goal.returns-then-contains
returns-then-contains c t tells =
    let n = length c.args.rest.now - c.loop-k.k in
    let m = length c.args.rest.now - (c.loop-k.k + 1) in
    let e : n ≡ suc m = omega arith in
    IfOk-weaker c.back_to.result _ _ (λ v f. f ∙ way_repeats c.args.rest.now c.args.start c.args.rows.now n m c.loop-k.present c.in-Some.i c.loop-k.path.items c.push.new.self.items c.loop-k.visited c.insert.new.self
    e c.in_ok-push.ensures.items c.in_ok-insert.ensures.done c.in-Some.ensures (sym c.contains.ensures ∙ c.if-contains.true) c.loop-k.invariant t tells) c.back_to.ensures

pub returns : goal.returns
returns c t tells = c.new-2.ensures.items ∙ way_ends c.args.rest.now c.args.start c.args.rows.now _ c.loop-k.present c.loop-k.path.items c.loop-k.visited (omega arith) c.loop-k.invariant t tells
