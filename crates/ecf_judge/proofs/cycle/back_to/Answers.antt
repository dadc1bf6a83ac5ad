use Rattle.std.proofs.Common.{◌≡◌, length, sym, ◌∙◌, arith}
use Rattle.ecf_judge.proofs.WalkLaws.{back_found, back_next, back_end, length_none}
use Rattle.ecf_judge.proofs.cycle.back_to.Goals as goal

pub returns-then-i-j : goal.returns-then-i-j
returns-then-i-j c = c.in_ok-push.ensures.items ∙ (back_found c.back.part.items c.back.path.items c.pop.new.self.items c.args.i c.in-Some.j c.in-Some.ensures.items c.if-i-j.true ∙ c.back.invariant)

pub back-preserved : goal.back-preserved
back-preserved c = rw c.in_ok-push.ensures.items (back_next c.back.part.items c.back.path.items c.pop.new.self.items c.args.i c.in-Some.j c.in-Some.ensures.items c.if-i-j.false ∙ c.back.invariant)

pub returns : goal.returns
returns c =
    let len : length c.back.path.items ≡ 0 = grind arith in
    sym (back_end c.back.part.items c.back.path.items c.args.i (length_none c.back.path.items len)) ∙ c.back.invariant
