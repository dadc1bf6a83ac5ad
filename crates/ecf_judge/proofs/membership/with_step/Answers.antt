use Rattle.std.proofs.Common.{refl}
use Rattle.std.proofs.lemmas.Bool.{eq-eqb, ne_eqb}
use Rattle.ecf_judge.specs.Membership.{with_member}
use Rattle.ecf_judge.proofs.membership.with_step.Goals as goal

pub returns-in-Nobody : goal.returns-in-Nobody
unfolding with_member
returns-in-Nobody c = rw c.in-Nobody.is refl

pub returns-then-first-inv : goal.returns-then-first-inv
unfolding with_member
returns-then-first-inv c = rw (c.in-Only.is, eq-eqb _ _ c.if-first-inv.true) refl

pub returns-else-first-inv : goal.returns-else-first-inv
unfolding with_member
returns-else-first-inv c = rw (c.in-Only.is, ne_eqb _ _ c.if-first-inv.false) refl

pub returns-in-Several : goal.returns-in-Several
unfolding with_member
returns-in-Several c = rw c.in-Several.is refl
