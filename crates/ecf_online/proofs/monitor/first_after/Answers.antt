use Rattle.std.proofs.Common.{refl}
use Rattle.ecf_online.specs.Watched.{first_with}
use Rattle.ecf_online.proofs.monitor.first_after.Goals as goal

pub returns-in-Some : goal.returns-in-Some
unfolding first_with
returns-in-Some c = rw c.in-Some.is refl

pub returns-then-closes : goal.returns-then-closes
unfolding first_with
returns-then-closes c = rw (c.in-None.is, c.if-closes.true) refl

pub returns-else-closes : goal.returns-else-closes
unfolding first_with
returns-else-closes c = rw (c.in-None.is, c.if-closes.false) refl
