use Rattle.std.proofs.Common.{rules}
use Rattle.ecf_turnstile.proofs.StepLaws.{look_keeps}
use Rattle.ecf_turnstile.proofs.turnstile.Turnstile.wait.Goals as goal

pub load-served-requires : goal.load-served-requires
load-served-requires g c = (search rules, search rules, look_keeps _ _ _ _ _ _ (search rules) (search rules))
