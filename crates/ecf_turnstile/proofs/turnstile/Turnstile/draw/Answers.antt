use Rattle.std.proofs.Common.{rules}
use Rattle.ecf_turnstile.proofs.StepLaws.{draw_keeps}
use Rattle.ecf_turnstile.proofs.turnstile.Turnstile.draw.Goals as goal

pub compare_exchange-found-requires : goal.compare_exchange-found-requires
compare_exchange-found-requires g c = (search rules, search rules, draw_keeps _ _ _ _ _ _ _ (search rules))
