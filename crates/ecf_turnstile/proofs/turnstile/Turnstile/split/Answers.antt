use Rattle.std.proofs.Common.{rules}
use Rattle.ecf_turnstile.proofs.StepLaws.{split_keeps}
use Rattle.ecf_turnstile.proofs.turnstile.Turnstile.split.Goals as goal

pub split_seat-second-requires : goal.split_seat-second-requires
split_seat-second-requires g c = (search rules, search rules, split_keeps _ _ _ _ _)
