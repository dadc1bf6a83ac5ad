use Rattle.ecf_turnstile.proofs.StepLaws.{start_keeps}
use Rattle.ecf_turnstile.proofs.turnstile.Turnstile.new.Goals as goal

pub new-requires : goal.new-requires
new-requires g c = rw (c.push_reserved.ensures.items, c.reserve.ensures.items, c.new-slots.ensures.items, c.of-about.ensures) (start_keeps g.B.History.opening g.B.History.entries c.args.value c.history_len-count.result c.history_len-count.ensures.count)
