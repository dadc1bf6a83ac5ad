use Rattle.ecf_events.proofs.ActorLaws.{events_have_actors}
use Rattle.ecf_events.proofs.laws.events_have_actors.Goals as goal

pub returns : goal.returns
returns c = events_have_actors
