use Rattle.ecf_stream.proofs.EndLaws.{calls_follow}
use Rattle.ecf_stream.proofs.laws.calls_follow.Goals as goal

pub returns : goal.returns
returns c = calls_follow
