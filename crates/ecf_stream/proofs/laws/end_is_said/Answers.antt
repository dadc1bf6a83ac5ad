use Rattle.ecf_stream.proofs.EndLaws.{end_is_said}
use Rattle.ecf_stream.proofs.laws.end_is_said.Goals as goal

pub returns : goal.returns
returns c = end_is_said
