use Rattle.ecf_stream.proofs.EndLaws.{first_part, next_part}
use Rattle.ecf_stream.proofs.laws.parts_follow.Goals as goal

pub returns : goal.returns
returns c = record { first = first_part; next = next_part }
