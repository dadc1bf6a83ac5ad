use Rattle.ecf_stream.proofs.CutLaws.{lines_are_cut}
use Rattle.ecf_stream.proofs.laws.lines_are_cut.Goals as goal

pub returns : goal.returns
returns c = lines_are_cut
