use Rattle.ecf_lines.proofs.FitLaws.{lines_fit}
use Rattle.ecf_lines.proofs.laws.lines_fit.Goals as goal

pub returns : goal.returns
returns c = lines_fit
