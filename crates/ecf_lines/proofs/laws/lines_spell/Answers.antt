use Rattle.ecf_lines.proofs.SaidLaws.{said_is_spelled}
use Rattle.ecf_lines.proofs.SpelledLaws.{spelled_is_said}
use Rattle.ecf_lines.proofs.laws.lines_spell.Goals as goal

pub returns : goal.returns
returns c = record { said = said_is_spelled; spelled = spelled_is_said }
