use Rattle.ecf_events.proofs.SpelledLaws.{said_is_spelled, spelled_is_said}
use Rattle.ecf_events.proofs.laws.lines_spell.Goals as goal

pub returns : goal.returns
returns c = record { said = said_is_spelled; spelled = spelled_is_said }
