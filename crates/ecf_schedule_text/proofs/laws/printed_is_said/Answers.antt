use Rattle.ecf_schedule_text.proofs.EventLaws.{printed_is_said}
use Rattle.ecf_schedule_text.proofs.laws.printed_is_said.Goals as goal

pub returns : goal.returns
returns c = printed_is_said c.lines_spell.ensures.spelled
