use Rattle.ecf_typing.proofs.ExpressionLaws.{name_summary}
use Rattle.ecf_typing.proofs.expression.Sight.name.Goals as goal

pub returns : goal.returns
returns c = name_summary _ _ _ _ _ _ _ _ _ c.referent-referent.ensures c.note_referent.ensures c.referent_type.ensures c.referent_form.ensures
