use Rattle.std.proofs.Common.{ap, sym, ◌∙◌}
use Rattle.ecf_lang.specs.Part.{Done}
use Rattle.ecf_plain.proofs.LeadLaws.{before_more, ends_more, failed, further_on, reached}
use Rattle.ecf_plain.proofs.ValueLaws.{turned_round}
use Rattle.ecf_plain.proofs.expressions.not.Goals as goal

pub returns-in_err-charge : goal.returns-in_err-charge
returns-in_err-charge g c = λ store is opens. failed _ _ _ _ _ _ c.from_residual.ensures.1 (ends_more _ _ _ _ _ (c.in_err-charge.ensures.does store is opens))

pub returns : goal.returns
returns g c = λ store is opens. further_on (before_more _ (c.in_ok-charge.ensures.does store is opens)) (reached _ _ _ (ap (λ v. Done v c.charge.new.state.run) (turned_round c.args.out.now ∙ sym c.from.ensures)))
