use Rattle.std.proofs.Common.{Err, ap, sym, subst}
use Rattle.ecf_lang.specs.Meaning.{or_revert}
use Rattle.ecf_plain.specs.Leads.{EndedBy}
use Rattle.ecf_plain.proofs.LeadLaws.{before_more, ends_more, failed, further_on, reached, on_to_end, no_value}
use Rattle.ecf_plain.proofs.expressions.operate.Goals as goal

pub returns-in_err-charge : goal.returns-in_err-charge
returns-in_err-charge g c = λ store is opens. failed _ _ _ _ _ _ c.from_residual.ensures.1 (ends_more _ _ _ _ _ (c.in_err-charge.ensures.does store is opens))

pub returns-in-Ok : goal.returns-in-Ok
returns-in-Ok g c = λ store is opens. further_on (before_more _ (c.in_ok-charge.ensures.does store is opens)) (reached _ _ _ (ap (λ r. or_revert r c.charge.new.state.run) (sym c.in-Ok.ensures)))

pub returns-in-Err : goal.returns-in-Err
returns-in-Err g c = λ store is opens.
    on_to_end _ _ (further_on (before_more _ (c.in_ok-charge.ensures.does store is opens)) (reached _ _ _ (ap (λ r. or_revert r c.charge.new.state.run) (sym c.in-Err.ensures))))
    (subst (λ stop. EndedBy (or_revert (Err c.in-Err.cause) c.charge.new.state.run) stop c.charge.new.state c.charge.new.state) (sym c.stopped_by.ensures) (no_value c.in-Err.cause c.charge.new.state))
