use Rattle.ecf_plain.proofs.LeadLaws.{before_more, ends_more, failed}
use Rattle.ecf_plain.proofs.charges.constant.Goals as goal

pub returns-in_err-charge : goal.returns-in_err-charge
returns-in_err-charge g c = λ store is opens. failed _ _ _ _ _ _ c.from_residual.ensures.1 (ends_more _ _ _ _ _ (c.in_err-charge.ensures.does store is opens))

pub returns : goal.returns
returns g c = λ store is opens. before_more _ (c.in_ok-charge.ensures.does store is opens)
