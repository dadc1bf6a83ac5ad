use Rattle.ecf_plain.proofs.LeadLaws.{before_more, ends_more, failed, further_on}
use Rattle.ecf_plain.proofs.ValueLaws.{writes}
use Rattle.ecf_plain.proofs.charges.put.Goals as goal

pub returns-in_err-charge : goal.returns-in_err-charge
returns-in_err-charge g c = λ store is opens. failed _ _ _ _ _ _ c.from_residual.ensures.1 (ends_more _ _ _ _ _ (c.in_err-charge.ensures.does store is opens))

pub returns-in-Ok : goal.returns-in-Ok
returns-in-Ok g c = λ store is opens.
    further_on (before_more _ (c.in_ok-charge.ensures.does store is opens)) (writes _ _ _ _ _ _ c.cell_of-cell.ensures c.in-Ok.ensures.write c.in-Ok.ensures.backing c.in-Ok.ensures.fuel)
