use Rattle.ecf_plain.proofs.LeadLaws.{before_more, ends_more, failed, further_on, stays}
use Rattle.ecf_plain.proofs.ValueLaws.{reads}
use Rattle.ecf_plain.proofs.charges.fetch.Goals as goal

pub returns-in_err-charge : goal.returns-in_err-charge
returns-in_err-charge g c = λ store is opens. failed _ _ _ _ _ _ c.from_residual.ensures.1 (ends_more _ _ _ _ _ (c.in_err-charge.ensures.does store is opens))

pub returns-in-Ok : goal.returns-in-Ok
returns-in-Ok g c = λ store is opens.
    let paid = c.in_ok-charge.ensures.does store is opens in
    further_on (before_more _ paid) (reads store _ _ _ _ _ _ (stays paid is) c.cell_of-cell.ensures c.in-Ok.ensures.read c.in-Ok.ensures.backing c.in-Ok.ensures.fuel)
