use Rattle.ecf_stores.specs.OrderLaws as proved
use Rattle.ecf_stores.proofs.cell_order_is_total.Goals as goal

pub returns : goal.returns
returns c = proved.cell_order_is_total
