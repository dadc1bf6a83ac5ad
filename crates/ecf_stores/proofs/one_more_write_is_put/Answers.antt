use Rattle.ecf_stores.specs.StoreLaws as proved
use Rattle.ecf_stores.proofs.one_more_write_is_put.Goals as goal

pub returns : goal.returns
returns c = proved.one_more_write_is_put
