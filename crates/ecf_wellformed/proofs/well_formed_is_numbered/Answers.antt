use Rattle.ecf_wellformed.proofs.NumberingLaws.{is_numbered}
use Rattle.ecf_wellformed.proofs.well_formed_is_numbered.Goals as goal

pub returns : goal.returns
returns c = is_numbered
