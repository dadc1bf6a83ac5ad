use Rattle.ecf_wellformed.proofs.CounterLaws.{is_well_formed, flag_is_no_number}
use Rattle.ecf_wellformed.proofs.counter.Goals as goal

-- src/lib.rt:7:1
pub returns-clause-is_well_formed : goal.returns-clause-is_well_formed
returns-clause-is_well_formed c = is_well_formed

-- src/lib.rt:7:1
pub returns-clause-flag_is_no_number : goal.returns-clause-flag_is_no_number
returns-clause-flag_is_no_number c = flag_is_no_number
