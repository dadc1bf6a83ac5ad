use Rattle.ecf_faults_cases.proofs.LimitLaws.{object_limit, member_limits, parameter_limit, local_limit, repeated_count}
use Rattle.ecf_faults_cases.proofs.limits.Goals as goal

pub returns-clause-objects : goal.returns-clause-objects
returns-clause-objects c = object_limit

pub returns-clause-members : goal.returns-clause-members
returns-clause-members c = member_limits

pub returns-clause-repeated : goal.returns-clause-repeated
returns-clause-repeated c = repeated_count

pub returns-clause-parameters : goal.returns-clause-parameters
returns-clause-parameters c = parameter_limit

pub returns-clause-locals : goal.returns-clause-locals
returns-clause-locals c = local_limit
