use Rattle.ecf_progress.proofs.StateSteps.{read_by_parts}
use Rattle.ecf_progress.proofs.state.RunState.read.Goals as goal

pub returns-clause-read : goal.returns-clause-read
returns-clause-read g c = read_by_parts _ _ _ _ _ _ _ c.in_ok-value.ensures.value c.in_ok-value.ensures.run c.in_ok-add_step.ensures.run
