use Rattle.ecf_progress.proofs.StateSteps.{write_by_parts}
use Rattle.ecf_progress.proofs.state.RunState.write.Goals as goal

pub returns-clause-write : goal.returns-clause-write
returns-clause-write g c = write_by_parts c.args.inv c.args.cell c.args.value c.args.self.now.run c.overwrite.new.self.run c.add_step.new.self.run c.in_ok-overwrite.ensures.run c.in_ok-add_step.ensures.run
