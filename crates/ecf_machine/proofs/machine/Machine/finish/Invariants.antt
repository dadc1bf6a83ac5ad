use Rattle.std.specs.Prelude.{◌≡◌}
use Rattle.ecf_machine.specs.Continuations.{from_doing}
use Rattle.ecf_machine.specs.Load.{measure}
use Rattle.ecf_machine.proofs.machine.Machine.finish.Given as goal

abbrev pub invariant-loop-doing : goal.invariant-loop-doing
invariant-loop-doing g l = from_doing l.at l.fn.self l.fn.first ≡ from_doing l.at l.self l.doing

abbrev pub decreases-loop-doing : goal.decreases-loop-doing
decreases-loop-doing g l = l.self.state.run.fuel

abbrev pub invariant-loop-doing-2 : goal.invariant-loop-doing-2
invariant-loop-doing-2 g l = (from_doing l.at l.fn.self l.fn.first ≡ from_doing l.at l.self l.doing) × (l.self.state.run.fuel ≡ l.fuel)

abbrev pub decreases-loop-doing-2 : goal.decreases-loop-doing-2
decreases-loop-doing-2 g l = measure l.self.tasks l.doing
