-- Where a frame ends.
use Rattle.std.specs.Prelude.{List, ◌∷◌}
use Rattle.ecf_machine.specs.declared.task.Task.{Task}
use Rattle.ecf_machine.specs.declared.task.Task.TheVariants as task

-- the next task leaves the frame
abbrev pub IsReturn : List Task → Type 0
IsReturn (task.Leave caller ∷ tasks) = Unit {0}
IsReturn (task.Caught caller ∷ tasks) = Unit {0}
IsReturn _ = ⊥
