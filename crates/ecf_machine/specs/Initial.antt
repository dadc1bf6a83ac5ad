-- The machine before its first step.
use Rattle.std.specs.Prelude.{ℕ, []}
use Rattle.ecf_lang.specs.Store.{Store}
use Rattle.ecf_lang.specs.Meaning.{initial_state}
use Rattle.ecf_progress.specs.declared.frame.OpenFrame.{OpenFrame}
use Rattle.ecf_machine.specs.declared.machine.Machine.{Machine}

-- a run of that fuel before its first step, in that frame and with nothing that waits
abbrev pub initial_machine : {R : Type 0} → Store → ℕ → OpenFrame → Machine R
initial_machine store fuel frame = record {
  state = record { run = initial_state fuel; backing = record { store = store; savepoints = [] } };
  frame = frame;
  locals = record { top = []; below = [] };
  args = record { top = []; below = [] };
  tasks = [];
}
