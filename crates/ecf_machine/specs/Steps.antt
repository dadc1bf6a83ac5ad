-- How the machine gets on by a step.
use Rattle.std.specs.Prelude.{◌≡◌, ℕ, ◌+◌, ◌≤◌, ◌<◌}
use Rattle.ecf_lang.specs.Part.{Control}
use Rattle.ecf_machine.specs.Continuations.{from_doing}
use Rattle.ecf_machine.specs.Load.{load, measure}
use Rattle.ecf_machine.specs.declared.setting.Setting.{Setting}
use Rattle.ecf_machine.specs.declared.task.Doing.{Doing}
use Rattle.ecf_machine.specs.declared.machine.Machine.{Machine}

module _ {R : Type 0} where
  -- the machine leads where it led before, and has less fuel, or as much and less to do without
  pub record Advances (at : Setting) (before : Control ℕ) (fuel size : ℕ) (machine : Machine R) (doing : Doing) : Type 0 where
    pub same : before ≡ from_doing at machine doing
    pub spends : machine.state.run.fuel ≤ fuel
    pub falls : machine.state.run.fuel ≡ fuel → measure machine.tasks doing < size

  -- a step that may be free, from something of this size
  abbrev pub Goes : Setting → Control ℕ → Machine R → ℕ → Machine R → Doing → Type 0
  Goes at before old size new doing = Advances at before old.state.run.fuel (size + load old.tasks) new doing

  -- a step that begins with a charge
  abbrev pub Charges : Setting → Control ℕ → Machine R → Machine R → Doing → Type 0
  Charges at before old new doing = Advances at before old.state.run.fuel 1 new doing

  -- what is behind a charge
  abbrev pub Follows : Setting → Control ℕ → Machine R → Machine R → Doing → Type 0
  Follows at before old new doing = Advances at before (old.state.run.fuel + 1) 0 new doing
