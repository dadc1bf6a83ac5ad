-- What an answer of the machine says of where a run leads.
use Rattle.std.specs.Prelude.{◌≡◌, ℕ, Bool, true, false, []}
use Rattle.ecf_lang.specs.declared.run.Outcome.{Outcome}
use Rattle.ecf_lang.specs.declared.run.Outcome.TheVariants.{Answer, Reverted, OutOfFuel}
use Rattle.ecf_lang.specs.Store.{Cells}
use Rattle.ecf_lang.specs.Part.{State, Reverts, RunsOut, Control, Done, Exit}
use Rattle.ecf_lang.specs.Alone as alone
use Rattle.ecf_progress.specs.declared.lone.Lone.{Lone}

-- a charge that was paid, or wasn't
abbrev pub payment : Bool → State → Control Unit
payment true state = Done tt state
payment false state = Exit RunsOut state

-- an outcome, with what the run had then
abbrev pub outcome_at : Outcome → State → Control ℕ
outcome_at (Answer value) state = Done value state
outcome_at (Reverted cause) state = Exit (Reverts cause) state
outcome_at OutOfFuel state = Exit RunsOut state

-- what a run with that outcome writes of what it has written
abbrev pub writes_after : Outcome → Cells → Cells
writes_after (Answer value) written = written
writes_after (Reverted cause) written = []
writes_after OutOfFuel written = []

-- what an invocation alone comes to, all but the fields after it
pub record IsLone (meant : alone.Lone) (lone : Lone) : Type 0 where
  pub outcome : lone.outcome ≡ meant.outcome
  pub steps : lone.steps ≡ meant.steps
  pub writes : lone.writes ≡ meant.writes
