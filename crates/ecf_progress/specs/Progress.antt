-- What a run has so far, what it reads from, and what its open tries go back to.
use Rattle.std.specs.Prelude.{ℕ, List, [], ◌∷◌, ◌++◌, length, map, take, drop}
use Rattle.ecf_lang.specs.declared.run.Step.{Step}
use Rattle.ecf_lang.specs.Store.{Store, Cells}
use Rattle.ecf_lang.specs.Part.{State, as_undone}

-- what a try goes back to
pub record Savepoint : Type 0 where
  pub written : Cells
  pub steps : List Step
  -- how many invocations there were
  pub opened : ℕ

-- the store of a run, and what its open tries go back to, the innermost first
pub record Backing : Type 0 where
  pub store : Store
  pub savepoints : List Savepoint

-- a run's state with what is behind it
pub record Progress : Type 0 where
  pub run : State
  pub backing : Backing

-- what a try that begins here goes back to
abbrev pub savepoint_of : State → Savepoint
savepoint_of state = record { written = state.written; steps = state.steps; opened = length state.invocations }

-- with a try that begins here
abbrev pub with_savepoint : State → Backing → Backing
with_savepoint state backing = record backing { savepoints = savepoint_of state ∷ backing.savepoints }

-- without the innermost try
abbrev pub without_savepoint : Backing → Backing
without_savepoint backing = record backing { savepoints = outer backing.savepoints }
  where
    outer : List Savepoint → List Savepoint
    outer [] = []
    outer (one ∷ others) = others

-- the state once the innermost try is undone
abbrev pub undone_to : Backing → State → State
undone_to backing later = undone backing.savepoints
  where
    undone : List Savepoint → State
    undone [] = later
    undone (one ∷ others) = record later {
      written = one.written;
      steps = one.steps;
      invocations = take one.opened later.invocations ++ map as_undone (drop one.opened later.invocations);
    }
