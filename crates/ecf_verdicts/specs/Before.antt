-- Which invocation a trace puts before which.
use Rattle.std.specs.Prelude.{ℕ, Bool, false, ◌&&◌, ◌||◌, ◌==◌, List, [], ◌∷◌}
use Rattle.std.specs.List.{list_any}
use Rattle.ecf_lang.specs.declared.run.Step.{Step}
use Rattle.ecf_verdicts.specs.Conflicts.{conflicts}

-- a step of i stands earlier than a conflicting step of j
unfoldable pub before : List Step → ℕ → ℕ → Bool
before [] i j = false
before (s ∷ later) i j = ((s.inv == i) && list_any (λ u. (u.inv == j) && conflicts s u) later) || before later i j
