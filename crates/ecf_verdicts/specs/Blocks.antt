-- The steps of a trace, one invocation after the other.
use Rattle.std.specs.Prelude.{ℕ, ◌==◌, List, filter}
use Rattle.std.specs.List.{flat_map}
use Rattle.ecf_lang.specs.declared.run.Step.{Step}

-- the steps of one invocation
abbrev pub block : List Step → ℕ → List Step
block steps inv = filter (λ s. s.inv == inv) steps

-- the steps of one invocation after those of another, in this order
abbrev pub blocks : List Step → List ℕ → List Step
blocks steps order = flat_map (block steps) order
