-- How much the invocations of a run may still be charged.
use Rattle.std.specs.Prelude.{ℕ, ◌+◌, ◌^◌, ◌<◌, List, All}
use Rattle.ecf_lang.specs.declared.run.Invocation.{Invocation}

-- what an invocation has paid and all that is left fit a u32 together
abbrev pub ChargesFit : ℕ → List Invocation → Type 0
ChargesFit fuel invocations = All (λ one. one.own_fuel + fuel < 2 ^ 32) invocations
