-- On which contracts calls may open invocations.
use Rattle.std.specs.Prelude.{ℕ, ◌≤◌, Bool, true, nat_le, length}
use Rattle.ecf_lang.specs.declared.limits.TheConstants.{MAX_OBJECTS}
use Rattle.ecf_lang.specs.declared.typed.Typed.{Typed}
use Rattle.ecf_machine.specs.declared.setting.External.{External}
use Rattle.ecf_machine.specs.declared.setting.External.TheVariants as external

-- whether each object that a call may open has a number that an invocation can keep
abbrev pub can_open : External → Typed → Bool
can_open external.Opens typed = nat_le (length typed.objects) MAX_OBJECTS
can_open (external.Answers answers) typed = true

-- an object of that number, if the contract has it, has a number that an invocation can keep
abbrev pub CanNumber : ℕ → Typed → Type 0
CanNumber to typed = MAX_OBJECTS ≤ to → length typed.objects ≤ MAX_OBJECTS
