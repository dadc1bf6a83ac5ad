-- What a fault says of a line.
use Rattle.std.specs.Prelude.{◌≡◌, Option, Some, None, Result, Ok, Err, MatchResult, MatchOption, ⊤}
use Rattle.ecf_lang.specs.declared.receipt.StopCause.{StopCause}
use Rattle.ecf_lang.specs.declared.receipt.StopCause.TheVariants as stop
use Rattle.ecf_stream.specs.declared.fault.StreamFault.{StreamFault}
use Rattle.ecf_stream.specs.declared.fault.StreamFault.TheVariants.{Form, NoObject, NoMethod, BadFuel, Arity, BadArg, NoMemory}
use Rattle.ecf_lines.specs.Line.{Reading}

-- the cause of a stop that the fault is; want of memory is none
abbrev pub cause_of : StreamFault → Option StopCause
cause_of Form = Some stop.Form
cause_of NoObject = Some stop.Object
cause_of NoMethod = Some stop.Method
cause_of BadFuel = Some stop.Fuel
cause_of Arity = Some stop.Arity
cause_of BadArg = Some stop.Arg
cause_of NoMemory = None

-- the answer is what reading gives, value or cause, or want of memory
abbrev pub Tells : {A : Type 0} → Result A StreamFault → Reading A → Type 0
Tells result reading =
    MatchResult result (λ value. reading ≡ Ok value) (λ fault. MatchOption (cause_of fault) ⊤ (λ cause. reading ≡ Err cause))
