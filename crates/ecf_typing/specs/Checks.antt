-- What a check answers.
use Rattle.std.specs.Prelude.{◌≡◌, [], List, Result, Ok, Err}
use Rattle.ecf_faults.specs.declared.Fault.{Fault}
use Rattle.ecf_faults.specs.Expressions.{fault}
use Rattle.ecf_faults.specs.Least.{IsLeast}
use Rattle.ecf_typing.specs.declared.file.TypeFault.{TypeFault}
use Rattle.ecf_typing.specs.declared.file.TypeFault.TheVariants.{At, NoMemory}

-- the numbered form where there is no fault, else the first fault; or want of memory
abbrev pub Checks : {Form : Type 0} → List Fault → Form → Result Form TypeFault → Type 0
Checks faults form (Ok made) = (faults ≡ []) × (made ≡ form)
Checks faults form (Err (At token what)) = IsLeast (fault token what) faults
Checks faults form (Err NoMemory) = Unit {0}
