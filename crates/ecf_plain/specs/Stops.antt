-- The reasons for which an operator has no value.
use Rattle.ecf_lang.specs.declared.run.Cause.{Cause}
use Rattle.ecf_lang.specs.declared.run.Cause.TheVariants.{Overflow, DivZero}
use Rattle.ecf_plain.specs.declared.stopped.Stopped.{Stopped}
use Rattle.ecf_plain.specs.declared.stopped.Stopped.TheVariants as stopped

-- an operator stops by overflow or at a division by zero, and by nothing else
abbrev pub stopped_by : Cause → Stopped
stopped_by Overflow = stopped.Overflow
stopped_by DivZero = stopped.DivZero
stopped_by _ = stopped.OutOfMemory
