-- What well-formedness gives to whoever numbers a contract's names.
use Rattle.ecf_lang.specs.declared.typed.Typed.{Typed}
use Rattle.ecf_lines.specs.Line.{IsNumbered}
use Rattle.ecf_wellformed.specs.WellFormed.{IsWellFormed}

-- the objects and method names of a well-formed contract have numbers that a transaction can hold
abbrev pub WellFormedIsNumbered : Type 0
WellFormedIsNumbered = (typed : Typed) → IsWellFormed typed → IsNumbered typed
