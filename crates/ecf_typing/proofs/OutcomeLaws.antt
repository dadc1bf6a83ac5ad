-- What a whole check comes to, by the laws of the first fault.
use Rattle.std.proofs.Common.{◌≡◌, [], List, Option, Some, None, sym, ◌∙◌}
use Rattle.ecf_faults.specs.declared.Fault.{Fault}
use Rattle.ecf_faults.specs.Least.{IsLeast, least_with, LeftIsLeast, LeftOfNone}

pub accepted : {F : Type 0} → LeftOfNone → (faults : List Fault) (form made : F) (last : Option Fault) → last ≡ least_with None faults → last ≡ None → made ≡ form → (faults ≡ []) × (made ≡ form)
accepted law faults form made last noted none is = (law faults (sym noted ∙ none), is)

pub refused : LeftIsLeast → (faults : List Fault) (f : Fault) (last : Option Fault) → last ≡ least_with None faults → last ≡ Some f → IsLeast f faults
refused law faults f last noted one = law faults f (sym noted ∙ one)
