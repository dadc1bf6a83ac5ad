use Rattle.std.proofs.Common.{◌≡◌, take, []}
use Rattle.std.specs.List.{fold, filter_map, flat_map}
use Rattle.ecf_faults.specs.Tables.{with_next}
use Rattle.ecf_faults.specs.Declarations.{method_signature}
use Rattle.ecf_typing.specs.Views.{signatures_of}
use Rattle.ecf_typing.proofs.declaration.signatures.Given as goal

-- the objects so far
abbrev pub invariant-loop-object : goal.invariant-loop-object
invariant-loop-object l = signatures_of l.table ≡ fold with_next [] (filter_map method_signature (flat_map (λ object. object.members) (take l.object-index l.object-items)))
