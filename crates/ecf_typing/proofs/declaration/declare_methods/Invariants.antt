use Rattle.std.proofs.Common.{◌≡◌, take}
use Rattle.std.specs.List.{fold, filter_map}
use Rattle.ecf_faults.specs.Tables.{with_next}
use Rattle.ecf_faults.specs.Declarations.{method_signature}
use Rattle.ecf_typing.specs.Views.{signatures_of}
use Rattle.ecf_typing.proofs.declaration.declare_methods.Given as goal

-- the members so far
abbrev pub invariant-loop-member : goal.invariant-loop-member
invariant-loop-member l = signatures_of l.table ≡ fold with_next (signatures_of l.fn.table) (filter_map method_signature (take l.member-index l.members))
