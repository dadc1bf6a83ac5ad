use Rattle.std.proofs.Common.{◌≡◌, take, []}
use Rattle.std.specs.List.{fold, filter_map}
use Rattle.ecf_faults.specs.Tables.{with_next}
use Rattle.ecf_faults.specs.Declarations.{field_kind}
use Rattle.ecf_typing.specs.Views.{contents_of}
use Rattle.ecf_typing.proofs.declaration.own_fields.Given as goal

-- the members so far
abbrev pub invariant-loop-member : goal.invariant-loop-member
invariant-loop-member l = contents_of l.table ≡ fold with_next [] (filter_map field_kind (take l.member-index l.members))
