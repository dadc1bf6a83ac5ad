use Rattle.std.proofs.Common.{◌≡◌, take, []}
use Rattle.std.specs.List.{fold, filter_map}
use Rattle.ecf_faults.specs.Tables.{with_next}
use Rattle.ecf_faults.specs.Declarations.{repeat_faults}
use Rattle.ecf_faults.specs.Least.{least_with}
use Rattle.ecf_typing.specs.Views.{contents_of}
use Rattle.ecf_typing.specs.Sorts.{declaration_in}
use Rattle.ecf_typing.proofs.declaration.note_members.Given as goal

-- the members so far
abbrev pub invariant-loop-member : goal.invariant-loop-member
invariant-loop-member l = record {
  table : contents_of l.table ≡ fold with_next [] (filter_map (declaration_in l.sort) (take l.member-index l.members));
  faults : l.faults.first ≡ least_with l.fn.faults.first (repeat_faults l.what [] (filter_map (declaration_in l.sort) (take l.member-index l.members)));
}
