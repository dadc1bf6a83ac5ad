use Rattle.std.proofs.Common.{◌≡◌, ◌-◌, take, length}
use Rattle.std.specs.List.{filter_map}
use Rattle.ecf_faults.specs.declared.What.TheVariants as what
use Rattle.ecf_faults.specs.Declarations.{excess_faults}
use Rattle.ecf_faults.specs.Least.{least_with}
use Rattle.ecf_typing.specs.Sorts.{declaration_in}
use Rattle.ecf_typing.proofs.declaration.note_members_past.Given as goal

-- the members so far
abbrev pub invariant-loop-member : goal.invariant-loop-member
invariant-loop-member l = record {
  room : l.room ≡ l.limit - length (filter_map (declaration_in l.sort) (take l.member-index l.members));
  faults : l.faults.first ≡ least_with l.fn.faults.first (excess_faults what.TooManyMembers l.limit (filter_map (declaration_in l.sort) (take l.member-index l.members)));
}
