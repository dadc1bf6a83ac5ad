use Rattle.std.proofs.Common.{◌≡◌, take}
use Rattle.std.specs.List.{filter_map, flat_map}
use Rattle.ecf_faults.specs.Declarations.{field_form, method_form, member_faults}
use Rattle.ecf_faults.specs.Least.{least_with}
use Rattle.ecf_typing.specs.Views.{view_of}
use Rattle.ecf_typing.proofs.member.members.Given as goal

-- the members so far
abbrev pub invariant-loop-member : goal.invariant-loop-member
invariant-loop-member l = record {
  name : l.made.name ≡ l.object.name;
  fields : l.made.fields ≡ filter_map (field_form (view_of l.around)) (take l.member-index l.member-items);
  methods : l.made.methods ≡ filter_map (method_form (view_of l.around)) (take l.member-index l.member-items);
  faults : l.faults.first ≡ least_with l.fn.faults.first (flat_map (member_faults (view_of l.around)) (take l.member-index l.member-items));
}
