use Rattle.std.proofs.Common.{◌≡◌, map, take}
use Rattle.std.specs.List.{flat_map}
use Rattle.ecf_faults.specs.Declarations.{object_table, signature_table, surroundings_of, object_form, object_faults}
use Rattle.ecf_faults.specs.Least.{least_with}
use Rattle.ecf_typing.specs.Views.{view_of}
use Rattle.ecf_typing.proofs.file.objects.Given as goal

-- the objects so far
abbrev pub invariant-loop-declared : goal.invariant-loop-declared
invariant-loop-declared l = record {
  objects : (view_of l.around).objects ≡ object_table l.tree;
  signatures : (view_of l.around).signatures ≡ signature_table l.tree;
  form : l.made ≡ map (λ object. object_form (surroundings_of l.tree object) object) (take l.declared-index l.declared-items);
  faults : l.faults.first ≡ least_with l.fn.faults.first (flat_map (λ object. object_faults (surroundings_of l.tree object) object.members) (take l.declared-index l.declared-items));
}
