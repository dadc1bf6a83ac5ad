use Rattle.std.proofs.Common.{◌≡◌, ◌-◌, map, take, length}
use Rattle.ecf_lang.specs.declared.limits.TheConstants.{MAX_OBJECTS}
use Rattle.ecf_faults.specs.declared.What.TheVariants as what
use Rattle.ecf_faults.specs.Declarations.{excess_faults, object_declaration}
use Rattle.ecf_faults.specs.Least.{least_with}
use Rattle.ecf_typing.proofs.declaration.note_objects_past.Given as goal

-- the objects so far
abbrev pub invariant-loop-object : goal.invariant-loop-object
invariant-loop-object l = record {
  room : l.room ≡ MAX_OBJECTS - length (map object_declaration (take l.object-index l.objects));
  faults : l.faults.first ≡ least_with l.fn.faults.first (excess_faults what.TooManyObjects MAX_OBJECTS (map object_declaration (take l.object-index l.objects)));
}
