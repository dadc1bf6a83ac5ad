use Rattle.std.proofs.Common.{◌≡◌, map, take, []}
use Rattle.std.specs.List.{fold}
use Rattle.ecf_faults.specs.declared.What.TheVariants as what
use Rattle.ecf_faults.specs.Tables.{with_next}
use Rattle.ecf_faults.specs.Declarations.{repeat_faults, object_declaration}
use Rattle.ecf_faults.specs.Least.{least_with}
use Rattle.ecf_typing.specs.Views.{contents_of}
use Rattle.ecf_typing.proofs.declaration.note_objects.Given as goal

-- the objects so far
abbrev pub invariant-loop-object : goal.invariant-loop-object
invariant-loop-object l = record {
  table : contents_of l.table ≡ fold with_next [] (map object_declaration (take l.object-index l.objects));
  faults : l.faults.first ≡ least_with l.fn.faults.first (repeat_faults what.TwoObjects [] (map object_declaration (take l.object-index l.objects)));
}
