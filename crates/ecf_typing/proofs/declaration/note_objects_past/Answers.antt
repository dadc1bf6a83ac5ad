use Rattle.ecf_lang.specs.declared.limits.TheConstants.{MAX_OBJECTS}
use Rattle.ecf_faults.specs.declared.What.TheVariants as what
use Rattle.ecf_faults.specs.Declarations.{object_declaration}
use Rattle.ecf_typing.proofs.DeclarationLaws.{room_next, excess_next}
use Rattle.ecf_typing.proofs.declaration.note_objects_past.Goals as goal

pub loop-object-preserved : goal.loop-object-preserved
loop-object-preserved c =
    let objects = c.args.objects.now in
    let i = c.loop-object.object-index in
    record {
      room = room_next object_declaration objects i c.object-item.result MAX_OBJECTS _ _ c.loop-object.invariant.room c.loop-object-test.true c.object-item.is c.note_place-room.ensures.room;
      faults = excess_next what.TooManyObjects object_declaration objects i c.object-item.result MAX_OBJECTS _ c.args.faults.now.first _ _ c.loop-object.invariant.room c.loop-object.invariant.faults c.loop-object-test.true c.object-item.is c.note_place-room.ensures.faults;
    }
