use Rattle.std.proofs.Common.{map, []}
use Rattle.std.specs.List.{fold}
use Rattle.ecf_faults.specs.declared.What.TheVariants as what
use Rattle.ecf_faults.specs.Tables.{with_next}
use Rattle.ecf_faults.specs.Declarations.{repeat_faults, object_declaration}
use Rattle.ecf_faults.specs.Least.{least_with}
use Rattle.ecf_typing.proofs.LoopLaws.{at_end}
use Rattle.ecf_typing.proofs.DeclarationLaws.{table_next, repeats_next}
use Rattle.ecf_typing.proofs.declaration.note_objects.Goals as goal

pub loop-object-preserved : goal.loop-object-preserved
loop-object-preserved c =
    let objects = c.args.objects.now in
    let i = c.loop-object.object-index in
    record {
      table = table_next object_declaration objects i c.object-item.result [] _ _ c.loop-object.invariant.table c.loop-object-test.true c.object-item.is c.in_ok-note_declaration.ensures.table;
      faults = repeats_next what.TwoObjects object_declaration objects i c.object-item.result [] _ c.args.faults.now.first _ _ c.loop-object.invariant.table c.loop-object.invariant.faults c.loop-object-test.true c.object-item.is c.in_ok-note_declaration.ensures.faults;
    }

pub returns-clause-table : goal.returns-clause-table
returns-clause-table c = at_end (λ objects. fold with_next [] (map object_declaration objects)) c.args.objects.now c.loop-object.object-index _ c.loop-object.invariant.table c.loop-object-test.false

pub returns-clause-faults : goal.returns-clause-faults
returns-clause-faults c =
    at_end (λ objects. least_with c.args.faults.now.first (repeat_faults what.TwoObjects [] (map object_declaration objects))) c.args.objects.now c.loop-object.object-index _ c.loop-object.invariant.faults c.loop-object-test.false
