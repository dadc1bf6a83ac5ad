use Rattle.ecf_typing.proofs.FileLaws.{file_noted, file_form}
use Rattle.ecf_typing.proofs.file.typed.Goals as goal

pub objects-requires-clause-objects : goal.objects-requires-clause-objects
objects-requires-clause-objects c = rw c.as_slice.ensures at c.in_ok-table.ensures.table

pub objects-requires-clause-signatures : goal.objects-requires-clause-signatures
objects-requires-clause-signatures c = c.in_ok-signatures.ensures

pub returns-clause-form : goal.returns-clause-form
returns-clause-form c = file_form c.args.tree.now _ _ _ _ c.in_ok-signatures.ensures c.in_ok-made.ensures.form c.in_ok-names.ensures c.in_ok-types.ensures

pub returns-clause-faults : goal.returns-clause-faults
returns-clause-faults c =
    let first = rw c.as_slice.ensures at c.in_ok-table.ensures.faults in
    let second = rw c.as_slice-2.ensures at c.note_objects_past.ensures in
    file_noted c.args.tree.now _ _ _ _ first second c.in_ok-made.ensures.faults
