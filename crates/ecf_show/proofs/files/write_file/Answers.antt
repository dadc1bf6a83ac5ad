use Rattle.ecf_show.specs.Files.{object_marks}
use Rattle.ecf_show.proofs.TextLaws.{item_written, items_written}
use Rattle.ecf_show.proofs.files.write_file.Goals as goal

pub loop-object-preserved : goal.loop-object-preserved
loop-object-preserved c = item_written object_marks _ _ _ _ _ _ c.loop-object.invariant c.loop-object-test.true c.object-item.is c.in_ok-write_object.ensures

pub returns : goal.returns
returns c =
    let all = items_written object_marks _ _ _ _ c.loop-object.invariant c.loop-object-test.false in
    rw c.as_slice-object-items.ensures at all
