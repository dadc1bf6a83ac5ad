-- One write more is a put into the root that the earlier ones left.
use Rattle.std.proofs.Common.{arith, ◌<◌, length}
use Rattle.ecf_versions.proofs.PutLaws.{one_more}
use Rattle.ecf_versions.proofs.versions.write_all.Goals as goal

pub loop-cell-preserved : goal.loop-cell-preserved
loop-cell-preserved c =
    let inside : c.loop-cell.cell-index < length c.args.writes.now = omega arith in
    one_more c.args.from c.loop-cell.root c.in_ok-after.after c.args.writes.now c.loop-cell.cell-index _ inside c.loop-cell.invariant c.in_ok-after.ensures
