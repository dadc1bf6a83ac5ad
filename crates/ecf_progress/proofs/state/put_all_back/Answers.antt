use Rattle.std.proofs.Common.{◌<◌, length, drop, ap, sym, ◌∙◌, arith}
use Rattle.ecf_progress.specs.Undo.{before}
use Rattle.ecf_progress.proofs.UndoLaws.{put_back-more}
use Rattle.ecf_progress.proofs.state.put_all_back.Goals as goal

pub loop-undo-preserved : goal.loop-undo-preserved
loop-undo-preserved c =
    let above : c.args.len < length c.loop-undo.undo.items = omega arith in
    let more = put_back-more c.args.len c.loop-undo.undo.items c.pop.new.self.items c.in-Some.overwritten c.loop-undo.written.entries above c.in-Some.ensures.items in
    (ap (before (drop c.args.len c.pop.new.self.items)) c.put_back.ensures ∙ sym more.0 ∙ c.loop-undo.invariant.0, sym more.1 ∙ c.loop-undo.invariant.1)
