use Rattle.ecf_schedule.proofs.PieceLaws.{begun}
use Rattle.ecf_schedule.proofs.reader.EventReader.feed.Goals as goal

pub lines-init : goal.lines-init
lines-init c = begun c.args.self.now c.args.piece.now c.requires
