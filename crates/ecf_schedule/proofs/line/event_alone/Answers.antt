use Rattle.std.proofs.Common.{rules, ◌≡◌, sym, ap}
use Rattle.std.specs.Prelude.{codes}
use Rattle.ecf_events.specs.Line.{event_alone}
use Rattle.ecf_schedule.proofs.WordLaws.{seven_bytes}
use Rattle.ecf_schedule.proofs.line.event_alone.Goals as goal

pub returns-in-reclaim : goal.returns-in-reclaim
returns-in-reclaim c =
    let is : c.args.word.now ≡ codes "reclaim" =
    seven_bytes c.args.word.now 114 101 99 108 97 105 109 c.in-reclaim.len_at_least c.in-reclaim.len_below
    (search rules) (search rules) (search rules) (search rules) (search rules) (search rules) (search rules) in
    ap event_alone (sym is)
