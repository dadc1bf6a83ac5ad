use Rattle.std.proofs.Common.{◌<◌, ◌/◌, length, arith}
use Rattle.ecf_graph.proofs.BitLaws.{member_within}
use Rattle.ecf_graph.proofs.row.Row.union_with.Goals as goal

pub absorb-requires : goal.absorb-requires
absorb-requires c k h =
    let within : k / 64 < length c.args.other.now = member_within c.args.other.now k h in
    omega (arith, within, c.in_ok-widen.ensures.words, c.word_count.ensures)
