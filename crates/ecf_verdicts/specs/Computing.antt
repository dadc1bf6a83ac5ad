-- All that a verdict computes with, to be unfolded by one name.
use Rattle.std.specs.Prelude.{ℕ}
use Rattle.ecf_verdicts.specs.Before.{before}
use Rattle.ecf_verdicts.specs.Conflicts.{same_cell, conflicts}
use Rattle.ecf_verdicts.specs.Cycles.{least_before, is_among, up_to, from, until, minimum, rotation_to_minimum, walk, cycle_in, cycle, is_placed, shortest_part, at}
use Rattle.ecf_verdicts.specs.Placing.{waits, next_placed, without, placing_from, placing}
use Rattle.ecf_verdicts.specs.Swaps.{may_swap, swap_at, swaps}
use Rattle.ecf_verdicts.specs.Traces.{trace, with_number, members, objects}
use Rattle.ecf_verdicts.specs.Verdicts.{verdict, orders, vetoed_object}

-- a proof that computes a verdict has the line `unfolding computing`
unfoldable pub computing : ℕ
unfolding before same_cell conflicts least_before is_among up_to from until minimum rotation_to_minimum walk cycle_in cycle is_placed shortest_part at waits next_placed without placing_from placing may_swap swap_at swaps trace with_number members objects orders vetoed_object verdict
computing = 0
