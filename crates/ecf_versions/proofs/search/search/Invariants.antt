-- The cells before the gap are below the one that is looked for, and those behind it are above.
use Rattle.std.proofs.Common.{◌-◌, ◌≤◌, length, map, take, drop}
use Rattle.ecf_versions.specs.Places.{CellsBelow, CellsAbove}
use Rattle.ecf_versions.proofs.search.search.Given as goal

abbrev pub invariant-loop-low : goal.invariant-loop-low
invariant-loop-low g l = (l.low ≤ l.high) × (l.high ≤ length l.items) × CellsBelow (take l.low (map g.K.Keyed.key l.items)) l.cell × CellsAbove (drop l.high (map g.K.Keyed.key l.items)) l.cell

abbrev pub decreases-loop-low : goal.decreases-loop-low
decreases-loop-low g l = l.high - l.low
