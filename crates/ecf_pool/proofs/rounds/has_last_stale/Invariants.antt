use Rattle.std.proofs.Common.{◌≤◌, length}
use Rattle.ecf_pool.proofs.rounds.has_last_stale.Given as goal

-- the place is one of the entries', or behind them
abbrev pub invariant-loop-place : goal.invariant-loop-place
invariant-loop-place l = l.place ≤ length l.entries

abbrev pub decreases-loop-place : goal.decreases-loop-place
decreases-loop-place l = l.place
