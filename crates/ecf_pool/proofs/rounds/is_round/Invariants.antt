use Rattle.std.proofs.Common.{◌≡◌, ◌≤◌, true}
use Rattle.std.specs.Prelude.{take}
use Rattle.ecf_core.specs.Rounds.{IsRound}
use Rattle.ecf_pool.proofs.rounds.is_round.Given as goal

-- so far stands what workers and monitors may add
abbrev pub invariant-loop-place : goal.invariant-loop-place
invariant-loop-place l = (l.from ≤ l.place) × IsRound (l.gave_up ≡ true) (take l.from l.log) (take l.place l.log)
