use Rattle.std.proofs.Common.{◌≡◌, ◌++◌, drop, take}
use Rattle.ecf_verdicts.specs.Cycles.{from, until}
use Rattle.ecf_judge.proofs.cycle.place_of.Given as goal

abbrev pub invariant-loop-place : goal.invariant-loop-place
invariant-loop-place l = record {
  from_is : from l.i (drop l.place l.list) ≡ from l.i l.list;
  until_is : take l.place l.list ++ until l.i (drop l.place l.list) ≡ until l.i l.list;
}
