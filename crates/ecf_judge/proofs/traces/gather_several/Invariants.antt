use Rattle.std.proofs.Common.{◌≡◌, take, vec_len}
use Rattle.ecf_judge.specs.Membership.{TracesAre}
use Rattle.ecf_judge.proofs.traces.gather_several.Given as goal

abbrev pub invariant-loop-step : goal.invariant-loop-step
invariant-loop-step l = record {
  long : vec_len l.traces ≡ l.members.above;
  are : TracesAre (take l.step-index l.steps) l.members.table l.traces.items;
}
