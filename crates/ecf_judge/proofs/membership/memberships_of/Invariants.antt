use Rattle.std.proofs.Common.{◌≡◌, ◌≤◌, ℕ, length, get_or, take}
use Rattle.ecf_judge.specs.Membership.{membership}
use Rattle.ecf_judge.specs.declared.membership.Membership.TheVariants.{Nobody}
use Rattle.ecf_lang.specs.declared.limits.TheConstants.{MAX_OBJECTS}
use Rattle.ecf_verdicts.specs.Traces.{trace}
use Rattle.ecf_judge.proofs.TraceLaws.{SeveralBelow}
use Rattle.ecf_judge.proofs.membership.memberships_of.Given as goal

abbrev pub invariant-loop-step : goal.invariant-loop-step
invariant-loop-step l = record {
  long : length l.table ≡ MAX_OBJECTS;
  tells : (o : ℕ) → get_or l.table o Nobody ≡ membership (trace (take l.step-index l.steps) o);
  several : SeveralBelow l.table l.above;
  few : l.above ≤ MAX_OBJECTS;
}
