use Rattle.std.proofs.Common.{◌≡◌, ◌==◌, drop}
use Rattle.std.specs.List.{list_all}
use Rattle.ecf_lang.specs.declared.run.Step.{Step}
use Rattle.ecf_judge.proofs.membership.all_of.Given as goal

abbrev pub invariant-loop-step : goal.invariant-loop-step
invariant-loop-step l = list_all (λ (s : Step). s.inv == l.inv) (drop l.step-index l.steps) ≡ list_all (λ (s : Step). s.inv == l.inv) l.steps
