use Rattle.std.proofs.Common.{◌≡◌, map, take, drop}
use Rattle.ecf_lang.specs.Alone.{of_invocation}
use Rattle.ecf_progress.proofs.state.renumber.Given as goal

abbrev pub invariant-loop-step : goal.invariant-loop-step
invariant-loop-step l =
    (take l.step-index l.steps ≡ map (of_invocation l.inv) (take l.step-index l.fn.steps)) × (drop l.step-index l.steps ≡ drop l.step-index l.fn.steps)
