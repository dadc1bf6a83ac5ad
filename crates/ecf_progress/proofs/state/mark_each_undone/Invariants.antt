use Rattle.std.proofs.Common.{◌≡◌, map, take, drop}
use Rattle.ecf_lang.specs.Part.{as_undone}
use Rattle.ecf_progress.proofs.state.mark_each_undone.Given as goal

abbrev pub invariant-loop-invocation : goal.invariant-loop-invocation
invariant-loop-invocation l =
    (take l.invocation-index l.invocations ≡ map as_undone (take l.invocation-index l.fn.invocations)) × (drop l.invocation-index l.invocations ≡ drop l.invocation-index l.fn.invocations)
