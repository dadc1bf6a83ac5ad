use Rattle.std.proofs.Common.{◌∙◌, arith}
use Rattle.std.proofs.lemmas.Result.{err_from_is_err_and}
use Rattle.std.proofs.lemmas.Grind.{common_steps}
use Rattle.ecf_edge.specs.Chains.{Gave-append}
use Rattle.ecf_edge.proofs.source.read_all.Goals as goal

pub loop-bytes-preserved : goal.loop-bytes-preserved
loop-bytes-preserved g c = record {
  gave = rw c.in_ok-extend_from_slice-in-Ok.ensures.items (Gave-append _ _ _ _ _ c.loop-bytes.invariant.gave c.in-Ok.ensures.gives);
  bound = grind (arith, common_steps);
  room = c.loop-bytes.invariant.room;
  no_fault = c.in-Ok.ensures.counted ∙ c.loop-bytes.invariant.no_fault;
}

pub returns-in_err-extend_from_slice-in-Ok-clause-lost :
    goal.returns-in_err-extend_from_slice-in-Ok-clause-lost
returns-in_err-extend_from_slice-in-Ok-clause-lost g c =
    let fault = err_from_is_err_and c.from_residual-in_err-extend_from_slice-in-Ok.result c.from_residual-in_err-extend_from_slice-in-Ok.ensures.1 in
    rw fault.1 (_, Gave-append _ _ _ _ _ c.loop-bytes.invariant.gave c.in-Ok.ensures.gives)
