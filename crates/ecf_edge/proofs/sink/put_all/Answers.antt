use Rattle.std.proofs.Common.{◌∙◌, arith}
use Rattle.std.proofs.lemmas.List.{take_rest}
use Rattle.ecf_edge.specs.Chains.{GrewByPrefix-take, Grew-append}
use Rattle.ecf_edge.proofs.Further.{take-further}
use Rattle.ecf_edge.proofs.sink.put_all.Goals as goal

pub returns-in_err-written-clause-prefix : goal.returns-in_err-written-clause-prefix
returns-in_err-written-clause-prefix g c =
    GrewByPrefix-take _ _ c.loop-written.written _ (c.in_err-written.ensures.fault_keeps ∙ c.loop-written.invariant.grew)

pub returns-clause-prefix : goal.returns-clause-prefix
returns-clause-prefix g c = GrewByPrefix-take _ _ c.loop-written.written _ c.loop-written.invariant.grew

pub loop-written-preserved : goal.loop-written-preserved
loop-written-preserved g c = record {
  in_range = grind (arith, take_rest);
  grew = rw (← take-further) (Grew-append _ _ _ _ _ c.loop-written.invariant.grew c.in_ok-written.ensures.appends);
  no_fault = c.in_ok-written.ensures.counted ∙ c.loop-written.invariant.no_fault;
}
