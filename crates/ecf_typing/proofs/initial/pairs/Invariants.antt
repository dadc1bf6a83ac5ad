use Rattle.std.proofs.Common.{◌≡◌, map, take}
use Rattle.std.specs.List.{flat_map}
use Rattle.ecf_faults.specs.Declarations.{const_report, pair_faults}
use Rattle.ecf_faults.specs.Least.{least_with}
use Rattle.ecf_typing.specs.Views.{view_of}
use Rattle.ecf_typing.proofs.initial.pairs.Given as goal

-- the pairs so far
abbrev pub invariant-loop-first_key : goal.invariant-loop-first_key
invariant-loop-first_key l = record {
  form : l.made ≡ map (λ pair. ((const_report (view_of l.around).objects pair.0).form, (const_report (view_of l.around).objects pair.1).form)) (take l.first_key-index l.first);
  faults : l.faults.first ≡ least_with l.fn.faults.first (flat_map (pair_faults (view_of l.around) l.key l.value) (take l.first_key-index l.first));
}
