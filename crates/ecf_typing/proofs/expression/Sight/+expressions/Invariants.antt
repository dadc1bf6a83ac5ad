use Rattle.std.proofs.Common.{◌≡◌, map, take, drop, Some}
use Rattle.std.specs.List.{flat_map}
use Rattle.ecf_lang.specs.declared.tree.Ty.TheVariants.{Num, Flag}
use Rattle.ecf_faults.specs.Expressions.{faults_for, argument_faults, first_place}
use Rattle.ecf_faults.specs.Least.{least_with}
use Rattle.ecf_typing.specs.Summaries.{report}
use Rattle.ecf_typing.proofs.expression.Sight.+expressions.Given as goal

-- the parts so far
abbrev pub invariant-further-loop-op : goal.invariant-further-loop-op
invariant-further-loop-op l = record {
  form : l.made ≡ map (λ part. (part.0, (report l.self part.1).form)) (take l.op-index l.parts);
  faults : l.faults.first ≡ least_with l.fn.faults.first (flat_map (λ part. faults_for (Some Num) (report l.self part.1)) (take l.op-index l.parts));
}

-- the arguments so far, and what is left of the faults
abbrev pub invariant-args-loop-i : goal.invariant-args-loop-i
invariant-args-loop-i l = record {
  form : l.made ≡ map (λ arg. (report l.self arg).form) (take l.i l.args);
  faults : least_with l.faults.first (argument_faults (drop l.i (map (λ param. param.ty) l.params)) (map (report l.self) (drop l.i l.args))) ≡ least_with l.fn.faults.first (argument_faults (map (λ param. param.ty) l.params) (map (report l.self) l.args));
}

-- the parts so far
abbrev pub invariant-flags-loop-part : goal.invariant-flags-loop-part
invariant-flags-loop-part l = record {
  place : l.place ≡ first_place (map (report l.self) (take l.part-index l.parts));
  form : l.made ≡ map (λ part. (report l.self part).form) (take l.part-index l.parts);
  faults : l.faults.first ≡ least_with l.fn.faults.first (flat_map (λ part. faults_for (Some Flag) (report l.self part)) (take l.part-index l.parts));
}
