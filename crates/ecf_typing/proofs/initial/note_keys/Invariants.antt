use Rattle.std.proofs.Common.{◌≡◌, map, drop, []}
use Rattle.ecf_faults.specs.Declarations.{const_report, key_faults}
use Rattle.ecf_faults.specs.Least.{least_with}
use Rattle.ecf_typing.specs.Views.{view_of}
use Rattle.ecf_typing.proofs.initial.note_keys.Given as goal

-- the keys to come complete what was noted
abbrev pub invariant-loop-key : goal.invariant-loop-key
invariant-loop-key l =
    least_with l.faults.first (key_faults l.ty l.earlier.keys (map (λ pair. const_report (view_of l.around).objects pair.0) (drop l.key-index l.first)))
    ≡ least_with l.fn.faults.first (key_faults l.ty [] (map (λ pair. const_report (view_of l.around).objects pair.0) l.first))
