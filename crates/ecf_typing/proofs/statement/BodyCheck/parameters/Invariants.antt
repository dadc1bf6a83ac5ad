use Rattle.std.proofs.Common.{◌≡◌, drop}
use Rattle.ecf_faults.specs.Declarations.{parameter_faults, parameter_locals}
use Rattle.ecf_faults.specs.Least.{least_with}
use Rattle.ecf_typing.specs.Passes.{locals_of}
use Rattle.ecf_typing.proofs.statement.BodyCheck.parameters.Given as goal

-- the parameters to come complete what was noted and declared
abbrev pub invariant-loop-param : goal.invariant-loop-param
invariant-loop-param l =
    (least_with l.self.faults.first (parameter_faults (locals_of l.self) (drop l.param-index l.params)) ≡ least_with l.fn.self.faults.first (parameter_faults (locals_of l.fn.self) l.params))
    × (parameter_locals (locals_of l.self) (drop l.param-index l.params) ≡ parameter_locals (locals_of l.fn.self) l.params)
