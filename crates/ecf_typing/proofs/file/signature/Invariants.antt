use Rattle.std.proofs.Common.{◌≡◌, map, take}
use Rattle.ecf_typing.proofs.file.signature.Given as goal

-- the types so far
abbrev pub invariant-loop-param : goal.invariant-loop-param
invariant-loop-param l = l.params ≡ map (λ param. param.ty) (take l.param-index l.method.params.now)
