use Rattle.std.proofs.Common.{◌≡◌, map, take}
use Rattle.ecf_typing.specs.Views.{contents_of, signature_view}
use Rattle.ecf_typing.proofs.file.types.Given as goal

-- the signatures so far
abbrev pub invariant-loop-i : goal.invariant-loop-i
invariant-loop-i l = l.made ≡ map (λ one. (signature_view one.1).1) (take l.i (contents_of l.table))
