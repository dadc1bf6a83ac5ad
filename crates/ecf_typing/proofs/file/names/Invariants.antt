use Rattle.std.proofs.Common.{◌≡◌, map, take}
use Rattle.ecf_typing.specs.Views.{contents_of}
use Rattle.ecf_typing.proofs.file.names.Given as goal

-- the names so far
abbrev pub invariant-loop-i : goal.invariant-loop-i
invariant-loop-i l = l.made ≡ map (λ one. one.0) (take l.i (contents_of l.table))
