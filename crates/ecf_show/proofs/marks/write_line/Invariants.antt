use Rattle.std.proofs.Common.{◌≡◌, [], ◌∷◌, ◌++◌}
use Rattle.ecf_show.specs.Marks.{indent}
use Rattle.ecf_show.proofs.marks.write_line.Given as goal

abbrev pub invariant-loop : goal.invariant-loop
invariant-loop l = l.text.items ≡ (l.fn.text.items ++ 10 ∷ []) ++ indent l.counter
