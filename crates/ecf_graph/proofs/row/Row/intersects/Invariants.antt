use Rattle.std.proofs.Common.{◌≡◌, ℕ, ◌<◌, get_or, bit_and}
use Rattle.ecf_graph.proofs.row.Row.intersects.Given as goal

abbrev pub invariant-loop-k : goal.invariant-loop-k
invariant-loop-k l = (m : ℕ) → m < l.k → bit_and (get_or l.self-inside.words.items m 0) (get_or l.other-inside.words.items m 0) ≡ 0
