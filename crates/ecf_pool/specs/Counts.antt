-- What a crew of threads has: its gate and its count.
use Rattle.std.specs.Prelude.{ℕ}
use Rattle.ecf_pool.specs.declared.crews.Threads.{Threads}

module _ {G : Type 0} where
  abbrev pub gate_of : Threads G → G
  gate_of t = t.gate

  abbrev pub count_of : Threads G → ℕ
  count_of t = t.count
