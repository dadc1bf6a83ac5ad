use Rattle.std.proofs.Common.{◌≡◌, ℕ, [], get_or, vec_len}
use Rattle.ecf_judge.proofs.traces.empty_traces.Given as goal

abbrev pub invariant-loop-k : goal.invariant-loop-k
invariant-loop-k l = record {
  none : (o : ℕ) → get_or l.traces.items o [] ≡ [];
  long : vec_len l.traces ≡ l.k;
}
