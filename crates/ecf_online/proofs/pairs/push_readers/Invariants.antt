use Rattle.std.proofs.Common.{◌≡◌, ◌≤◌, ◌+◌, ◌-◌, ◌++◌, true, vec_len, vec_capacity}
use Rattle.ecf_online.specs.Pairs.{pairs_to}
use Rattle.ecf_online.specs.Reads.{reads_back, stand_in}
use Rattle.ecf_online.proofs.pairs.push_readers.Given as goal

abbrev pub invariant-loop-k : goal.invariant-loop-k
invariant-loop-k l = record {
  stand : stand_in l.reads (l.count - l.k) l.at ≡ true;
  pairs : l.pairs.items ++ pairs_to l.j (reads_back l.reads (l.count - l.k) l.at) ≡ l.initial.pairs.items ++ pairs_to l.j (reads_back l.reads l.count l.last);
  long : vec_len l.pairs ≤ vec_len l.initial.pairs + l.k;
  room : vec_capacity l.pairs ≡ vec_capacity l.initial.pairs;
}
