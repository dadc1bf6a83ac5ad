use Rattle.std.proofs.Common.{◌≡◌, vec_len}
use Rattle.ecf_graph.proofs.BitLaws.{Union}
use Rattle.ecf_graph.proofs.row.Row.absorb.Given as goal

abbrev pub invariant-loop-k : goal.invariant-loop-k
invariant-loop-k l = record {
  union : Union l.initial.self-inside.words.items l.other-inside.words.items l.self-inside.words.items l.k;
  long : vec_len l.self-inside.words ≡ vec_len l.initial.self-inside.words;
}
