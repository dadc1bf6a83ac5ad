use Rattle.std.proofs.Common.{vec_len, min, ◌≡◌, ◌+◌, ◌-◌, ◌≤◌}
use Rattle.ecf_edge.specs.Source.{Gave}
use Rattle.ecf_edge.specs.declared.source.TheConstants.{PIECE}
use Rattle.ecf_edge.proofs.source.read_all.Given as goal

abbrev pub invariant-loop-bytes : goal.invariant-loop-bytes
invariant-loop-bytes g l = record {
  gave : Gave (g.S.Source.left l.initial.source) l.bytes.items (g.S.Source.left l.source);
  bound : vec_len l.bytes ≤ l.most + 1;
  room : vec_len l.buffer ≡ min l.most (PIECE - 1) + 1;
  no_fault : g.S.Source.faults l.source ≡ g.S.Source.faults l.initial.source;
}

abbrev pub decreases-loop-bytes : goal.decreases-loop-bytes
decreases-loop-bytes g l = l.most + 1 - vec_len l.bytes
