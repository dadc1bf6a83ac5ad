use Rattle.std.proofs.Common.{◌≡◌, length, ◌-◌, ◌≤◌, take}
use Rattle.ecf_edge.specs.Sink.{Grew}
use Rattle.ecf_edge.proofs.sink.put_all.Given as goal

abbrev pub invariant-loop-written : goal.invariant-loop-written
invariant-loop-written g l = record {
  in_range : l.written ≤ length l.bytes;
  grew : Grew (g.K.Sink.held l.initial.sink) (take l.written l.bytes) (g.K.Sink.held l.sink);
  no_fault : g.K.Sink.faults l.sink ≡ g.K.Sink.faults l.initial.sink;
}

abbrev pub decreases-loop-written : goal.decreases-loop-written
decreases-loop-written g l = length l.bytes - l.written
