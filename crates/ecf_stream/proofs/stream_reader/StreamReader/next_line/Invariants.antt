use Rattle.std.proofs.Common.{◌≡◌, ◌+◌, ◌-◌}
use Rattle.ecf_lang.specs.declared.limits.TheConstants.{MAX_STREAM_BYTES}
use Rattle.ecf_stream.proofs.ReadLaws.{HasMore, bytes_taken}
use Rattle.ecf_stream.proofs.stream_reader.StreamReader.next_line.Given as goal

-- no line is whole yet
abbrev pub invariant-pieces : goal.invariant-pieces
invariant-pieces g l = record {
  more : HasMore l.fn.self l.self (g.S.Source.left l.fn.source) (g.S.Source.left l.source);
  no_fault : g.S.Source.faults l.source ≡ g.S.Source.faults l.fn.source;
}

abbrev pub decreases-pieces : goal.decreases-pieces
decreases-pieces g l = MAX_STREAM_BYTES + 1 - bytes_taken l.self
