use Rattle.std.proofs.Common.{◌≡◌, ◌+◌, ◌-◌, ◌<◌, length}
use Rattle.ecf_lang.specs.declared.limits.TheConstants.{MAX_SCHEDULE_BYTES}
use Rattle.ecf_schedule.specs.Reading.{bytes_taken}
use Rattle.ecf_schedule.proofs.PieceLaws.{HasRead}
use Rattle.ecf_schedule.proofs.read.read_through.Given as goal

-- the reader has taken all that came
abbrev pub invariant-reads : goal.invariant-reads
invariant-reads g l = record {
  has_read : HasRead (g.S.Source.left l.fn.source) (g.S.Source.left l.source) l.reader;
  no_fault : g.S.Source.faults l.source ≡ g.S.Source.faults l.fn.source;
  room : 0 < length l.buffer;
}

abbrev pub decreases-reads : goal.decreases-reads
decreases-reads g l = MAX_SCHEDULE_BYTES + 1 - bytes_taken l.reader
