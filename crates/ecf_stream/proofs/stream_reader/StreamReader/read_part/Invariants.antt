use Rattle.std.proofs.Common.{◌≡◌, ◌+◌, ◌≤◌, false, None, length, map}
use Rattle.std.specs.Prelude.{All}
use Rattle.std.specs.Arc.{arc_value}
use Rattle.ecf_lang.specs.Fits.{Fits}
use Rattle.ecf_stream.specs.StreamState.{Reads, with_part, lines_to_come, IsFine}
use Rattle.ecf_stream.proofs.GivenLaws.{is_full}
use Rattle.ecf_stream.proofs.stream_reader.StreamReader.read_part.Given as goal

-- the transactions so far, and the control line behind them, are the first that were to be given
abbrev pub invariant-lines : goal.invariant-lines
invariant-lines g l = record {
  reads : Reads l.typed l.fn.self l.self (g.S.Source.left l.fn.source) (g.S.Source.left l.source) (g.S.Source.faults l.fn.source) (g.S.Source.faults l.source) (with_part (map arc_value l.txs.items) l.fn.self.txs l.off) (is_full l.most (length l.txs.items) l.off);
  counts : l.self.txs ≡ l.fn.self.txs + length l.txs.items;
  fits : All (Fits l.typed) (map arc_value l.txs.items);
  controls : l.self.controls ≡ l.fn.self.controls;
  no_off : l.fn.self.controls ≡ false → l.off ≡ None;
  few : length l.txs.items ≤ l.most;
  fine : IsFine l.self.stage;
}

abbrev pub decreases-lines : goal.decreases-lines
decreases-lines g l = lines_to_come l.self
