use Rattle.std.proofs.Common.{List, None, false, map, sym, subst}
use Rattle.std.specs.Arc.{arc_value}
use Rattle.ecf_stream.specs.StreamState.{Reads, with_part}
use Rattle.ecf_stream.proofs.GivenLaws.{nothing_read}
use Rattle.ecf_stream.proofs.stream_reader.StreamReader.round.Goals as goal

pub returns-in-Ended-clause-reads : goal.returns-in-Ended-clause-reads
returns-in-Ended-clause-reads g c =
    subst (λ items. Reads c.args.typed.now c.args.self.now c.args.self.now (g.S.Source.left c.args.source.now) (g.S.Source.left c.args.source.now) (g.S.Source.faults c.args.source.now) (g.S.Source.faults c.args.source.now) (with_part (map arc_value items) c.args.self.now.txs None) false) (sym c.new.ensures.items)
    (nothing_read c.args.typed.now c.args.self.now (g.S.Source.left c.args.source.now) (g.S.Source.faults c.args.source.now))
