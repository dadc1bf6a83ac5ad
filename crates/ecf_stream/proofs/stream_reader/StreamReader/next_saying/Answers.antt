use Rattle.ecf_stream.proofs.GivenLaws.{line_controls_ok, line_no_control_ok, last_controls_ok, last_no_control_ok, line_reads_ok, line_counts_ok, line_fine_ok, line_fewer_ok, line_no_fault_ok, last_reads_ok, last_counts_ok, last_fine_ok, last_fewer_ok, last_no_fault_ok}
use Rattle.ecf_stream.proofs.stream_reader.StreamReader.next_saying.Goals as goal

pub returns-in-Line-clause-reads : goal.returns-in-Line-clause-reads
returns-in-Line-clause-reads g c = line_reads_ok c.args.typed.now c.args.self.now c.next_line.new.self c.say.new.self (g.S.Source.left c.args.source.now) (g.S.Source.left c.next_line.new.source) (g.S.Source.faults c.args.source.now) (g.S.Source.faults c.next_line.new.source) c.requires.reading c.in-Line.ensures c.say.result c.say.ensures.said

pub returns-in-Line-clause-counts : goal.returns-in-Line-clause-counts
returns-in-Line-clause-counts g c = line_counts_ok c.args.typed.now c.args.self.now c.next_line.new.self c.say.new.self (g.S.Source.left c.args.source.now) (g.S.Source.left c.next_line.new.source) (g.S.Source.faults c.args.source.now) (g.S.Source.faults c.next_line.new.source) c.requires.reading c.in-Line.ensures c.say.result c.say.ensures.said

pub returns-in-Line-clause-fine : goal.returns-in-Line-clause-fine
returns-in-Line-clause-fine g c = line_fine_ok c.args.typed.now c.args.self.now c.next_line.new.self c.say.new.self (g.S.Source.left c.args.source.now) (g.S.Source.left c.next_line.new.source) (g.S.Source.faults c.args.source.now) (g.S.Source.faults c.next_line.new.source) c.requires.reading c.in-Line.ensures c.say.result c.say.ensures.said

pub returns-in-Line-clause-progress : goal.returns-in-Line-clause-progress
returns-in-Line-clause-progress g c = line_fewer_ok c.args.typed.now c.args.self.now c.next_line.new.self c.say.new.self (g.S.Source.left c.args.source.now) (g.S.Source.left c.next_line.new.source) (g.S.Source.faults c.args.source.now) (g.S.Source.faults c.next_line.new.source) c.requires.reading c.in-Line.ensures c.say.result c.say.ensures.said

pub returns-in-Last-clause-reads : goal.returns-in-Last-clause-reads
returns-in-Last-clause-reads g c = last_reads_ok c.args.typed.now c.args.self.now c.next_line.new.self c.say-in-Last.new.self (g.S.Source.left c.args.source.now) (g.S.Source.left c.next_line.new.source) (g.S.Source.faults c.args.source.now) (g.S.Source.faults c.next_line.new.source) c.requires.reading c.in-Last.ensures c.say-in-Last.result c.say-in-Last.ensures.said

pub returns-in-Last-clause-counts : goal.returns-in-Last-clause-counts
returns-in-Last-clause-counts g c = last_counts_ok c.args.typed.now c.args.self.now c.next_line.new.self c.say-in-Last.new.self (g.S.Source.left c.args.source.now) (g.S.Source.left c.next_line.new.source) (g.S.Source.faults c.args.source.now) (g.S.Source.faults c.next_line.new.source) c.requires.reading c.in-Last.ensures c.say-in-Last.result c.say-in-Last.ensures.said

pub returns-in-Last-clause-fine : goal.returns-in-Last-clause-fine
returns-in-Last-clause-fine g c = last_fine_ok c.args.typed.now c.args.self.now c.next_line.new.self c.say-in-Last.new.self (g.S.Source.left c.args.source.now) (g.S.Source.left c.next_line.new.source) (g.S.Source.faults c.args.source.now) (g.S.Source.faults c.next_line.new.source) c.requires.reading c.in-Last.ensures c.say-in-Last.result c.say-in-Last.ensures.said

pub returns-in-Last-clause-progress : goal.returns-in-Last-clause-progress
returns-in-Last-clause-progress g c = last_fewer_ok c.args.typed.now c.args.self.now c.next_line.new.self c.say-in-Last.new.self (g.S.Source.left c.args.source.now) (g.S.Source.left c.next_line.new.source) (g.S.Source.faults c.args.source.now) (g.S.Source.faults c.next_line.new.source) c.requires.reading c.in-Last.ensures c.say-in-Last.result c.say-in-Last.ensures.said

pub returns-in-Line-clause-no_fault : goal.returns-in-Line-clause-no_fault
returns-in-Line-clause-no_fault g c = line_no_fault_ok c.args.typed.now c.args.self.now c.next_line.new.self c.say.new.self (g.S.Source.left c.args.source.now) (g.S.Source.left c.next_line.new.source) (g.S.Source.faults c.args.source.now) (g.S.Source.faults c.next_line.new.source) c.requires.reading c.in-Line.ensures c.say.result c.say.ensures.said

pub returns-in-Last-clause-no_fault : goal.returns-in-Last-clause-no_fault
returns-in-Last-clause-no_fault g c = last_no_fault_ok c.args.typed.now c.args.self.now c.next_line.new.self c.say-in-Last.new.self (g.S.Source.left c.args.source.now) (g.S.Source.left c.next_line.new.source) (g.S.Source.faults c.args.source.now) (g.S.Source.faults c.next_line.new.source) c.requires.reading c.in-Last.ensures c.say-in-Last.result c.say-in-Last.ensures.said

pub returns-in-Line-clause-controls : goal.returns-in-Line-clause-controls
returns-in-Line-clause-controls g c = line_controls_ok c.args.typed.now c.args.self.now c.next_line.new.self c.say.new.self (g.S.Source.left c.args.source.now) (g.S.Source.left c.next_line.new.source) (g.S.Source.faults c.args.source.now) (g.S.Source.faults c.next_line.new.source) c.requires.reading c.in-Line.ensures c.say.result c.say.ensures.said

pub returns-in-Line-clause-no_control : goal.returns-in-Line-clause-no_control
returns-in-Line-clause-no_control g c = line_no_control_ok c.args.typed.now c.args.self.now c.next_line.new.self c.say.new.self (g.S.Source.left c.args.source.now) (g.S.Source.left c.next_line.new.source) (g.S.Source.faults c.args.source.now) (g.S.Source.faults c.next_line.new.source) c.requires.reading c.in-Line.ensures c.say.result c.say.ensures.said

pub returns-in-Last-clause-controls : goal.returns-in-Last-clause-controls
returns-in-Last-clause-controls g c = last_controls_ok c.args.typed.now c.args.self.now c.next_line.new.self c.say-in-Last.new.self (g.S.Source.left c.args.source.now) (g.S.Source.left c.next_line.new.source) (g.S.Source.faults c.args.source.now) (g.S.Source.faults c.next_line.new.source) c.requires.reading c.in-Last.ensures c.say-in-Last.result c.say-in-Last.ensures.said

pub returns-in-Last-clause-no_control : goal.returns-in-Last-clause-no_control
returns-in-Last-clause-no_control g c = last_no_control_ok c.args.typed.now c.args.self.now c.next_line.new.self c.say-in-Last.new.self (g.S.Source.left c.args.source.now) (g.S.Source.left c.next_line.new.source) (g.S.Source.faults c.args.source.now) (g.S.Source.faults c.next_line.new.source) c.requires.reading c.in-Last.ensures c.say-in-Last.result c.say-in-Last.ensures.said
