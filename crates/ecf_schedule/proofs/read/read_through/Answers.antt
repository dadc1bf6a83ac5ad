use Rattle.std.proofs.Common.{take, refl, sym, ap, subst, ◌∙◌, arith}
use Rattle.ecf_edge.specs.Count.{counted_up}
use Rattle.ecf_schedule.specs.Reading.{HasEnded, IsReading, Takes}
use Rattle.ecf_schedule.specs.Said.{ReadsSchedule, said_by}
use Rattle.ecf_schedule.proofs.PieceLaws.{HasRead, none_read, more_read}
use Rattle.ecf_schedule.proofs.ReadLaws.{both_gave, none_gave, on_err, on_ok, read_to_end, read_to_fault, read_to_stop}
use Rattle.ecf_schedule.proofs.read.read_through.Goals as goal

pub reads-init : goal.reads-init
reads-init g c =
    let left = g.S.Source.left c.args.source.now in
    record {
      has_read = subst (HasRead left left) (sym c.requires.fresh) (none_read left (subst IsReading c.requires.fresh c.requires.reading));
      no_fault = refl;
      room = c.requires.room;
    }

pub returns-in-Ok-eq0-clause-reads : goal.returns-in-Ok-eq0-clause-reads
returns-in-Ok-eq0-clause-reads g c =
    let left = g.S.Source.left c.args.source.now in
    let left' = g.S.Source.left c.reads.source in
    let left'' = g.S.Source.left c.read.new.self in
    let faults = g.S.Source.faults c.args.source.now in
    let faults' = g.S.Source.faults c.read.new.self in
    let new = c.end.new.self in
    on_ok c.end.result (λ stop. HasEnded stop c.reads.reader new) (λ stop. ReadsSchedule left left'' faults faults' (said_by new.events stop))
    (λ stop ended. read_to_end left left' left'' faults faults' c.reads.reader new stop c.reads.invariant.has_read
    (none_gave left' left'' c.in-Ok-eq0.field-0 c.read.new.buf c.in-Ok-eq0.field-0-test c.in-Ok-eq0.ensures.gives) (c.in-Ok-eq0.ensures.end c.in-Ok-eq0.field-0-test (omega arith)) (c.in-Ok-eq0.ensures.counted ∙ c.reads.invariant.no_fault) ended)
    c.end.ensures

pub returns-in_err-stop-in-Ok-clause-lost : goal.returns-in_err-stop-in-Ok-clause-lost
returns-in_err-stop-in-Ok-clause-lost g c =
    on_err c.from_residual.result _
    (both_gave (g.S.Source.left c.args.source.now) (g.S.Source.left c.reads.source) (g.S.Source.left c.read.new.self) c.reads.reader (take c.in-Ok.count c.read.new.buf) c.reads.invariant.has_read c.in-Ok.ensures.gives)

pub returns-in-Some-clause-reads : goal.returns-in-Some-clause-reads
returns-in-Some-clause-reads g c =
    let piece = take c.in-Ok.count c.read.new.buf in
    read_to_stop (g.S.Source.left c.args.source.now) (g.S.Source.left c.reads.source) (g.S.Source.left c.read.new.self) (g.S.Source.faults c.args.source.now) (g.S.Source.faults c.read.new.self)
    c.reads.reader c.feed.new.self piece c.in-Some.stop c.reads.invariant.has_read c.in-Ok.ensures.gives (c.in-Ok.ensures.counted ∙ c.reads.invariant.no_fault)
    (subst (λ o. Takes o c.reads.reader c.feed.new.self piece) c.in-Some.is c.in_ok-stop-in-Ok.ensures)

pub reads-preserved : goal.reads-preserved
reads-preserved g c =
    let piece = take c.in-Ok.count c.read.new.buf in
    let bound = c.in-Ok.ensures.bound in
    record {
      has_read = more_read (g.S.Source.left c.args.source.now) (g.S.Source.left c.reads.source) (g.S.Source.left c.read.new.self) c.reads.reader c.feed.new.self piece c.reads.invariant.has_read c.in-Ok.ensures.gives
          (subst (λ o. Takes o c.reads.reader c.feed.new.self piece) c.in_default.is c.in_ok-stop-in-Ok.ensures);
      no_fault = c.in-Ok.ensures.counted ∙ c.reads.invariant.no_fault;
      room = omega arith;
    }

pub returns-in-Err-clause-reads : goal.returns-in-Err-clause-reads
returns-in-Err-clause-reads g c =
    read_to_fault (g.S.Source.left c.args.source.now) (g.S.Source.left c.reads.source) (g.S.Source.left c.read.new.self) (g.S.Source.faults c.args.source.now) (g.S.Source.faults c.read.new.self)
    c.reads.reader c.fail.new.self c.fail.result c.reads.invariant.has_read c.in-Err.ensures.fault_keeps (c.in-Err.ensures.counted ∙ ap counted_up c.reads.invariant.no_fault) c.fail.ensures
