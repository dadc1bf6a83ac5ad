-- A round was read, and of its receipts nothing, a first part or all was written.
use Rattle.std.proofs.Common.{map}
use Rattle.std.proofs.lemmas.List.{length-map}
use Rattle.std.proofs.lemmas.Result.{err_from_is_err_and}
use Rattle.std.specs.Arc.{arc_value}
use Rattle.ecf_host.specs.declared.rounds.RoundEnd.{RoundEnd}
use Rattle.ecf_host.specs.declared.rounds.Run.{Run}
use Rattle.ecf_host.specs.World.{sink_state, source_state}
use Rattle.ecf_host.proofs.RoundLaws.{round_is_read, counted_first, round_unprinted, round_unwritten, round_written}
use Rattle.ecf_host.proofs.rounds.run_round.Goals as goal

pub returns-in_err-place : goal.returns-in_err-place
returns-in_err-place g c =
    let p = err_from_is_err_and c.from_residual-in_err-place.result c.from_residual-in_err-place.ensures.1 in
    let before = source_state g.S.Source c.args.input.now in
    let after = source_state g.S.Source c.round.new.source in
    let part = c.in_ok-part.part in
    let told = c.in_ok-part.ensures in
    let end : RoundEnd = record { ended = part.ended; stop = part.stop } in
    let new : Run = record { reader = c.round.new.self; book = c.place.new.book; numbers = c.args.run.now.numbers } in
    let latest = map arc_value part.txs.items in
    rw (p.1, p.2) (round_unprinted c.args.typed.now c.args.run.now new before after (sink_state g.K.Sink c.args.out.now) (sink_state g.K.Sink c.args.out.now) latest end
    (round_is_read c.args.typed.now c.args.run.now.reader c.round.new.self before after latest _ end part.off (told.no_off c.requires.ready.controls) (length-map part.txs.items arc_value)
    told.reads told.part told.controls told.counts told.few told.little told.within))

pub write_receipts-requires-clause-counted : goal.write_receipts-requires-clause-counted
write_receipts-requires-clause-counted g c =
    counted_first c.args.typed.now c.args.run.now.book.setup.txs (map arc_value c.in_ok-part.part.txs.items) c.place.new.book.setup.txs c.rows-from.result c.args.run.now.numbers.counts
    c.in_ok-place.ensures.txs c.rows-from.ensures.rows c.requires.ready.counted

pub returns-in_err-write_receipts : goal.returns-in_err-write_receipts
returns-in_err-write_receipts g c =
    let p = err_from_is_err_and c.from_residual-in_err-write_receipts.result c.from_residual-in_err-write_receipts.ensures.1 in
    let before = source_state g.S.Source c.args.input.now in
    let after = source_state g.S.Source c.round.new.source in
    let part = c.in_ok-part.part in
    let told = c.in_ok-part.ensures in
    let end : RoundEnd = record { ended = part.ended; stop = part.stop } in
    let new : Run = record { reader = c.round.new.self; book = c.place.new.book; numbers = c.write_receipts.new.numbers } in
    let latest = map arc_value part.txs.items in
    rw (p.1, p.2) (round_unwritten c.args.typed.now c.args.run.now new before after (sink_state g.K.Sink c.args.out.now) (sink_state g.K.Sink c.write_receipts.new.out) latest end
    (round_is_read c.args.typed.now c.args.run.now.reader c.round.new.self before after latest _ end part.off (told.no_off c.requires.ready.controls) (length-map part.txs.items arc_value)
    told.reads told.part told.controls told.counts told.few told.little told.within)
    c.rows-from.result c.in_ok-place.ensures.txs c.rows-from.ensures.rows c.in_err-write_receipts.field-0.0 c.in_err-write_receipts.ensures.put)

pub returns : goal.returns
returns g c =
    let before = source_state g.S.Source c.args.input.now in
    let after = source_state g.S.Source c.round.new.source in
    let part = c.in_ok-part.part in
    let told = c.in_ok-part.ensures in
    let end : RoundEnd = record { ended = part.ended; stop = part.stop } in
    let new : Run = record { reader = c.round.new.self; book = c.place.new.book; numbers = c.write_receipts.new.numbers } in
    let latest = map arc_value part.txs.items in
    round_written c.args.typed.now c.args.run.now new before after (sink_state g.K.Sink c.args.out.now) (sink_state g.K.Sink c.write_receipts.new.out) latest end
    (round_is_read c.args.typed.now c.args.run.now.reader c.round.new.self before after latest _ end part.off (told.no_off c.requires.ready.controls) (length-map part.txs.items arc_value)
    told.reads told.part told.controls told.counts told.few told.little told.within)
    c.rows-from.result c.in_ok-place.ensures.txs c.rows-from.ensures.rows c.in_ok-place.ensures.in_order c.in_ok-write_receipts.ensures.counts c.in_ok-write_receipts.ensures.put
