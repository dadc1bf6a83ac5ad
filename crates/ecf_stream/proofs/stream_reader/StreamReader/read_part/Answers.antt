use Rattle.std.proofs.Common.{◌≡◌, ◌<◌, ◌+◌, ◌∷◌, [], ◌++◌, List, true, false, None, length, map, refl, sym, ap, subst, ◌∙◌, arith, length-append}
use Rattle.std.specs.Prelude.{All, not}
use Rattle.std.specs.Arc.{arc_value}
use Rattle.std.proofs.lemmas.List.Elements.{All-nil, All-push}
use Rattle.ecf_lang.specs.Fits.{Fits}
use Rattle.ecf_lang.specs.declared.tx.Tx.{Tx}
use Rattle.ecf_lines.specs.Stream.{txs_with}
use Rattle.ecf_stream.specs.StreamState.{IsFine, Reads, with_part}
use Rattle.ecf_stream.proofs.GivenLaws.{reading_is, none_is, on_err, not_reading, less_settled, is_full, not_full, full_of_txs, full_by_off, not_true, nothing_read, nothing_step, asks_step, off_step, no_fault_yet, no_fault_asked, both_gave, one_fits, takes_none}
use Rattle.ecf_stream.proofs.NameLaws.{length_mapped, map_push}
use Rattle.ecf_stream.proofs.stream_reader.StreamReader.read_part.Goals.{then-lines-test+then-is_none+else-is_reading, then-lines-test+else-is_none, else-lines-test}
use Rattle.ecf_stream.proofs.stream_reader.StreamReader.read_part.Goals as goal

pub lines-preserved-in-Nothing : goal.lines-preserved-in-Nothing
lines-preserved-in-Nothing g c =
    let reading = reading_is c.lines.self.stage (sym c.if-is_reading.ensures.answer) in
    let none = none_is c.lines.off c.if-is_none.ensures in
    let test : c.len.result < c.args.most = c.lines-test.true in
    let few : length c.lines.txs.items < c.args.most = omega (arith, test, c.len.ensures) in
    record {
      reads = less_settled c.args.typed.now c.args.self.now c.next_saying.new.self _ _ _ _ _ false _ (λ is. sym (not_full c.args.most (length c.lines.txs.items) c.lines.off few none) ∙ is) (nothing_step c.args.typed.now c.args.self.now c.lines.self c.next_saying.new.self (g.S.Source.left c.args.source.now) (g.S.Source.left c.lines.source) (g.S.Source.left c.next_saying.new.source) (g.S.Source.faults c.args.source.now) (g.S.Source.faults c.lines.source) (g.S.Source.faults c.next_saying.new.source) (map arc_value c.lines.txs.items) c.args.self.now.txs c.lines.off (is_full c.args.most (length c.lines.txs.items) c.lines.off) c.requires.reading c.lines.invariant.reads reading c.in_ok-next_saying.field-0 c.in-Nothing.is c.in_ok-next_saying.ensures.reads);
      counts = c.in_ok-next_saying.ensures.counts ∙ ap (λ saying. txs_with saying c.lines.self.txs) c.in-Nothing.is ∙ c.lines.invariant.counts;
      fits = c.lines.invariant.fits;
      controls = c.in_ok-next_saying.ensures.controls ∙ c.lines.invariant.controls;
      no_off = c.lines.invariant.no_off;
      few = c.lines.invariant.few;
      fine = c.in_ok-next_saying.ensures.fine;
    }

pub lines-preserved-in_ok-push-in-Asks : goal.lines-preserved-in_ok-push-in-Asks
lines-preserved-in_ok-push-in-Asks g c =
    let reading = reading_is c.lines.self.stage (sym c.if-is_reading.ensures.answer) in
    let none = none_is c.lines.off c.if-is_none.ensures in
    let old = map arc_value c.lines.txs.items in
    let arc = c.in_ok-new-in-Asks.field-0 in
    let mapped : map arc_value c.push.new.self.items ≡ old ++ c.in-Asks.tx ∷ [] =
    ap (map arc_value) c.in_ok-push-in-Asks.ensures.items
    ∙ map_push arc_value c.lines.txs.items arc
    ∙ ap (λ tx. old ++ tx ∷ []) c.in_ok-new-in-Asks.ensures.ok in
    let longer : length c.push.new.self.items ≡ length c.lines.txs.items + 1 = ap length c.in_ok-push-in-Asks.ensures.items ∙ length-append c.lines.txs.items (arc ∷ []) in
    let count : c.next_saying.new.self.txs ≡ c.lines.self.txs + 1 = c.in_ok-next_saying.ensures.counts ∙ ap (λ saying. txs_with saying c.lines.self.txs) c.in-Asks.is in
    let so_far : c.lines.self.txs ≡ c.args.self.now.txs + length c.lines.txs.items = c.lines.invariant.counts in
    let test : c.len.result < c.args.most = c.lines-test.true in
    let same : c.len.result ≡ length c.lines.txs.items = omega (arith, c.len.ensures) in
    record {
      reads = subst (λ (ts : List Tx). Reads c.args.typed.now c.args.self.now c.next_saying.new.self (g.S.Source.left c.args.source.now) (g.S.Source.left c.next_saying.new.source) (g.S.Source.faults c.args.source.now) (g.S.Source.faults c.next_saying.new.source) (with_part ts c.args.self.now.txs c.lines.off) (is_full c.args.most (length c.push.new.self.items) c.lines.off)) (sym mapped)
          (less_settled c.args.typed.now c.args.self.now c.next_saying.new.self _ _ _ _ _ true _ (λ is. refl) (asks_step c.args.typed.now c.args.self.now c.lines.self c.next_saying.new.self (g.S.Source.left c.args.source.now) (g.S.Source.left c.lines.source) (g.S.Source.left c.next_saying.new.source) (g.S.Source.faults c.args.source.now) (g.S.Source.faults c.lines.source) (g.S.Source.faults c.next_saying.new.source) old c.args.self.now.txs c.lines.off (is_full c.args.most (length c.lines.txs.items) c.lines.off) c.requires.reading c.lines.invariant.reads reading none c.in_ok-next_saying.field-0 c.in-Asks.tx c.in-Asks.is c.in_ok-next_saying.ensures.reads));
      counts = omega (arith, longer, count, so_far);
      fits = subst (λ (ts : List Tx). All (Fits c.args.typed.now) ts) (sym mapped) (All-push (Fits c.args.typed.now) old c.in-Asks.tx c.lines.invariant.fits (one_fits c.args.typed.now c.in_ok-next_saying.field-0 c.in-Asks.tx c.in-Asks.is c.in_ok-next_saying.ensures.fits));
      controls = c.in_ok-next_saying.ensures.controls ∙ c.lines.invariant.controls;
      no_off = c.lines.invariant.no_off;
      few = omega (arith, longer, test, same);
      fine = c.in_ok-next_saying.ensures.fine;
    }

pub lines-preserved : goal.lines-preserved
lines-preserved g c =
    let reading = reading_is c.lines.self.stage (sym c.if-is_reading.ensures.answer) in
    let none = none_is c.lines.off c.if-is_none.ensures in
    let so_far : c.lines.self.txs ≡ c.args.self.now.txs + length (map arc_value c.lines.txs.items) = c.lines.invariant.counts ∙ ap (λ n. c.args.self.now.txs + n) (sym (length_mapped arc_value c.lines.txs.items)) in
    record {
      reads = less_settled c.args.typed.now c.args.self.now c.next_saying.new.self _ _ _ _ _ true _ (λ is. refl) (off_step c.args.typed.now c.args.self.now c.lines.self c.next_saying.new.self (g.S.Source.left c.args.source.now) (g.S.Source.left c.lines.source) (g.S.Source.left c.next_saying.new.source) (g.S.Source.faults c.args.source.now) (g.S.Source.faults c.lines.source) (g.S.Source.faults c.next_saying.new.source) (map arc_value c.lines.txs.items) c.args.self.now.txs c.lines.off (is_full c.args.most (length c.lines.txs.items) c.lines.off) c.requires.reading c.lines.invariant.reads reading none so_far c.in_ok-next_saying.field-0 c.in-TakesOut.watch c.in-TakesOut.is c.in_ok-next_saying.ensures.reads);
      counts = c.in_ok-next_saying.ensures.counts ∙ ap (λ saying. txs_with saying c.lines.self.txs) c.in-TakesOut.is ∙ c.lines.invariant.counts;
      fits = c.lines.invariant.fits;
      controls = c.in_ok-next_saying.ensures.controls ∙ c.lines.invariant.controls;
      no_off = λ none. takes_none c.in_ok-next_saying.field-0 c.in-TakesOut.watch (c.in_ok-next_saying.ensures.no_control (c.lines.invariant.controls ∙ none)) c.in-TakesOut.is;
      few = c.lines.invariant.few;
      fine = c.in_ok-next_saying.ensures.fine;
    }

pub returns-in_err-next_saying-clause-lost_bytes : goal.returns-in_err-next_saying-clause-lost_bytes
returns-in_err-next_saying-clause-lost_bytes g c =
    on_err c.from_residual-in_err-next_saying.result _ (both_gave (g.S.Source.left c.args.source.now) (g.S.Source.left c.lines.source) (g.S.Source.left c.next_saying.new.source) (c.lines.invariant.reads.piece, c.lines.invariant.reads.gave) c.in_err-next_saying.ensures.lost_bytes)

pub returns-in_err-new-in-Asks-clause-lost_bytes : goal.returns-in_err-new-in-Asks-clause-lost_bytes
returns-in_err-new-in-Asks-clause-lost_bytes g c =
    on_err c.from_residual-in_err-new-in-Asks.result _ (both_gave (g.S.Source.left c.args.source.now) (g.S.Source.left c.lines.source) (g.S.Source.left c.next_saying.new.source) (c.lines.invariant.reads.piece, c.lines.invariant.reads.gave) (c.in_ok-next_saying.ensures.reads.piece, c.in_ok-next_saying.ensures.reads.gave))

pub returns-in_err-push-in-Asks-clause-lost_bytes : goal.returns-in_err-push-in-Asks-clause-lost_bytes
returns-in_err-push-in-Asks-clause-lost_bytes g c =
    on_err c.from_residual-in_err-push-in-Asks.result _ (both_gave (g.S.Source.left c.args.source.now) (g.S.Source.left c.lines.source) (g.S.Source.left c.next_saying.new.source) (c.lines.invariant.reads.piece, c.lines.invariant.reads.gave) (c.in_ok-next_saying.ensures.reads.piece, c.in_ok-next_saying.ensures.reads.gave))

pub returns-in_err-new-in-Asks-clause-lost_no_fault : goal.returns-in_err-new-in-Asks-clause-lost_no_fault
returns-in_err-new-in-Asks-clause-lost_no_fault g c =
    let reading = reading_is c.lines.self.stage (sym c.if-is_reading.ensures.answer) in
    on_err c.from_residual-in_err-new-in-Asks.result _
    (no_fault_asked c.in_ok-next_saying.field-0 c.in-Asks.tx (g.S.Source.faults c.args.source.now) (g.S.Source.faults c.lines.source) (g.S.Source.faults c.next_saying.new.source) c.in-Asks.is c.in_ok-next_saying.ensures.no_fault (no_fault_yet c.args.typed.now c.args.self.now c.lines.self _ _ _ _ _ _ c.requires.reading c.lines.invariant.reads reading))

pub returns-in_err-push-in-Asks-clause-lost_no_fault : goal.returns-in_err-push-in-Asks-clause-lost_no_fault
returns-in_err-push-in-Asks-clause-lost_no_fault g c =
    let reading = reading_is c.lines.self.stage (sym c.if-is_reading.ensures.answer) in
    on_err c.from_residual-in_err-push-in-Asks.result _
    (no_fault_asked c.in_ok-next_saying.field-0 c.in-Asks.tx (g.S.Source.faults c.args.source.now) (g.S.Source.faults c.lines.source) (g.S.Source.faults c.next_saying.new.source) c.in-Asks.is c.in_ok-next_saying.ensures.no_fault (no_fault_yet c.args.typed.now c.args.self.now c.lines.self _ _ _ _ _ _ c.requires.reading c.lines.invariant.reads reading))

pub lines-init : goal.lines-init
lines-init g c =
    let items : c.new-txs.result.items ≡ [] = c.new-txs.ensures.items in
    let none : length c.new-txs.result.items ≡ 0 = ap length items in
    let some : 0 < c.args.most = omega (arith, c.requires.some) in
    let left = g.S.Source.left c.args.source.now in
    let faults = g.S.Source.faults c.args.source.now in
    record {
      reads = subst (λ items. Reads c.args.typed.now c.args.self.now c.args.self.now left left faults faults (with_part (map arc_value items) c.args.self.now.txs None) (is_full c.args.most (length items) None)) (sym items)
          (less_settled c.args.typed.now c.args.self.now c.args.self.now left left faults faults (with_part [] c.args.self.now.txs None) false (is_full c.args.most 0 None) (λ is. sym (not_full c.args.most 0 None some refl) ∙ is) (nothing_read c.args.typed.now c.args.self.now left faults));
      counts = omega (arith, none);
      fits = subst (λ items. All (Fits c.args.typed.now) (map arc_value items)) (sym items) (All-nil (Fits c.args.typed.now));
      controls = refl;
      no_off = λ none. refl;
      few = omega (arith, none, some);
      fine = subst IsFine (sym c.requires.reading) tt;
    }

pub returns-clause-reads : goal.returns-clause-reads
returns-clause-reads g c =
    let before = c.args.self.now.txs in
    let left = g.S.Source.left c.args.source.now in
    let left' = g.S.Source.left c.lines.source in
    let faults = g.S.Source.faults c.args.source.now in
    let faults' = g.S.Source.faults c.lines.source in
    let full : not c.part.result.ended ≡ true → is_full c.args.most (length c.lines.txs.items) c.lines.off ≡ true =
    λ open_.
    elim c.lines-test.branch [
      | then-lines-test+then-is_none+else-is_reading w ↦ not_reading c.lines.self.stage (sym w.if-is_reading.ensures.answer) (c.part.ensures.reading (not_true c.part.result.ended open_) (none_is c.lines.off w.if-is_none.ensures))
      | then-lines-test+else-is_none w ↦ full_by_off c.args.most (length c.lines.txs.items) c.lines.off w.if-is_none.ensures
      | else-lines-test w ↦ full_of_txs c.args.most (length c.lines.txs.items) c.lines.off (omega (arith, w.lines-test.false, c.len.ensures))
    ] in
    subst (λ txs. Reads c.args.typed.now c.args.self.now c.lines.self left left' faults faults' (with_part (map arc_value txs.items) before c.part.result.off) (not c.part.result.ended)) (sym c.part.ensures.same.0)
    (subst (λ off. Reads c.args.typed.now c.args.self.now c.lines.self left left' faults faults' (with_part (map arc_value c.lines.txs.items) before off) (not c.part.result.ended)) (sym c.part.ensures.same.1)
    (less_settled c.args.typed.now c.args.self.now c.lines.self left left' faults faults' (with_part (map arc_value c.lines.txs.items) before c.lines.off) (is_full c.args.most (length c.lines.txs.items) c.lines.off) (not c.part.result.ended) full c.lines.invariant.reads))
