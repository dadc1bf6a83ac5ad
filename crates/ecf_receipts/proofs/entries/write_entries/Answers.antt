-- A line more is printed.
use Rattle.std.proofs.Common.{◌<◌, ◌+◌, ◌++◌, ◌∙◌, map, length, ap, sym, arith}
use Rattle.std.specs.Arc.{arc_value}
use Rattle.ecf_lang.specs.declared.receipt.Entry.{Entry}
use Rattle.ecf_texts.specs.Entries.{line_text, tx_of}
use Rattle.ecf_receipts.proofs.LineLaws.{line_printed}
use Rattle.ecf_receipts.proofs.entries.write_entries.Goals as goal

pub loop-index-preserved : goal.loop-index-preserved
loop-index-preserved c =
    let inside : c.loop-index.index < length c.args.entries.now = c.loop-index-test.true in
    line_printed c.args.typed.now (map arc_value c.args.txs.now) c.args.entries.now c.args.from c.loop-index.index c.args.text.now.items c.loop-index.text.items c.loop-index.numbers.counts c.loop-index.invariant c.index-entries-index.result inside
    c.in-Some.tx.now c.in_ok-number.number c.write_line.new.text.items c.next.new.self.counts
    (ap (tx_of (map arc_value c.args.txs.now)) (sym c.index-entries-index.is) ∙ sym c.in-Some.ensures)
    c.in_ok-number.ensures.number c.in_ok-number.ensures.counts
    (c.in_ok-write_line.ensures ∙ ap (λ (e : Entry). c.loop-index.text.items ++ line_text c.args.typed.now (c.loop-index.index + 1) c.in_ok-number.number c.in-Some.tx.now e.receipt) c.index-entries-index.is)
