use Rattle.std.proofs.Common.{◌<◌, length, Some, refl, sym, ap, ◌∙◌, subst}
use Rattle.std.specs.Arc.{arc_value}
use Rattle.ecf_lang.specs.declared.tx.Tx.{Tx}
use Rattle.ecf_lang.specs.declared.typed.Typed.{Typed}
use Rattle.ecf_lang.specs.Fits.{Fits}
use Rattle.ecf_book.specs.Recorded.{Recorded}
use Rattle.ecf_book.specs.Steps.{IsPlacing}
use Rattle.ecf_book.proofs.FindLaws.{all_image, get_image}
use Rattle.ecf_book.proofs.ReplyLaws.{ran_placing}
use Rattle.ecf_book.proofs.book.Book.run_row.Goals as goal

pub run_and_judge-requires-clause-fits : goal.run_and_judge-requires-clause-fits
run_and_judge-requires-clause-fits c =
    let known = subst (λ (b : Recorded). c.args.row < length b.setup.txs) (sym c.self.view_is) c.requires in
    let fits = all_image (Fits (arc_value c.self.inside.typed)) arc_value c.self.inside.txs.items c.args.row c.index-tx.result.now c.self.invariant.holds.setup.fits known c.index-tx.ensures in
    subst (λ (t : Typed). Fits t c.deref-2.result.now) (sym c.deref.ensures) (subst (λ (tx : Tx). Fits (arc_value c.self.inside.typed) tx) (sym c.deref-2.ensures) fits)

pub returns : goal.returns
returns c =
    let known = subst (λ (b : Recorded). c.args.row < length b.setup.txs) (sym c.self.view_is) c.requires in
    let at = get_image arc_value c.self.inside.txs.items c.args.row c.index-tx.result.now known c.index-tx.ensures ∙ ap (λ x. Some x) (sym c.deref-2.ensures) in
    subst (λ (b : Recorded). IsPlacing b c.args.row c.in_ok-receipt.field-0.receipt c.in_ok-store.store) c.self.view_is
    (ran_placing _ _ c.args.row c.deref.result.now c.deref-2.result.now c.in_ok-receipt.field-0 c.self.inside.store c.in_ok-store.store c.as_slice.result.now
    c.self.invariant.holds at c.deref.ensures refl c.in_ok-receipt.ensures.right c.as_slice.ensures c.in_ok-store.ensures)
