use Rattle.std.proofs.Common.{ap, ◌∙◌}
use Rattle.ecf_lang.specs.Store.{Store, with_writes}
use Rattle.ecf_book.specs.Recorded.{Recorded, opening_of, state_of}
use Rattle.ecf_book.proofs.ReplyLaws.{judged_placing, placing_at}
use Rattle.ecf_book.proofs.book.Book.place_judged.Goals as goal

pub log_placed-requires-clause-right : goal.log_placed-requires-clause-right
log_placed-requires-clause-right c =
    let b : Recorded = c.args.self.now in
    let j = c.args.judged in
    let store = c.self.invariant.holds.matches.store ∙ ap (λ (z : Recorded). (state_of z).ledger.store) c.self.view_is in
    let next = c.in-Ok.ensures ∙ ap (λ (s : Store). with_writes s c.writes.result.now) store ∙ ap (with_writes (state_of b).ledger.store) c.writes.ensures.writes in
    placing_at b j.row c.row-row.result j.receipt c.into_receipt-receipt.result c.in-Ok.store c.row-row.ensures c.into_receipt-receipt.ensures
    (judged_placing b j c.in-Ok.store c.requires.of_book (c.store_is_store.ensures (opening_of b.setup) b.entries) c.requires.same next)
