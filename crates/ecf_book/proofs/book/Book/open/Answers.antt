use Rattle.std.proofs.Common.{◌≡◌, ◌*◌, ◌≤◌, length, map, ap, ◌∙◌, arith}
use Rattle.std.specs.Arc.{arc_value}
use Rattle.std.specs.Vec.{vec_capacity}
use Rattle.std.proofs.lemmas.List.{length-map}
use Rattle.ecf_lang.specs.declared.limits.TheConstants.{MAX_TRANSACTIONS}
use Rattle.ecf_lang.specs.Genesis.{genesis}
use Rattle.ecf_rows.specs.Standing.{new_standing}
use Rattle.ecf_book.proofs.OpenLaws.{opened_keeps}
use Rattle.ecf_book.proofs.book.Book.open.Goals as goal

pub invariant_of-result : goal.invariant_of-result
invariant_of-result c =
    let typed = arc_value c.args.typed in
    let txs = map arc_value c.args.txs.items in
    let many : length txs ≡ length c.args.txs.items = length-map c.args.txs.items arc_value in
    let most = c.requires.few in
    let count : c.len-count.result ≡ length txs = omega (arith, many, c.len-count.ensures, c.args.txs.ok.0) in
    let few : length txs ≤ MAX_TRANSACTIONS = omega (arith, many, most) in
    let rows = c.in_ok-rows.ensures ∙ ap (λ l. new_standing (map arc_value l)) c.as_slice.ensures.value in
    let store = c.in_ok-store.ensures ∙ c.in_ok-heap.ensures ∙ ap genesis c.deref.ensures in
    let exact = c.in_ok-entries.ensures.exact in
    let exact_log = c.in_ok-log.ensures.exact in
    let room : length txs ≤ vec_capacity c.in_ok-entries.entries = omega (arith, exact, count) in
    let log_room : 21 * length txs ≤ vec_capacity c.in_ok-log.log = omega (arith, exact_log, count) in
    opened_keeps typed txs c.in_ok-log.log.items c.in_ok-rows.rows c.in_ok-entries.entries.items c.in_ok-store.store _ _
    c.requires.limits c.requires.fits few c.in_ok-log.ensures.items c.in_ok-entries.ensures.items rows store room log_room
