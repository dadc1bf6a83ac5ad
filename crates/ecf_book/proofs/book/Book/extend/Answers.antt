use Rattle.std.proofs.Common.{◌≡◌, ◌+◌, ◌*◌, ◌≤◌, ◌++◌, length, map, All, sym, ap, ◌∙◌, subst, arith}
use Rattle.std.specs.Arc.{arc_value}
use Rattle.std.specs.Vec.{vec_capacity}
use Rattle.std.proofs.lemmas.List.{length-map, map-append}
use Rattle.ecf_lang.specs.declared.limits.TheConstants.{MAX_TRANSACTIONS}
use Rattle.ecf_lang.specs.Fits.{Fits}
use Rattle.ecf_rows.specs.Standing.{extended}
use Rattle.ecf_book.specs.Recorded.{Recorded}
use Rattle.ecf_book.proofs.ExtendLaws.{keeps_more}
use Rattle.ecf_book.proofs.book.Book.extend.Goals as goal

pub invariant_of-self-2 : goal.invariant_of-self-2
invariant_of-self-2 c =
    let txs = map arc_value c.self.inside.txs.items in
    let more = map arc_value c.args.txs.items in
    let fits = subst (λ (b : Recorded). All (Fits b.setup.typed) more) (sym c.self.view_is) c.requires.fits in
    let few_more = subst (λ (b : Recorded). length b.setup.txs + length c.args.txs.items ≤ MAX_TRANSACTIONS) (sym c.self.view_is) c.requires.few in
    let old : length txs ≡ length c.self.inside.txs.items = length-map c.self.inside.txs.items arc_value in
    let new : length more ≡ length c.args.txs.items = length-map c.args.txs.items arc_value in
    let few : length txs + length more ≤ MAX_TRANSACTIONS = omega (arith, few_more, new) in
    let now = ap (map arc_value) (c.append.ensures ∙ ap (λ l. l ++ c.args.txs.items) c.reserve.ensures.txs) ∙ map-append arc_value c.self.inside.txs.items c.args.txs.items in
    let rows = c.in_default-extend.ensures.ok ∙ ap (λ l. extended c.self.inside.rows (map arc_value l)) c.as_slice.ensures.value in
    let entries_room = c.in_default.ensures.entries_room in
    let log_room = c.in_default.ensures.log_room in
    let room : length txs + length more ≤ vec_capacity c.reserve.new.entries = omega (arith, entries_room, old, new, c.len.ensures, c.self.inside.txs.ok.0, c.args.txs.ok.0) in
    let many : 21 * (length txs + length more) ≤ vec_capacity c.reserve.new.log = omega (arith, log_room, old, new, c.len.ensures, c.self.inside.txs.ok.0, c.args.txs.ok.0) in
    keeps_more c.extend_keeps.ensures _ txs more _ _ _ _ _ _ _ _ _ _ now c.reserve.ensures.log c.reserve.ensures.entries c.self.invariant fits few rows room many
