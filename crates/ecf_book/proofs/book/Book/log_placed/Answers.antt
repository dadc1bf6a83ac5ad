use Rattle.std.proofs.Common.{◌≡◌, ◌+◌, true, sym, ◌∙◌, subst, arith}
use Rattle.ecf_rows.specs.Standing.{Standing, may_place}
use Rattle.ecf_book.specs.Recorded.{Recorded}
use Rattle.ecf_book.specs.Steps.{MayCome, IsPlacing, entry, standing}
use Rattle.ecf_book.proofs.StepLaws.{log_room, journal_room, keeps_one, placed_by, short_journal, next_number}
use Rattle.ecf_book.proofs.book.Book.log_placed.Goals as goal

pub overflow_add-seq : goal.overflow_add-seq
overflow_add-seq c =
    let short = short_journal c.finish_ends.ensures c.journal_grows.ensures _ _ c.self.invariant.holds in
    omega (arith, short, c.len.ensures, c.self.inside.entries.ok.0)

pub place-requires : goal.place-requires
place-requires c =
    let turn = subst (λ (b : Recorded). may_place (standing b) c.args.row ≡ true) (sym c.self.view_is) c.requires.in_turn in
    subst (λ (t : Standing). may_place t c.args.row ≡ true) (sym c.self.invariant.holds.matches.rows) turn

pub push_reserved-requires : goal.push_reserved-requires
push_reserved-requires c =
    let e = entry c.args.row c.args.ticket c.args.what in
    let may = subst (λ (b : Recorded). MayCome b e) (sym c.self.view_is) c.requires.may in
    let room = journal_room c.finish_ends.ensures c.journal_grows.ensures _ _ _ _ e c.self.invariant may c.requires.places in
    omega (arith, room, c.self.inside.entries.ok.0)

pub push_reserved-requires-2 : goal.push_reserved-requires-2
push_reserved-requires-2 c =
    let e = entry c.args.row c.args.ticket c.args.what in
    let may = subst (λ (b : Recorded). MayCome b e) (sym c.self.view_is) c.requires.may in
    let room = log_room c.few_entries.ensures _ _ _ _ e c.self.invariant may in
    omega (arith, room, c.self.inside.log.ok.0)

pub invariant_of-self : goal.invariant_of-self
invariant_of-self c =
    let e = entry c.args.row c.args.ticket c.args.what in
    let may = subst (λ (b : Recorded). MayCome b e) (sym c.self.view_is) c.requires.may in
    let right = subst (λ (b : Recorded). IsPlacing b c.args.row c.args.receipt c.args.store) (sym c.self.view_is) c.requires.right in
    let m = c.self.invariant.holds.matches in
    let number = next_number _ _ _ _ m in
    let seq : c.len.result + 1 ≡ _ = omega (arith, c.len.ensures, c.self.inside.entries.ok.0) ∙ number in
    keeps_one _ _ _ _ _ _ _ _ _ _ e c.push_reserved-2.ensures.items c.push_reserved.ensures.capacity c.push_reserved-2.ensures.capacity c.self.invariant may
    (placed_by _ _ c.args.row _ c.args.ticket c.args.what c.args.receipt c.args.store _ _ _ c.requires.places m right seq c.place.ensures c.push_reserved.ensures.items)
