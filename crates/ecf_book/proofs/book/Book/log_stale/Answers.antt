use Rattle.std.proofs.Common.{refl, sym, subst, arith}
use Rattle.ecf_book.specs.Recorded.{Recorded}
use Rattle.ecf_book.specs.Steps.{MayCome, entry}
use Rattle.ecf_book.proofs.StepLaws.{log_room, keeps_one, counted, stale_ready}
use Rattle.ecf_book.proofs.book.Book.log_stale.Goals as goal

pub stale-requires : goal.stale-requires
stale-requires c =
    let e = entry c.args.row c.args.ticket c.args.what in
    let may = subst (λ (b : Recorded). MayCome b e) (sym c.self.view_is) c.requires.may in
    stale_ready _ _ c.args.row c.args.ticket c.args.what c.self.invariant.holds c.requires.stale may

pub push_reserved-requires : goal.push_reserved-requires
push_reserved-requires c =
    let e = entry c.args.row c.args.ticket c.args.what in
    let may = subst (λ (b : Recorded). MayCome b e) (sym c.self.view_is) c.requires.may in
    let room = log_room c.few_entries.ensures _ _ _ _ e c.self.invariant may in
    omega (arith, room, c.self.inside.log.ok.0)

pub invariant_of-self : goal.invariant_of-self
invariant_of-self c =
    let e = entry c.args.row c.args.ticket c.args.what in
    let may = subst (λ (b : Recorded). MayCome b e) (sym c.self.view_is) c.requires.may in
    keeps_one _ _ _ _ _ _ _ _ _ _ e c.push_reserved.ensures.items refl c.push_reserved.ensures.capacity c.self.invariant may
    (counted _ _ _ c.args.row c.args.ticket c.args.what _ _ c.requires.stale c.self.invariant.holds.matches c.stale.ensures)
