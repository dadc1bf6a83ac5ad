use Rattle.std.proofs.Common.{refl, sym, subst, arith}
use Rattle.ecf_core.specs.declared.book.LogWhat.TheVariants as log
use Rattle.ecf_core.specs.Book.{as_freed}
use Rattle.ecf_book.specs.Recorded.{Recorded}
use Rattle.ecf_book.specs.Steps.{MayCome, entry}
use Rattle.ecf_book.proofs.StepLaws.{log_room, keeps_one, changed}
use Rattle.ecf_book.proofs.book.Book.log_freed.Goals as goal

pub push_reserved-requires : goal.push_reserved-requires
push_reserved-requires c =
    let e = entry c.args.row c.args.ticket log.Freed in
    let may = subst (λ (b : Recorded). MayCome b e) (sym c.self.view_is) c.requires in
    let room = log_room c.few_entries.ensures _ _ _ _ e c.self.invariant may in
    omega (arith, room, c.self.inside.log.ok.0)

pub invariant_of-self : goal.invariant_of-self
invariant_of-self c =
    let e = entry c.args.row c.args.ticket log.Freed in
    let may = subst (λ (b : Recorded). MayCome b e) (sym c.self.view_is) c.requires in
    keeps_one _ _ _ _ _ _ _ _ _ _ e c.push_reserved.ensures.items refl c.push_reserved.ensures.capacity c.self.invariant may
    (changed _ _ _ c.args.row _ _ as_freed c.self.invariant.holds.matches c.free.ensures)
