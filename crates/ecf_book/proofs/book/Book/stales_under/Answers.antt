use Rattle.std.proofs.Common.{◌≡◌, true, refl, subst}
use Rattle.ecf_rows.specs.Standing.{may_place}
use Rattle.ecf_book.specs.Recorded.{Recorded}
use Rattle.ecf_book.specs.Steps.{standing}
use Rattle.ecf_book.proofs.ReplyLaws.{turn_held}
use Rattle.ecf_book.proofs.book.Book.stales_under.Goals as goal

pub returns-in-Claimed-clause-in_turn : goal.returns-in-Claimed-clause-in_turn
returns-in-Claimed-clause-in_turn c _ =
    subst (λ (b : Recorded). may_place (standing b) c.args.row ≡ true) c.self.view_is (turn_held _ _ c.args.row c.self.invariant.holds (c.in-Claimed.ensures.claimed refl))
