-- What a crew's member owns, and why it gave up.
use Rattle.std.specs.Prelude.{◌≡◌, true, IfSome}
use Rattle.ecf_pool.specs.declared.crew.Member.{Member}
use Rattle.ecf_pool.specs.declared.turn_desk.TurnDesk.{TurnDesk}
use Rattle.ecf_pool.specs.declared.workplace.Workplace.{Workplace}
use Rattle.ecf_pool.specs.Places.{AreToolsAt}
use Rattle.ecf_pool.specs.TurnDesks.{IsSeatAt}

-- it has tools, until it starts, and has given up only where it may
pub record IsMember {J G Q : Type 0} (may : Q → Type 0) (p : Workplace TurnDesk J G Q) (m : Member) : Type 0 where
  pub tools : IfSome m.tools (AreToolsAt IsSeatAt p)
  pub cause : m.gave_up ≡ true → may p.quit.now
