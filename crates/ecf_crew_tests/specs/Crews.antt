-- What a thread of the crew owns.
use Rattle.std.specs.Prelude.{◌≡◌, ◌<◌, ℕ, length}
use Rattle.ecf_turnstile.specs.declared.turnstile.Turnstile.{Turnstile}
use Rattle.ecf_turnstile.specs.Seats.{own_of}
use Rattle.ecf_turnstile.specs.Turnstiles.{IsSeatOf}
use Rattle.ecf_handoff.specs.declared.handoff.Handoff.{Handoff}
use Rattle.ecf_handoff.specs.Handoffs.{IsPass}
use Rattle.ecf_crew_tests.specs.declared.sum.Entry.{Entry}
use Rattle.ecf_crew_tests.specs.declared.sum.Sum.{Sum}
use Rattle.ecf_crew_tests.specs.declared.tools.SmallNumbers.{SmallNumbers}
use Rattle.ecf_crew_tests.specs.declared.tools.Tools.{Tools}

-- a seat of this desk, a pass of this queue, and a share of the ledger that counts the seat's own entries
pub record AreTools {L : Type 0} (desk : Turnstile (Sum L) ℕ Entry) (queue : Handoff ℕ SmallNumbers) (t : Tools L) : Type 0 where
  pub seat : IsSeatOf (λ s. s.limit) desk t.seat
  pub pass : IsPass queue t.pass
  pub share : 0 < t.share.parts
  pub counts : length (own_of t.seat) ≡ t.share.amount
