use Rattle.std.proofs.Common.{◌≡◌, length}
use mathlib.Core.List.{IsPrefix}
use Rattle.ecf_turnstile.specs.Seats.{seen_by, own_of}
use Rattle.ecf_turnstile.specs.Turnstiles.{IsSeatOf}
use Rattle.ecf_handoff.specs.Handoffs.{IsPass, account_of}
use Rattle.ecf_crew_tests.proofs.threads.work.Given as goal

-- after each number the tools are tools again, with the shares that they had
abbrev pub invariant-loop-i : goal.invariant-loop-i
invariant-loop-i g l = IsSeatOf (λ s. s.limit) l.desk l.seat × IsPrefix (seen_by l.initial.seat) (seen_by l.seat) × IsPass l.queue l.pass × (length (own_of l.seat) ≡ l.share.amount)
    × ((account_of l.pass).share ≡ (account_of l.initial.pass).share) × (l.share.parts ≡ l.initial.share.parts)
