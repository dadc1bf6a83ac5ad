use Rattle.std.proofs.Common.{◌≡◌, ◌≤◌, ◌++◌, List}
use Rattle.std.specs.Prelude.{All, vec_len}
use Rattle.std.specs.Vec.{vec_capacity}
use Rattle.ecf_handoff.specs.declared.limits.TheConstants.{WHOLE_SHARE}
use Rattle.ecf_handoff.specs.Content.{IsContent}
use Rattle.ecf_handoff.specs.Handoffs.{IsPass, account_of}
use Rattle.ecf_handoff.proofs.handoff.Handoff.close.Given as goal

-- what the queue held at first is what is in the list so far, and what it holds now
abbrev pub invariant-loop : goal.invariant-loop
invariant-loop g l = IsPass l.self l.pass × ((account_of l.pass).share ≡ (account_of l.initial.pass).share)
    × ((account_of l.pass).share ≡ WHOLE_SHARE → (items : List g.row.T.Denot) → IsContent (account_of l.pass) items → IsContent (account_of l.initial.pass) (l.left.items ++ items))
    × All g.J.Job.fits l.left.items × (vec_len l.left ≤ 32) × (32 ≤ vec_capacity l.left)
