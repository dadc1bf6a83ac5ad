use Rattle.std.proofs.Common.{◌≡◌, ◌-◌, ◌≤◌, ◌^◌}
use Rattle.std.specs.Prelude.{All, vec_len}
use Rattle.std.specs.Vec.{vec_capacity}
use Rattle.ecf_pool.specs.Members.{IsMember}
use Rattle.ecf_pool.specs.Places.{AreToolsAt, share_of}
use Rattle.ecf_pool.specs.TurnDesks.{IsSeatAt}
use Rattle.ecf_pool.proofs.crew.hire.Given as goal

-- so many members are there, and there is a share for 32 halvings less these
abbrev pub invariant-loop-thread : goal.invariant-loop-thread
invariant-loop-thread g l = AreToolsAt IsSeatAt l.place l.tools × (2 ^ (32 - l.thread) ≤ share_of l.tools) × All (IsMember g.Q.Quit.may l.place) l.members.items
    × (vec_len l.members ≡ l.thread) × (l.threads ≤ vec_capacity l.members)
