-- Which queue a pass is of.
use Rattle.std.specs.Prelude.{◌<◌}
use Rattle.crossbeam_queue.specs.Passes.{Pass, view, IsPassOf}
use Rattle.ecf_handoff.specs.declared.account.Account.{Account}
use Rattle.ecf_handoff.specs.declared.handoff.Handoff.{Handoff}

module _ {T : Type 0} where
  -- what the pass knows
  abbrev pub account_of : Pass T (Account T) → Account T
  account_of p = view p

  -- a pass of this queue: it came from `new`, or was made from such a pass; it has some of the share
  pub record IsPass {J : Type 0} (h : Handoff T J) (p : Pass T (Account T)) : Type 0 where
    pub queue : IsPassOf h.queue p
    pub share : 0 < (view p).share
