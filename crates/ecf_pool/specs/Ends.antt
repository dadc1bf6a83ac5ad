-- How a thread ends.
use Rattle.std.specs.Prelude.{◌≡◌, true}
use Rattle.ecf_pool.specs.declared.tools.Ended.{Ended}
use Rattle.ecf_pool.specs.declared.tools.Tools.{Tools}
use Rattle.ecf_pool.specs.declared.workplace.Workplace.{Workplace}
use Rattle.ecf_pool.specs.Places.{AreToolsAt, share_of}

-- it ends with tools and the same share, and has given up only where it may
pub record HasEnded {D J G Q S : Type 0} (is_seat : D → S → Type 0) (may : Q → Type 0) (p : Workplace D J G Q) (before : Tools S) (e : Ended S) : Type 0 where
  pub tools : AreToolsAt is_seat p e.tools
  pub share : share_of e.tools ≡ share_of before
  pub cause : e.gave_up ≡ true → may p.quit.now
