-- Where a thread works, what it owns there, and how it goes on.
use Rattle.std.specs.Prelude.{◌≡◌, ◌≤◌, ℕ, true, length, ⊤}
use Rattle.ecf_book.specs.declared.setup.Setup.{Setup}
use Rattle.ecf_handoff.specs.Handoffs.{IsPass, account_of}
use Rattle.ecf_lang.specs.declared.limits.TheConstants.{MAX_OBJECTS}
use Rattle.ecf_pool.specs.declared.tools.Step.{Step}
use Rattle.ecf_pool.specs.declared.tools.Step.TheVariants as step
use Rattle.ecf_pool.specs.declared.tools.Todo.{Todo}
use Rattle.ecf_pool.specs.declared.tools.Todo.TheVariants as todo
use Rattle.ecf_pool.specs.declared.tools.Tools.{Tools}
use Rattle.ecf_pool.specs.declared.workplace.Workplace.{Workplace}
use Rattle.ecf_pool.specs.Works.{IsWorkFor, IsDraftOf}

-- what a thread is to do is of this contract and these transactions
abbrev pub IsTodo : Setup → Todo → Type 0
IsTodo s todo.Find = ⊤
IsTodo s (todo.Run work) = IsWorkFor s work
IsTodo s (todo.Judge draft) = IsDraftOf s draft

-- and so is what it goes on with; it gives up only where it may
abbrev pub MayFollow : Setup → Type 0 → Step → Type 0
MayFollow s may (step.Go todo) = IsTodo s todo
MayFollow s may step.Rest = ⊤
MayFollow s may (step.End gave_up) = gave_up ≡ true → may

-- a thread's part of the queue
abbrev pub share_of : {S : Type 0} → Tools S → ℕ
share_of t = (account_of t.pass).share

module _ {D J G Q : Type 0} where
  -- the contract is the desk's and within its limits, and the queue's drafts are of the desk's contract and transactions
  pub record IsPlace (setup : D → Setup) (job : Setup) (p : Workplace D J G Q) : Type 0 where
    pub limits : length p.typed.now.objects ≤ MAX_OBJECTS
    pub contract : (setup p.desk.now).typed ≡ p.typed.now
    pub drafts : job ≡ setup p.desk.now

  module _ {S : Type 0} where
    -- a seat of the desk and a pass of the queue
    pub record AreToolsAt (is_seat : D → S → Type 0) (p : Workplace D J G Q) (t : Tools S) : Type 0 where
      pub seat : is_seat p.desk.now t.seat
      pub pass : IsPass p.queue.now t.pass

    -- a step leaves a thread with tools and the same share, and with something that may follow
    pub record IsStep (is_seat : D → S → Type 0) (setup : D → Setup) (may : Q → Type 0) (p : Workplace D J G Q) (before : Tools S) (r : Tools S × Step) : Type 0 where
      pub tools : AreToolsAt is_seat p r.0
      pub share : share_of r.0 ≡ share_of before
      pub next : MayFollow (setup p.desk.now) (may p.quit.now) r.1
