-- What a verdict and the judging of one object say.
use Rattle.std.specs.Prelude.{◌≡◌, ℕ, true, false, List, [], ◌∷◌, ◌++◌, Option, Some, None}
use Rattle.ecf_judge.specs.declared.verdict.Verdict.{Verdict as Answer}
use Rattle.ecf_judge.specs.declared.verdict.Verdict.TheVariants as answer
use Rattle.ecf_lang.specs.declared.receipt.Order.{Order}
use Rattle.ecf_lang.specs.declared.run.Step.{Step}
use Rattle.ecf_verdicts.specs.Cycles.{at, cycle, is_placed}
use Rattle.ecf_verdicts.specs.Placing.{placing}
use Rattle.ecf_verdicts.specs.Verdicts.{Verdict, Approved, Vetoed}
use Rattle.ecf_verdicts.specs.Words.{order}

-- the verdict that an answer is
abbrev pub verdict_of : Answer → Verdict
verdict_of (answer.Approved orders) = Approved orders
verdict_of (answer.Vetoed object at cycle) = Vetoed object at cycle

-- the trace of an object is free and its named order joins the orders, or it isn't and the veto tells why
abbrev pub JudgesObject : ℕ → List Step → List Order → List Order → Option Answer → Type 0
JudgesObject object t old new None = (is_placed t ≡ true) × (new ≡ old ++ order object (placing t).order ∷ [])
JudgesObject object t old new (Some veto) = (is_placed t ≡ false) × (verdict_of veto ≡ Vetoed object (at t) (cycle t))
