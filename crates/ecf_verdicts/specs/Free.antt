-- When callbacks did no harm: swaps can bring the steps of each invocation together.
use Rattle.std.specs.Prelude.{◌≡◌, ℕ, ◌<◌, List, length, Some}
use Rattle.ecf_lang.specs.declared.run.Step.{Step}
use Rattle.ecf_verdicts.specs.Swaps.{swaps}
use Rattle.ecf_verdicts.specs.Traces.{inv_at}

-- between two steps of one invocation stand only its steps
pub record IsTogether (t : List Step) : Type 0 where
  pub between : (i j k : ℕ) → i < j → j < k → k < length t → inv_at t i ≡ inv_at t k → inv_at t j ≡ inv_at t i

-- some list of places, swapped one after the other, leaves a trace that is together
pub record Free (t : List Step) : Type 0 where
  pub places : List ℕ
  pub result : List Step
  pub swaps_to_result : swaps t places ≡ Some result
  pub is_together : IsTogether result
