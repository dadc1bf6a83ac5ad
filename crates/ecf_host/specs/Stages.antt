-- What is due is a chain of stages: each says which value, or which refusal, may come of it.
use Rattle.std.specs.Prelude.{◌≡◌, Result, Ok, Err}
use Rattle.ecf_host.specs.declared.refusal.Refusal.{Refusal}
use Rattle.ecf_host.specs.World.{Inputs}

-- the values and refusals that may come of a stage
abbrev pub Stage : Type 0 → Type 1
Stage A = Result A Refusal → Type 0

-- A stage, and from its value the next: where the first refuses, both do.
infixr 5 ◌▷◌
pub data ◌▷◌ {A B : Type 0} (first : Stage A) (next : A → Stage B) : Result B Refusal → Type 0 where
  refused : (refusal : Refusal) → first (Err refusal) → (first ▷ next) (Err refusal)
  went_on : (value : A) (outcome : Result B Refusal) → first (Ok value) → next value outcome → (first ▷ next) outcome

-- the stage comes to one outcome at most
abbrev pub OneAtMost : {A : Type 0} → Stage A → Type 0
OneAtMost {A} stage = (some other : Result A Refusal) → stage some → stage other → some ≡ other

-- a stage that only fetches: where it refuses, the source is as it was
abbrev pub of_shelf : {A : Type 0} → Inputs → Inputs → Stage A → Stage A
of_shelf before after stage (Ok value) = stage (Ok value)
of_shelf before after stage (Err refusal) = stage (Err refusal) × (after.source ≡ before.source)

-- a stage that neither fetches nor reads: where it refuses, shelf and source are as they were
abbrev pub computed : {A : Type 0} → Inputs → Inputs → Stage A → Stage A
computed before after stage (Ok value) = stage (Ok value)
computed before after stage (Err refusal) = stage (Err refusal) × (after ≡ before)

-- a stage that reads the stream, which comes last: the shelf is as it was
abbrev pub of_source : {A : Type 0} → Inputs → Inputs → Stage A → Stage A
of_source before after stage outcome = stage outcome × (after.shelf ≡ before.shelf)

-- a stage that comes last and neither fetches nor reads: whatever comes of it, shelf and source are as they were
abbrev pub untouched : {A : Type 0} → Inputs → Inputs → Stage A → Stage A
untouched before after stage outcome = stage outcome × (after ≡ before)
