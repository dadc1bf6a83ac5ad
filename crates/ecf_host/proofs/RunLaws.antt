-- What comes of the contract of `run FILE`, stage by stage.
use Rattle.std.proofs.Common.{◌≡◌, List, ℕ, Result, Ok, Err, IfOk, Some, ap, inl, refl}
use Rattle.std.specs.Prelude.{IfErr}
use Rattle.ecf_lang.specs.declared.typed.Typed.{Typed}
use Rattle.ecf_host.specs.declared.failure.Failure.{Failure}
use Rattle.ecf_host.specs.declared.failure.Failure.TheVariants.{Refused, NoMemory}
use Rattle.ecf_host.specs.Contract.{fetched, contract}
use Rattle.ecf_host.specs.Due.{Comes}
use Rattle.ecf_host.specs.Failures.{IfRefused, OnNoMemory}
use Rattle.ecf_host.specs.Served.{IsAccepted}
use Rattle.ecf_host.specs.Stages.◌▷◌.{refused, went_on}
use Rattle.ecf_host.specs.Words.{Command}
use Rattle.ecf_host.specs.World.{Inputs, ShelfState, SourceState}

module _ (file : List ℕ) (before after : ShelfState) (source : SourceState) where
  -- neither shelf nor source was touched but for a fetch
  abbrev first : Inputs
  first = record { shelf = before; source = source }

  abbrev then : Inputs
  then = record { shelf = after; source = source }

  same_inputs : after ≡ before → then ≡ first
  same_inputs same = ap (λ s. let inputs : Inputs = record { shelf = s; source = source } in inputs) same

  -- the fetch gives no text
  pub not_fetched : (failure : Failure) → IfRefused failure (λ refusal. fetched before after file (Err refusal)) → OnNoMemory failure (after ≡ before) → Comes (Some (Command.Run file)) first then (Err failure)
  not_fetched (Refused refusal) is stands = refused refusal (is, refl)
  not_fetched NoMemory is stands = inl (record { shelf = stands; faults = refl })

  -- the text is no contract
  pub no_contract : (text : List ℕ) → fetched before after file (Ok text) → after ≡ before → (failure : Failure) → IfRefused failure (λ refusal. contract text (Err refusal)) → Comes (Some (Command.Run file)) first then (Err failure)
  no_contract text fetch shelf (Refused refusal) is = went_on text (Err refusal) fetch (refused refusal (is, same_inputs shelf))
  no_contract text fetch shelf NoMemory is = inl (record { shelf = shelf; faults = refl })

module _ (file : List ℕ) (before after : ShelfState) (text : List ℕ) (fetch : fetched before after file (Ok text)) (shelf : after ≡ before) where
  -- it is one, or why not
  pub accepted : {E : Type 0} (result : Result Typed E) → IfOk result (λ typed. contract text (Ok typed)) →
      IfOk result (λ typed. (source source' : SourceState) → IsAccepted file (record { shelf = before; source = source }) (record { shelf = after; source = source' }) typed)
  accepted (Ok typed) is = λ source source'. record { text = text; fetch = fetch; is = is; shelf = shelf }
  accepted (Err e) is = tt

  pub not_accepted : {T : Type 0} (result : Result T Failure) → IfErr result (λ failure. IfRefused failure (λ refusal. contract text (Err refusal))) →
      IfErr result (λ failure. (source : SourceState) → Comes (Some (Command.Run file)) (record { shelf = before; source = source }) (record { shelf = after; source = source }) (Err failure))
  not_accepted (Ok value) is = tt
  not_accepted (Err failure) is = λ source. no_contract file before after source text fetch shelf failure is
