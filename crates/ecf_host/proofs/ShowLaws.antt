-- What comes of `show FILE`, stage by stage.
use Rattle.std.proofs.Common.{◌≡◌, ℕ, List, Some, Result, Ok, Err, IfOk, IfErr, refl, ap, inl}
use Rattle.ecf_grammar.specs.declared.tokens.Token.{Token}
use Rattle.ecf_grammar.specs.Lexemes.{lexemes_of}
use Rattle.ecf_grammar.specs.Reading.{Reads}
use Rattle.ecf_lang.specs.declared.tree.Tree.{Tree}
use Rattle.ecf_host.specs.declared.failure.Failure.{Failure}
use Rattle.ecf_host.specs.declared.failure.Failure.TheVariants.{Refused, NoMemory}
use Rattle.ecf_host.specs.Answers.{Answer}
use Rattle.ecf_host.specs.Contract.{fetched, lexed, parsed, spelled}
use Rattle.ecf_host.specs.Due.{shown_answer, Comes, due_of_show}
use Rattle.ecf_host.specs.Failures.{IfRefused, OnNoMemory}
use Rattle.ecf_host.specs.Stages.◌▷◌.{refused, went_on}
use Rattle.ecf_host.specs.Words.{Command}
use Rattle.ecf_host.specs.World.{Inputs, ShelfState, SourceState}

-- ---- the stages of a text

pub lexing_refuses : (text : List ℕ) (failure : Failure) → IfRefused failure (λ refusal. lexed text (Err refusal)) → IfRefused failure (λ refusal. spelled text (Err refusal))
lexing_refuses text (Refused refusal) is = refused refusal is
lexing_refuses text NoMemory is = tt

pub parsing_refuses : (text : List ℕ) (tokens : List Token) (result : Result Tree Failure) → Reads text tokens → IfErr result (λ failure. IfRefused failure (λ refusal. parsed text tokens (Err refusal)))
    → IfErr result (λ failure. IfRefused failure (λ refusal. spelled text (Err refusal)))
parsing_refuses text tokens (Ok tree) reads is = tt
parsing_refuses text tokens (Err (Refused refusal)) reads is = went_on tokens (Err refusal) reads is
parsing_refuses text tokens (Err NoMemory) reads is = tt

pub spelled_is : (text : List ℕ) (tokens : List Token) (result : Result Tree Failure) → Reads text tokens → IfOk result (λ tree. parsed text tokens (Ok tree)) → IfOk result (λ tree. spelled text (Ok tree))
spelled_is text tokens (Ok tree) reads is = went_on tokens (Ok tree) reads is
spelled_is text tokens (Err failure) reads is = tt

-- ---- the stages of the command, which doesn't touch the source

abbrev with_source : ShelfState → SourceState → Inputs
with_source shelf source = record { shelf = shelf; source = source }

module _ (file : List ℕ) (before after : ShelfState) (source : SourceState) where
  -- the fetch gives no text
  pub not_fetched : (failure : Failure) → IfRefused failure (λ refusal. fetched before after file (Err refusal)) → OnNoMemory failure (after ≡ before) →
      Comes (Some (Command.Show file)) (with_source before source) (with_source after source) (Err failure)
  not_fetched (Refused refusal) is stands = refused refusal (is, refl)
  not_fetched NoMemory is stands = inl (record { shelf = stands; faults = refl })

  module _ (text : List ℕ) (fetch : fetched before after file (Ok text)) (shelf : after ≡ before) where
    -- the text spells no tree
    pub no_tree : (failure : Failure) → IfRefused failure (λ refusal. spelled text (Err refusal)) → Comes (Some (Command.Show file)) (with_source before source) (with_source after source) (Err failure)
    no_tree (Refused refusal) is = went_on text (Err refusal) fetch (refused refusal is, ap (λ s. with_source s source) shelf)
    no_tree NoMemory is = inl (record { shelf = shelf; faults = refl })

    -- memory ran out while it was written
    pub show_lost : Comes (Some (Command.Show file)) (with_source before source) (with_source after source) (Err NoMemory)
    show_lost = inl (record { shelf = shelf; faults = refl })

    -- it was shown
    pub is_shown : (tree : Tree) → spelled text (Ok tree) → (answer : Answer) → answer ≡ shown_answer tree → due_of_show file (with_source before source) (with_source after source) (Ok answer)
    is_shown tree spells answer is = went_on text (Ok answer) fetch (went_on tree (Ok answer) spells is, ap (λ s. with_source s source) shelf)
