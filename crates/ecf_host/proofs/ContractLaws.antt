-- What refuses a contract.
use Rattle.std.proofs.Common.{◌≡◌, ◌⊎◌, ℕ, List, Option, IfSome, Result, Ok, Err, IfOk, IfErr, refl, ap, ◌∙◌, inl, inr}
use Rattle.ecf_grammar.specs.declared.tokens.Token.{Token}
use Rattle.ecf_grammar.specs.Lexemes.{lexemes_of}
use Rattle.ecf_grammar.specs.Reading.{Fault, IsFaulty, Reads}
use Rattle.ecf_grammar.specs.Spells.{IsFileOf}
use Rattle.ecf_lang.specs.declared.limits.TheConstants.{MAX_CONTRACT_BYTES}
use Rattle.ecf_lang.specs.declared.tree.Tree.{Tree}
use Rattle.ecf_lang.specs.declared.typed.Typed.{Typed}
use Rattle.std.specs.Prelude.{Vec}
use Rattle.std.specs.declared.alloc.Global.{Global}
use Rattle.ecf_edge.specs.Count.{counted_up}
use Rattle.ecf_edge.specs.Shelf.{Files, HoldsNoneUnder, HoldsMoreUnder, faults_after_fetch, long_answers_after_fetch, absences_after_fetch}
use Rattle.ecf_edge.specs.declared.shelf.Fetch.{Fetch}
use Rattle.ecf_edge.specs.declared.shelf.Fetch.TheVariants as fetch
use Rattle.ecf_host.specs.declared.failure.Failure.{Failure}
use Rattle.ecf_host.specs.declared.failure.Failure.TheVariants.{Refused, NoMemory}
use Rattle.ecf_host.specs.Stages.◌▷◌.{refused, went_on}
use Rattle.ecf_host.specs.World.{ShelfState}
use Rattle.ecf_lexer.specs.LexFault.{fault_of}
use Rattle.ecf_lexer.specs.declared.lexer.LexFault.{LexFault}
use Rattle.ecf_lexer.specs.declared.lexer.LexFault.TheVariants as lex
use Rattle.ecf_parser.specs.SyntaxFault.{HasSyntaxFault}
use Rattle.ecf_parser.specs.declared.parser.SyntaxFault.{SyntaxFault}
use Rattle.ecf_parser.specs.declared.parser.SyntaxFault.TheVariants as syntax
use Rattle.ecf_host.specs.Contract.{fetched, lexed, parsed, typed, contract}
use Rattle.ecf_host.specs.Failures.{IfRefused, OnNoMemory, failure_of_fetch, failure_of_lexing, failure_of_parsing}

pub lex_refused : (text : List ℕ) (fault : LexFault) → IfSome (fault_of fault) (IsFaulty text) → IfRefused (failure_of_lexing fault) (λ refusal. lexed text (Err refusal))
lex_refused text (lex.BadByte at) is = (Fault.BadByte at, refl, is)
lex_refused text (lex.WideNumber at) is = (Fault.WideNumber at, refl, is)
lex_refused text (lex.TooManyTokens at) is = (Fault.TooManyTokens at, refl, is)
lex_refused text lex.NoMemory is = tt

pub parse_refused : (text : List ℕ) (tokens : List Token) (fault : SyntaxFault) → (fault ≡ syntax.NoMemory) ⊎ HasSyntaxFault (lexemes_of text tokens) fault → IfRefused (failure_of_parsing fault) (λ refusal. parsed text tokens (Err refusal))
parse_refused text tokens (syntax.At token) (inl is) = cc
parse_refused text tokens (syntax.At token) (inr is) = is
parse_refused text tokens (syntax.TooDeep token) (inl is) = cc
parse_refused text tokens (syntax.TooDeep token) (inr is) = is
parse_refused text tokens syntax.NoMemory is = tt

-- the stages of a text, one by one
pub lexing_refused : (text : List ℕ) (failure : Failure) → IfRefused failure (λ refusal. lexed text (Err refusal)) → IfRefused failure (λ refusal. contract text (Err refusal))
lexing_refused text (Refused refusal) is = refused refusal is
lexing_refused text NoMemory is = tt

pub parsing_refused : (text : List ℕ) (tokens : List Token) (failure : Failure) → Reads text tokens → IfRefused failure (λ refusal. parsed text tokens (Err refusal)) → IfRefused failure (λ refusal. contract text (Err refusal))
parsing_refused text tokens (Refused refusal) reads is = went_on tokens (Err refusal) reads (refused refusal is)
parsing_refused text tokens NoMemory reads is = tt

pub typing_refused : (text : List ℕ) (tokens : List Token) (tree : Tree) (result : Result Typed Failure) → Reads text tokens → IsFileOf (lexemes_of text tokens) tree →
    IfErr result (λ failure. IfRefused failure (λ refusal. typed tree (Err refusal))) → IfErr result (λ failure. IfRefused failure (λ refusal. contract text (Err refusal)))
typing_refused text tokens tree (Ok form) reads spelled is = tt
typing_refused text tokens tree (Err (Refused refusal)) reads spelled is = went_on tokens (Err refusal) reads (went_on tree (Err refusal) spelled is)
typing_refused text tokens tree (Err NoMemory) reads spelled is = tt

pub contract_is : (text : List ℕ) (tokens : List Token) (tree : Tree) (result : Result Typed Failure) → Reads text tokens → IsFileOf (lexemes_of text tokens) tree →
    IfOk result (λ form. typed tree (Ok form)) → IfOk result (λ form. contract text (Ok form))
contract_is text tokens tree (Ok form) reads spelled is = went_on tokens (Ok form) reads (went_on tree (Ok form) spelled is)
contract_is text tokens tree (Err failure) reads spelled is = tt

-- ---- the fetch

-- states of a shelf that agree in all are one
pub same_shelf : (before after : ShelfState) → after.files ≡ before.files → after.faults ≡ before.faults → after.long_answers ≡ before.long_answers → after.absences ≡ before.absences → after ≡ before
same_shelf before after files faults long absent =
    ap (λ (x : Option Files). let shelf : ShelfState = record after { files = x } in shelf) files
    ∙ (ap (λ (x : ℕ). let shelf : ShelfState = record after { files = before.files; faults = x } in shelf) faults
    ∙ (ap (λ (x : ℕ). let shelf : ShelfState = record before { long_answers = x; absences = after.absences } in shelf) long
    ∙ ap (λ (x : ℕ). let shelf : ShelfState = record before { absences = x } in shelf) absent))

-- what a fetch's answer says
pub fetch_refused : (before after : ShelfState) (file : List ℕ) (fault : Fetch) → after.files ≡ before.files →
    (let answer : Result (Vec ℕ Global) Fetch = Err fault in (after.faults ≡ faults_after_fetch before.faults answer) × (after.long_answers ≡ long_answers_after_fetch before.long_answers answer) × (after.absences ≡ absences_after_fetch before.absences answer)) →
    (fault ≡ fetch.TooLong → HoldsMoreUnder before.files file MAX_CONTRACT_BYTES) → (fault ≡ fetch.Missing → HoldsNoneUnder before.files file) →
    IfRefused (failure_of_fetch fault) (λ refusal. fetched before after file (Err refusal))
fetch_refused before after file fetch.Failed files counts long missing = same_shelf (record before { faults = counted_up before.faults }) after files counts.0 counts.1 counts.2
fetch_refused before after file fetch.Missing files counts long missing = (missing refl, same_shelf (record before { absences = counted_up before.absences }) after files counts.0 counts.1 counts.2)
fetch_refused before after file fetch.TooLong files counts long missing = (long refl, same_shelf (record before { long_answers = counted_up before.long_answers }) after files counts.0 counts.1 counts.2)
fetch_refused before after file fetch.NoMemory files counts long missing = tt

pub fetch_stands : (before after : ShelfState) (fault : Fetch) → after.files ≡ before.files →
    (let answer : Result (Vec ℕ Global) Fetch = Err fault in (after.faults ≡ faults_after_fetch before.faults answer) × (after.long_answers ≡ long_answers_after_fetch before.long_answers answer) × (after.absences ≡ absences_after_fetch before.absences answer)) →
    OnNoMemory (failure_of_fetch fault) (after ≡ before)
fetch_stands before after fetch.Failed files counts = tt
fetch_stands before after fetch.Missing files counts = tt
fetch_stands before after fetch.TooLong files counts = tt
fetch_stands before after fetch.NoMemory files counts = same_shelf before after files counts.0 counts.1 counts.2
