-- What the laws of reading add to an answer that is right.
use Rattle.std.proofs.Common.{◌≡◌, ℕ, ◌≤◌, List, length, refl, ap, subst, inl, inr, ◌⊎◌, Some}
use Rattle.std.specs.Prelude.{IfSome}
use Rattle.std.proofs.Math.ListN.{drop_of_length-le}
use Rattle.ecf_grammar.specs.declared.tokens.Token.{Token}
use Rattle.ecf_grammar.specs.Reading.{Reads, ReadsUpTo, Fault, IsFaulty}
use Rattle.ecf_grammar.specs.Readings.{ReadOrRefused, OneFault}
use Rattle.ecf_lexer.specs.declared.lexer.LexFault.{LexFault}
use Rattle.ecf_lexer.specs.declared.lexer.LexFault.TheVariants.{BadByte, WideNumber, TooManyTokens, NoMemory}
use Rattle.ecf_lexer.specs.LexFault.{fault_of}
use Rattle.ecf_lexer.specs.Progress.{ReadsTo}

pub reads_whole : (source : List ℕ) (tokens : List Token) (at : ℕ) → ReadsTo source tokens at → length source ≤ at → Reads source tokens
reads_whole source tokens at h end = subst (λ t. ReadsUpTo source tokens t) (drop_of_length-le source end) h.reads

-- the error is right for the text
abbrev pub IsRight : List ℕ → LexFault → Type 0
IsRight source e = IfSome (fault_of e) (IsFaulty source)

pub error_where_read : ReadOrRefused → (source : List ℕ) (tokens : List Token) (e : LexFault) → IsRight source e → Reads source tokens → e ≡ NoMemory
error_where_read read_or_refused source tokens (BadByte at) right h = absurd (read_or_refused source tokens _ h right)
error_where_read read_or_refused source tokens (WideNumber at) right h = absurd (read_or_refused source tokens _ h right)
error_where_read read_or_refused source tokens (TooManyTokens at) right h = absurd (read_or_refused source tokens _ h right)
error_where_read read_or_refused source tokens NoMemory right h = refl

pub error_where_faulty : OneFault → (source : List ℕ) (fault : Fault) (e : LexFault) → IsRight source e → IsFaulty source fault → (e ≡ NoMemory) ⊎ (fault_of e ≡ Some fault)
error_where_faulty one_fault source fault (BadByte at) right h = inr (ap (λ f. Some f) (one_fault source _ fault right h))
error_where_faulty one_fault source fault (WideNumber at) right h = inr (ap (λ f. Some f) (one_fault source _ fault right h))
error_where_faulty one_fault source fault (TooManyTokens at) right h = inr (ap (λ f. Some f) (one_fault source _ fault right h))
error_where_faulty one_fault source fault NoMemory right h = inl refl
