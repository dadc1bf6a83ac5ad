-- What was parsed before, with what was parsed behind it.
use Rattle.std.proofs.Common.{◌≡◌, ◌≢◌, ℕ, ◌<◌, ◌≤◌, Ok, Err, refl, sym, ap, ◌∙◌, arith}
use Rattle.std.specs.Prelude.{Result, IfOk, IfErr, OnOk}
use Rattle.ecf_grammar.specs.Lexemes.{NumberedLexemes}
use Rattle.ecf_parser.specs.declared.cursor.ParseFault.{ParseFault}
use Rattle.ecf_parser.specs.declared.cursor.ParseFault.TheVariants.{NoMemory}
use Rattle.ecf_parser.specs.Parsers.{Parse, and_then, pure}
use Rattle.ecf_parser.specs.Parses.{Parses}

pub parsed : {A : Type 0} (o : Parse A) (r : Result A ParseFault) (x : A) (new : NumberedLexemes) → Parses o r new → r ≡ Ok x → o ≡ Ok (x, new)
parsed o (Ok y) x new h e = let same : y ≡ x = cc in h ∙ ap (λ y. Ok (y, new)) same
parsed o (Err f) x new h e = let no : ⊥ = cc in absurd no

pub refused : {A : Type 0} (o : Parse A) (r : Result A ParseFault) (f : ParseFault) (new : NumberedLexemes) → Parses o r new → r ≡ Err f → f ≢ NoMemory → o ≡ Err new
refused o (Ok y) f new h e fine = let no : ⊥ = cc in absurd no
refused o (Err g) f new h e fine = let same : g ≡ f = cc in h (λ is. fine (sym same ∙ is))

pub still_fewer : {A : Type 0} (r : Result A ParseFault) (x : A) (left mid before : ℕ) → r ≡ Ok x → OnOk r (left ≤ mid) → mid < before → left < before
still_fewer (Ok y) x left mid before e h less = omega (arith, h, less)
still_fewer (Err f) x left mid before e h less = let no : ⊥ = cc in absurd no

pub still_less : {A : Type 0} (r : Result A ParseFault) (x : A) (left mid before : ℕ) → r ≡ Ok x → OnOk r (left < mid) → mid < before → left < before
still_less (Ok y) x left mid before e h less = omega (arith, h, less)
still_less (Err f) x left mid before e h less = let no : ⊥ = cc in absurd no

pub with_read : {A B : Type 0} (o : Parse B) (r : Result B ParseFault) (x : A) (result : Result (A × B) ParseFault) (new : NumberedLexemes) →
    Parses o r new → IfOk result (λ p. (p.0 ≡ x) × (r ≡ Ok p.1)) → IfErr result (λ f. r ≡ Err f) → Parses (and_then o (λ y. pure (x, y))) result new
with_read o r x (Ok p) new h both fault = ap (λ o. and_then o (λ y. pure (x, y))) (parsed o r p.1 new h both.1) ∙ ap (λ z. Ok ((z, p.1), new)) (sym both.0)
with_read o r x (Err f) new h both fault = λ fine. ap (λ o. and_then o (λ y. pure (x, y))) (refused o r f new h fault fine)

pub with_fewer : {A B : Type 0} (r : Result B ParseFault) (x : A) (result : Result (A × B) ParseFault) (left mid before : ℕ) →
    OnOk r (left < mid) → IfOk result (λ p. (p.0 ≡ x) × (r ≡ Ok p.1)) → mid < before → OnOk result (left < before)
with_fewer r x (Ok p) left mid before h both less = still_less r p.1 left mid before both.1 h less
with_fewer r x (Err f) left mid before h both less = tt
