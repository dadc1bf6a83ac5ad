-- How deep tokens are nested, by their kinds alone.
use Rattle.std.proofs.Common.{◌≡◌, ℕ, zero, suc, ◌+◌, ◌-◌, ◌<◌, ◌≤◌, Bool, List, [], ◌∷◌, length, take, cond, fold, refl, ap, ◌∙◌, arith}
use Rattle.std.specs.Prelude.{count_by, slice_range}
use Rattle.ecf_grammar.specs.declared.tokens.Kind.{Kind}
use Rattle.ecf_grammar.specs.declared.tokens.Kind.TheVariants as kind
use Rattle.ecf_grammar.specs.declared.tokens.Token.{Token}
use Rattle.ecf_grammar.specs.Lexemes.{Lexeme, lexeme, lexemes_of}
use Rattle.ecf_lang.specs.declared.limits.TheConstants.{MAX_NESTING}
use Rattle.ecf_grammar.specs.Nesting.{is_opening, is_closing, nesting}
use Rattle.ecf_parser.specs.FirstDeep.{IsFirstDeep, IsAllShallow}

abbrev pub opens_token : Token → Bool
opens_token t = is_opening (lexeme t.kind [])

abbrev pub closes_token : Token → Bool
closes_token t = is_closing (lexeme t.kind [])

abbrev pub depth : List Token → ℕ → ℕ
depth tokens n = count_by opens_token (take (n + 1) tokens) - count_by closes_token (take n tokens)

opens_any : (k : Kind) (bytes : List ℕ) → is_opening (lexeme k bytes) ≡ is_opening (lexeme k [])
opens_any kind.Name bytes = refl
opens_any (kind.Number v) bytes = refl
opens_any (kind.Word v) bytes = refl
opens_any (kind.Sign v) bytes = refl

closes_any : (k : Kind) (bytes : List ℕ) → is_closing (lexeme k bytes) ≡ is_closing (lexeme k [])
closes_any kind.Name bytes = refl
closes_any (kind.Number v) bytes = refl
closes_any (kind.Word v) bytes = refl
closes_any (kind.Sign v) bytes = refl

module _ (p : Lexeme → Bool) (q : Token → Bool) (source : List ℕ) (same : (t : Token) → p (lexeme t.kind (slice_range source t.start t.end)) ≡ q t) where
  count_from : (tokens : List Token) (n from : ℕ) → fold (λ a x. a + cond {A = ℕ} (p x) 1 0) from (take n (lexemes_of source tokens)) ≡ fold (λ a x. a + cond {A = ℕ} (q x) 1 0) from (take n tokens)
  count_from [] zero from = refl
  count_from [] (suc n) from = refl
  count_from (t ∷ tokens) zero from = refl
  count_from (t ∷ tokens) (suc n) from = ap (λ (b : Bool). fold (λ a x. a + cond {A = ℕ} (p x) 1 0) (from + cond {A = ℕ} b 1 0) (take n (lexemes_of source tokens))) (same t) ∙ count_from tokens n (from + cond {A = ℕ} (q t) 1 0)

  count_along : (tokens : List Token) (n : ℕ) → count_by p (take n (lexemes_of source tokens)) ≡ count_by q (take n tokens)
  count_along tokens n = count_from tokens n 0

pub lexemes_len : (source : List ℕ) (tokens : List Token) → length (lexemes_of source tokens) ≡ length tokens
lexemes_len source [] = refl
lexemes_len source (t ∷ tokens) = omega (arith, lexemes_len source tokens)

nesting_is : (source : List ℕ) (tokens : List Token) (n : ℕ) → nesting (lexemes_of source tokens) n ≡ depth tokens n
nesting_is source tokens n =
    let o = count_along is_opening opens_token source (λ t. opens_any t.kind (slice_range source t.start t.end)) tokens (n + 1) in
    let c = count_along is_closing closes_token source (λ t. closes_any t.kind (slice_range source t.start t.end)) tokens n in
    omega (arith, o, c)

pub all_shallow : (source : List ℕ) (tokens : List Token) → ((k : ℕ) → k < length tokens → depth tokens k ≤ MAX_NESTING) → IsAllShallow (lexemes_of source tokens)
all_shallow source tokens h = λ k below within. let deep = h k (omega (arith, lexemes_len source tokens)) in omega (arith, nesting_is source tokens k)

pub first_deep : (source : List ℕ) (tokens : List Token) (at : ℕ) → at < length tokens → MAX_NESTING < depth tokens at → ((k : ℕ) → k < at → depth tokens k ≤ MAX_NESTING) → IsFirstDeep (lexemes_of source tokens) at
first_deep source tokens at below deep h = record {
  within = omega (arith, lexemes_len source tokens);
  deep = omega (arith, nesting_is source tokens at);
  shallow = λ k before within. let low = h k before in omega (arith, nesting_is source tokens k);
}
