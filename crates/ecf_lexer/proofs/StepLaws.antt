-- A reading goes on by a piece, or stops at a fault.
use Rattle.std.proofs.Common.{◌≡◌, ◌≢◌, ℕ, ◌+◌, ◌-◌, ◌<◌, ◌≤◌, List, [], ◌∷◌, ◌++◌, length, take, drop, refl, ap, subst, arith, append-nil, length-append, length-drop}
use Rattle.std.specs.List.{AllByRecursion}
use Rattle.std.proofs.lemmas.List.{drop-drop, take_all}
use Rattle.ecf_lang.specs.declared.limits.TheConstants.{MAX_TOKENS}
use Rattle.ecf_grammar.specs.declared.tokens.Kind.{Kind}
use Rattle.ecf_grammar.specs.declared.tokens.Token.{Token}
use Rattle.ecf_grammar.specs.Reading.{Piece, bytes_of, token_at, IsInRange, ReadsUpTo, Fault, place, Refuses, IsFaulty}
use Rattle.ecf_grammar.specs.Reading.Piece.{Blank, Comment, TokenText}
use Rattle.ecf_grammar.specs.Reading.Fault.{BadByte}
use Rattle.ecf_grammar.specs.Readings.{PiecesHaveBytes, ReadingGoesOn}
use Rattle.ecf_lexer.specs.Progress.{ReadsTo}
use Rattle.ecf_lexer.specs.Front.{IsGap, IsFront, BeginsNothing}

pub reads_none : (source : List ℕ) → ReadsTo source [] 0
reads_none source = record { reads = record { pieces = []; cut = refl; all = refl; in_range = tt; few = omega arith }; within = omega arith }

-- what a slice from a place on has
pub rest_from : (source : List ℕ) (at : ℕ) → take (length source - at) (drop at source) ≡ drop at source
rest_from source at = take_all (length source - at) (drop at source) (omega (arith, length-drop at source))

-- where a piece at the front ends
record EndsIn (source : List ℕ) (at : ℕ) (p : Piece) (len : ℕ) : Type 0 where
  some : 0 < len
  within : at + len ≤ length source
  rest : drop len (drop at source) ≡ drop (at + len) source

ends_in : PiecesHaveBytes → (source : List ℕ) (at : ℕ) (p : Piece) (len : ℕ) → at ≤ length source → IsFront (drop at source) p len → EndsIn source at p len
ends_in have_bytes source at p len within front =
    let begins = front.longest.begins in
    record {
      some = omega (arith, front.len_is, have_bytes p begins.spelled);
      within = omega (arith, front.len_is, ap length begins.whole, length-append (bytes_of p) (drop len (drop at source)), length-drop at source);
      rest = drop-drop len at source;
    }

-- the laws by which a reading goes on
pub record PieceLaws : Type 0 where
  pub further : ReadingGoesOn
  pub some : PiecesHaveBytes

pub record StepsTo (source : List ℕ) (tokens : List Token) (at len : ℕ) : Type 0 where
  pub reads : ReadsTo source tokens (at + len)
  pub some : 0 < len

steps : PieceLaws → (source : List ℕ) (tokens more : List Token) (at : ℕ) (p : Piece) (len : ℕ) → ReadsTo source tokens at → IsFront (drop at source) p len
    → token_at at p ≡ more → AllByRecursion (λ t. IsInRange t.kind) more → length (tokens ++ more) ≤ MAX_TOKENS → StepsTo source (tokens ++ more) at len
steps laws source tokens more at p len h front is in_range few =
    let ends = ends_in laws.some source at p len h.within front in
    let place : at + length (drop at source) ≡ length source = omega (arith, length-drop at source, h.within) in
    let reads = laws.further source (drop at source) (drop len (drop at source)) tokens more at p h.reads place front.longest is in_range few in
    record { reads = record { reads = subst (ReadsUpTo source (tokens ++ more)) ends.rest reads; within = ends.within }; some = ends.some }

gap_token : (at : ℕ) (p : Piece) → IsGap p → token_at at p ≡ []
gap_token at (Blank b) gap = refl
gap_token at (Comment r) gap = refl
gap_token at (TokenText k bytes) gap = absurd gap

pub reads_gap : PieceLaws → (source : List ℕ) (tokens : List Token) (at : ℕ) (p : Piece) (len : ℕ) → ReadsTo source tokens at → IsGap p → IsFront (drop at source) p len → StepsTo source tokens at len
reads_gap laws source tokens at p len h gap front =
    subst (λ t. StepsTo source t at len) (append-nil tokens)
    (steps laws source tokens [] at p len h front (gap_token at p gap) tt (omega (arith, h.reads.few, ap length (append-nil tokens))))

pub reads_token : PieceLaws → (source : List ℕ) (tokens : List Token) (at : ℕ) (k : Kind) (bytes : List ℕ) (len : ℕ) → ReadsTo source tokens at → IsInRange k → IsFront (drop at source) (TokenText k bytes) len
    → length tokens < MAX_TOKENS → StepsTo source (tokens ++ record { kind = k; start = at; end = at + len } ∷ []) at len
reads_token laws source tokens at k bytes len h in_range front few =
    let more : List Token = record { kind = k; start = at; end = at + len } ∷ [] in
    let is : token_at at (TokenText k bytes) ≡ more = ap (λ n. record { kind = k; start = at; end = at + n } ∷ []) front.len_is in
    steps laws source tokens more at (TokenText k bytes) len h front is (in_range, tt) (omega (arith, few, length-append tokens more))

faulty : (source : List ℕ) (tokens : List Token) (at : ℕ) (fault : Fault) → ReadsTo source tokens at → place fault ≡ at → Refuses fault (length tokens) (drop at source) → IsFaulty source fault
faulty source tokens at fault h is refused = record { tokens = tokens; rest = drop at source; reads = h.reads; at = omega (arith, is, length-drop at source, h.within); refused = refused }

some_left : (source : List ℕ) (at : ℕ) → at < length source → drop at source ≢ []
some_left source at lt e = omega (arith, ap length e, length-drop at source)

pub bad_byte : (source : List ℕ) (tokens : List Token) (at : ℕ) → ReadsTo source tokens at → at < length source → BeginsNothing (drop at source) → IsFaulty source (BadByte at)
bad_byte source tokens at h lt none = faulty source tokens at (BadByte at) h refl (some_left source at lt, none)
