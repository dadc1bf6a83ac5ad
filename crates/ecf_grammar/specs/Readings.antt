-- What holds of every reading.
use Rattle.std.specs.Prelude.{◌≡◌, ℕ, ◌+◌, ◌<◌, ◌≤◌, List, ◌++◌, length}
use Rattle.std.specs.List.{AllByRecursion}
use Rattle.ecf_lang.specs.declared.limits.TheConstants.{MAX_TOKENS}
use Rattle.ecf_grammar.specs.declared.tokens.Token.{Token}
use Rattle.ecf_grammar.specs.Reading.{Piece, bytes_of, IsPiece, BeginsLongest, token_at, IsInRange, Reads, ReadsUpTo, Fault, IsFaulty, IsTokenOf, StandInOrder}

-- a text reads as one list of tokens at most
abbrev pub OneReading : Type 0
OneReading = (source : List ℕ) (tokens others : List Token) → Reads source tokens → Reads source others → tokens ≡ others

-- a text that reads has no fault
abbrev pub ReadOrRefused : Type 0
ReadOrRefused = (source : List ℕ) (tokens : List Token) (fault : Fault) → Reads source tokens → ¬ IsFaulty source fault

-- a text has one fault at most
abbrev pub OneFault : Type 0
OneFault = (source : List ℕ) (fault other : Fault) → IsFaulty source fault → IsFaulty source other → fault ≡ other

-- the tokens that a text reads as lie in it, each spelled there as its kind says
abbrev pub TokensAreSpelled : Type 0
TokensAreSpelled = (source : List ℕ) (tokens : List Token) → Reads source tokens → AllByRecursion (IsTokenOf source) tokens

-- and they stand one behind the other
abbrev pub TokensStandInOrder : Type 0
TokensStandInOrder = (source : List ℕ) (tokens : List Token) → Reads source tokens → StandInOrder 0 tokens

-- each piece of a text has some bytes
abbrev pub PiecesHaveBytes : Type 0
PiecesHaveBytes = (piece : Piece) → IsPiece piece → 0 < length (bytes_of piece)

-- a reading up to a place goes on by the longest piece there; `more` is the token that this piece is, or none
abbrev pub ReadingGoesOn : Type 0
ReadingGoesOn =
    (source text behind : List ℕ) (tokens more : List Token) (at : ℕ) (piece : Piece) → ReadsUpTo source tokens text → at + length text ≡ length source
    → BeginsLongest text piece behind → token_at at piece ≡ more → AllByRecursion (λ t. IsInRange t.kind) more → length (tokens ++ more) ≤ MAX_TOKENS
    → ReadsUpTo source (tokens ++ more) behind
