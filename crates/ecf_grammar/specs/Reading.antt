-- What it means that a text reads as a list of tokens, and which fault comes first in a text that doesn't.
-- A text is cut into pieces (blanks, comments and the texts of tokens), each the longest at its place.
use Rattle.std.specs.Prelude.{◌≡◌, ◌≢◌, ℕ, ◌+◌, ◌^◌, ◌<◌, ◌≤◌, ◌==◌, not, IsTrue, List, [], ◌∷◌, ◌++◌, length, codes, slice_range, ⊤}
use Rattle.std.specs.List.{AllByRecursion, list_all}
use Rattle.ecf_lang.specs.declared.limits.TheConstants.{MAX_TOKENS}
use Rattle.ecf_grammar.specs.declared.tokens.Kind.{Kind}
use Rattle.ecf_grammar.specs.declared.tokens.Kind.TheVariants as kind
use Rattle.ecf_grammar.specs.declared.tokens.Token.{Token}
use Rattle.ecf_grammar.specs.Spelling.{is_blank, IsLexeme}

-- a blank byte, a comment by what stands behind its two slashes, or a token by its kind and bytes
pub data Piece : Type 0 where
  Blank : ℕ → Piece
  Comment : List ℕ → Piece
  TokenText : Kind → List ℕ → Piece

-- the bytes of a piece
abbrev pub bytes_of : Piece → List ℕ
bytes_of (Blank byte) = byte ∷ []
bytes_of (Comment remark) = codes "//" ++ remark
bytes_of (TokenText k bytes) = bytes

-- the piece is spelled as it has to be; no LF stands in a comment
abbrev pub IsPiece : Piece → Type 0
IsPiece (Blank byte) = IsTrue (is_blank byte)
IsPiece (Comment remark) = IsTrue (list_all (λ byte. not (byte == 10)) remark)
IsPiece (TokenText k bytes) = IsLexeme k bytes

-- the text begins with the piece, and the rest comes behind it
pub record Begins (text : List ℕ) (piece : Piece) (rest : List ℕ) : Type 0 where
  pub spelled : IsPiece piece
  pub whole : text ≡ bytes_of piece ++ rest

-- and the text begins with no longer piece
pub record BeginsLongest (text : List ℕ) (piece : Piece) (rest : List ℕ) : Type 0 where
  pub begins : Begins text piece rest
  pub longest : (other : Piece) (behind : List ℕ) → Begins text other behind → length (bytes_of other) ≤ length (bytes_of piece)

-- the text is these pieces, each the longest at its place, and then the rest
abbrev pub IsCut : List ℕ → List Piece → List ℕ → Type 0
IsCut text [] rest = text ≡ rest
IsCut text (piece ∷ pieces) rest = (behind : List ℕ) × BeginsLongest text piece behind × IsCut behind pieces rest

-- the token that a piece is, if it is one, at its place
abbrev pub token_at : ℕ → Piece → List Token
token_at at (Blank byte) = []
token_at at (Comment remark) = []
token_at at (TokenText k bytes) = record { kind = k; start = at; end = at + length bytes } ∷ []

-- the tokens among pieces that stand from a place on
abbrev pub tokens_from : ℕ → List Piece → List Token
tokens_from at [] = []
tokens_from at (piece ∷ pieces) = token_at at piece ++ tokens_from (at + length (bytes_of piece)) pieces

-- a number is below 2^128
abbrev pub IsInRange : Kind → Type 0
IsInRange kind.Name = ⊤
IsInRange (kind.Number value) = value < 2 ^ 128
IsInRange (kind.Word w) = ⊤
IsInRange (kind.Sign s) = ⊤

-- up to the rest, the source reads as these tokens
pub record ReadsUpTo (source : List ℕ) (tokens : List Token) (rest : List ℕ) : Type 0 where
  pub pieces : List Piece
  pub cut : IsCut source pieces rest
  pub all : tokens_from 0 pieces ≡ tokens
  pub in_range : AllByRecursion (λ t. IsInRange t.kind) tokens
  pub few : length tokens ≤ MAX_TOKENS

-- the whole source reads as these tokens
abbrev pub Reads : List ℕ → List Token → Type 0
Reads source tokens = ReadsUpTo source tokens []

-- why a text is refused, and the place of the byte at fault
pub data Fault : Type 0 where
  BadByte : ℕ → Fault
  WideNumber : ℕ → Fault
  TooManyTokens : ℕ → Fault

-- the byte at fault
abbrev pub place : Fault → ℕ
place (BadByte at) = at
place (WideNumber at) = at
place (TooManyTokens at) = at

-- the text begins with a token of this kind, read by longest match
abbrev pub BeginsToken : List ℕ → Kind → Type 0
BeginsToken text k = (bytes : List ℕ) × (rest : List ℕ) × BeginsLongest text (TokenText k bytes) rest

-- what refuses the text behind so many tokens: a byte that begins no piece, a number from 2^128 on, or a token too many
abbrev pub Refuses : Fault → ℕ → List ℕ → Type 0
Refuses (BadByte at) count text = (text ≢ []) × ((piece : Piece) (rest : List ℕ) → ¬ Begins text piece rest)
Refuses (WideNumber at) count text = (count < MAX_TOKENS) × (value : ℕ) × (2 ^ 128 ≤ value) × BeginsToken text (kind.Number value)
Refuses (TooManyTokens at) count text = (count ≡ MAX_TOKENS) × (k : Kind) × BeginsToken text k

-- the source reads as tokens up to the byte at fault, and what stands there is refused for that fault
pub record IsFaulty (source : List ℕ) (fault : Fault) : Type 0 where
  pub tokens : List Token
  pub rest : List ℕ
  pub reads : ReadsUpTo source tokens rest
  pub at : place fault + length rest ≡ length source
  pub refused : Refuses fault (length tokens) rest

-- a token lies in the source, and the bytes there are spelled as its kind says
pub record IsTokenOf (source : List ℕ) (token : Token) : Type 0 where
  pub some : token.start < token.end
  pub within : token.end ≤ length source
  pub spelled : IsLexeme token.kind (slice_range source token.start token.end)

-- from a place on the tokens stand one behind the other
abbrev pub StandInOrder : ℕ → List Token → Type 0
StandInOrder from [] = ⊤
StandInOrder from (token ∷ tokens) = (from ≤ token.start) × StandInOrder token.end tokens
