-- What is found at the front of a text.
use Rattle.std.specs.Prelude.{◌≡◌, ◌≢◌, ℕ, ◌^◌, ◌≤◌, List, length, take, drop, ⊤}
use Rattle.ecf_grammar.specs.declared.tokens.Kind.TheVariants as kind
use Rattle.ecf_grammar.specs.declared.tokens.Sign.{Sign}
use Rattle.ecf_grammar.specs.Spelling.{sign_text}
use Rattle.ecf_grammar.specs.Reading.{Piece, bytes_of, Begins, BeginsLongest, BeginsToken, IsInRange}
use Rattle.ecf_grammar.specs.Reading.Piece.{Blank, Comment, TokenText}
use Rattle.ecf_lexer.specs.declared.front.Front.{Front}
use Rattle.ecf_lexer.specs.declared.front.Front.TheVariants.{Gap, Token, WideNumber}

-- a piece that is no token
abbrev pub IsGap : Piece → Type 0
IsGap (Blank byte) = ⊤
IsGap (Comment remark) = ⊤
IsGap (TokenText k bytes) = ⊥

-- the text begins with this piece, of so many bytes, and with no longer one
pub record IsFront (text : List ℕ) (piece : Piece) (len : ℕ) : Type 0 where
  pub longest : BeginsLongest text piece (drop len text)
  pub len_is : length (bytes_of piece) ≡ len

-- what was found is the longest piece at the front of the text
abbrev pub IsFrontOf : List ℕ → Front → Type 0
IsFrontOf text (Gap len) = (piece : Piece) × IsGap piece × IsFront text piece len
IsFrontOf text (Token k len) = (bytes : List ℕ) × IsInRange k × IsFront text (TokenText k bytes) len
IsFrontOf text WideNumber = (value : ℕ) × (2 ^ 128 ≤ value) × BeginsToken text (kind.Number value)

-- no piece begins the text
abbrev pub BeginsNothing : List ℕ → Type 0
BeginsNothing text = (piece : Piece) (rest : List ℕ) → ¬ Begins text piece rest

-- the first two bytes of the text spell this sign
abbrev pub BeginsPair : List ℕ → Sign → Type 0
BeginsPair text s = (2 ≤ length text) × (sign_text s ≡ take 2 text)

-- they spell none
abbrev pub BeginsNoPair : List ℕ → Type 0
BeginsNoPair text = (s : Sign) → 2 ≤ length text → sign_text s ≢ take 2 text
