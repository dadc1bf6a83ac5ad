-- How words, signs, names and numbers are spelled, in bytes.
use Rattle.std.specs.Prelude.{◌≡◌, ◌≢◌, ℕ, ◌==◌, ◌||◌, Bool, IsTrue, List, [], ◌∷◌, codes}
use Rattle.std.specs.List.{list_all}
use Rattle.std.specs.Char.{is_ascii_alphabetic, is_ascii_alphanumeric}
use Rattle.ecf_decimal.specs.Decimal.{is_numeral, number_value}
use Rattle.ecf_grammar.specs.declared.tokens.Kind.{Kind}
use Rattle.ecf_grammar.specs.declared.tokens.Kind.TheVariants as kind
use Rattle.ecf_grammar.specs.declared.tokens.Word.{Word}
use Rattle.ecf_grammar.specs.declared.tokens.Word.TheVariants as word
use Rattle.ecf_grammar.specs.declared.tokens.Sign.{Sign}
use Rattle.ecf_grammar.specs.declared.tokens.Sign.TheVariants as sign

-- the bytes of a reserved word
abbrev pub word_text : Word → List ℕ
word_text word.Object = codes "object"
word_text word.Num = codes "num"
word_text word.Flag = codes "flag"
word_text word.Addr = codes "addr"
word_text word.Map = codes "map"
word_text word.Method = codes "method"
word_text word.Let = codes "let"
word_text word.If = codes "if"
word_text word.Else = codes "else"
word_text word.While = codes "while"
word_text word.Return = codes "return"
word_text word.Revert = codes "revert"
word_text word.Call = codes "call"
word_text word.SelfWord = codes "self"
word_text word.Here = codes "here"
word_text word.True = codes "true"
word_text word.False = codes "false"
word_text word.Try = codes "try"

-- the bytes of a sign
abbrev pub sign_text : Sign → List ℕ
sign_text sign.OpenBrace = codes "{"
sign_text sign.CloseBrace = codes "}"
sign_text sign.OpenParen = codes "("
sign_text sign.CloseParen = codes ")"
sign_text sign.OpenBracket = codes "["
sign_text sign.CloseBracket = codes "]"
sign_text sign.Colon = codes ":"
sign_text sign.Semicolon = codes ";"
sign_text sign.Comma = codes ","
sign_text sign.Dot = codes "."
sign_text sign.Assign = codes "="
sign_text sign.Equal = codes "=="
sign_text sign.NotEqual = codes "!="
sign_text sign.Less = codes "<"
sign_text sign.LessEqual = codes "<="
sign_text sign.Greater = codes ">"
sign_text sign.GreaterEqual = codes ">="
sign_text sign.Plus = codes "+"
sign_text sign.Minus = codes "-"
sign_text sign.Star = codes "*"
sign_text sign.Slash = codes "/"
sign_text sign.Percent = codes "%"
sign_text sign.And = codes "&&"
sign_text sign.Or = codes "||"
sign_text sign.Not = codes "!"
sign_text sign.Arrow = codes "->"

-- a letter or an underscore
abbrev pub is_name_start : ℕ → Bool
is_name_start byte = is_ascii_alphabetic byte || byte == 95

-- a letter, a digit or an underscore
abbrev pub is_name_byte : ℕ → Bool
is_name_byte byte = is_ascii_alphanumeric byte || byte == 95

-- a space, tab, CR or LF
abbrev pub is_blank : ℕ → Bool
is_blank byte = (byte == 32 || byte == 9) || (byte == 13 || byte == 10)

-- a letter or underscore, and then letters, digits and underscores
abbrev pub IsIdentifier : List ℕ → Type 0
IsIdentifier [] = ⊥
IsIdentifier (first ∷ more) = IsTrue (is_name_start first) × IsTrue (list_all is_name_byte more)

-- an identifier that isn't reserved
pub record IsName (bytes : List ℕ) : Type 0 where
  pub identifier : IsIdentifier bytes
  pub free : (w : Word) → bytes ≢ word_text w

-- these bytes are spelled as a token of that kind, a number of whatever size
abbrev pub IsLexeme : Kind → List ℕ → Type 0
IsLexeme kind.Name bytes = IsName bytes
IsLexeme (kind.Number value) bytes = IsTrue (is_numeral bytes) × (number_value bytes ≡ value)
IsLexeme (kind.Word w) bytes = bytes ≡ word_text w
IsLexeme (kind.Sign s) bytes = bytes ≡ sign_text s
