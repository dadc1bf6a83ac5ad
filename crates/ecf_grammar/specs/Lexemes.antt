-- Lexemes are what the grammar sees of tokens: the bytes of a name, the value of a number, a word or a sign, and no place in the text.
use Rattle.std.specs.Prelude.{ℕ, ◌+◌, List, [], ◌∷◌, map, slice_range}
use Rattle.ecf_grammar.specs.declared.tokens.Kind.{Kind}
use Rattle.ecf_grammar.specs.declared.tokens.Kind.TheVariants as kind
use Rattle.ecf_grammar.specs.declared.tokens.Token.{Token}
use Rattle.ecf_grammar.specs.declared.tokens.Word.{Word}
use Rattle.ecf_grammar.specs.declared.tokens.Sign.{Sign}

-- a name with its bytes, a number, a reserved word or a sign
pub data Lexeme : Type 0 where
  NameOf : List ℕ → Lexeme
  NumberOf : ℕ → Lexeme
  WordOf : Word → Lexeme
  SignOf : Sign → Lexeme

-- the lexeme of a kind, with these bytes where it is a name
abbrev pub lexeme : Kind → List ℕ → Lexeme
lexeme kind.Name bytes = NameOf bytes
lexeme (kind.Number value) bytes = NumberOf value
lexeme (kind.Word w) bytes = WordOf w
lexeme (kind.Sign s) bytes = SignOf s

-- the lexemes of tokens of that source
abbrev pub lexemes_of : List ℕ → List Token → List Lexeme
lexemes_of source = map (λ t. lexeme t.kind (slice_range source t.start t.end))

-- lexemes, each behind the number of its token
abbrev pub NumberedLexemes : Type 0
NumberedLexemes = List (ℕ × Lexeme)

-- lexemes with the numbers of their tokens, from there on
abbrev pub with_numbers : ℕ → List Lexeme → NumberedLexemes
with_numbers at [] = []
with_numbers at (l ∷ ls) = (at, l) ∷ with_numbers (at + 1) ls
