-- What a canonical text is made of: tokens, single spaces, and the beginnings of lines.
use Rattle.std.specs.Prelude.{◌≡◌, ℕ, zero, suc, List, [], ◌∷◌, ◌++◌, codes, decimal}
use Rattle.std.specs.List.{flat_map}
use Rattle.ecf_grammar.specs.declared.tokens.Word.{Word}
use Rattle.ecf_grammar.specs.declared.tokens.Sign.{Sign}
use Rattle.ecf_grammar.specs.declared.tokens.Sign.TheVariants as sign
use Rattle.ecf_grammar.specs.Spelling.{word_text, sign_text}
use Rattle.ecf_grammar.specs.Lexemes.{Lexeme}
use Rattle.ecf_grammar.specs.Lexemes.Lexeme.{NameOf, NumberOf, WordOf, SignOf}

-- a token, a space, or a new line behind so many open blocks
pub data Mark : Type 0 where
  Token : Lexeme → Mark
  Space : Mark
  Line : ℕ → Mark

abbrev pub Marks : Type 0
Marks = List Mark

-- the bytes of a token; a number has no zeros in front
abbrev pub lexeme_text : Lexeme → List ℕ
lexeme_text (NameOf bytes) = bytes
lexeme_text (NumberOf value) = decimal value
lexeme_text (WordOf w) = word_text w
lexeme_text (SignOf s) = sign_text s

-- two spaces for each open block
abbrev pub indent : ℕ → List ℕ
indent zero = []
indent (suc depth) = codes "  " ++ indent depth

-- the bytes of a mark
abbrev pub mark_text : Mark → List ℕ
mark_text (Token l) = lexeme_text l
mark_text Space = codes " "
mark_text (Line depth) = codes "\n" ++ indent depth

-- the bytes of marks, one behind the other
abbrev pub text_of : Marks → List ℕ
text_of marks = flat_map mark_text marks

-- a text grew by the bytes of these marks
abbrev pub Wrote : List ℕ → List ℕ → Marks → Type 0
Wrote before after marks = after ≡ before ++ text_of marks

-- ---- single tokens

abbrev pub name_mark : List ℕ → Mark
name_mark bytes = Token (NameOf bytes)

abbrev pub number_mark : ℕ → Mark
number_mark value = Token (NumberOf value)

abbrev pub word_mark : Word → Mark
word_mark w = Token (WordOf w)

abbrev pub sign_mark : Sign → Mark
sign_mark s = Token (SignOf s)

-- a sign with a space on each side
abbrev pub spaced : Sign → Marks
spaced s = Space ∷ sign_mark s ∷ Space ∷ []

-- a comma and a space
abbrev pub comma : Marks
comma = sign_mark sign.Comma ∷ Space ∷ []

-- lists of marks with others between them
abbrev pub joined : Marks → List Marks → Marks
joined between [] = []
joined between (first ∷ rest) = first ++ flat_map (λ marks. between ++ marks) rest

-- between a sign that opens and one that closes
abbrev pub enclosed : Sign → Marks → Sign → Marks
enclosed opening marks closing = sign_mark opening ∷ marks ++ sign_mark closing ∷ []

abbrev pub in_parentheses : Marks → Marks
in_parentheses marks = enclosed sign.OpenParen marks sign.CloseParen

abbrev pub in_brackets : Marks → Marks
in_brackets marks = enclosed sign.OpenBracket marks sign.CloseBracket
