-- Marks that stand apart are cut into the tokens that they show.
use Rattle.std.proofs.Common.{◌≡◌, ℕ, zero, suc, ◌+◌, ◌-◌, ◌^◌, ◌<◌, Bool, true, false, not, List, [], ◌∷◌, ◌++◌, length, take, refl, sym, ap, subst, ◌∙◌, arith, append_assoc, length-append, take_at, drop_at, decimal}
use Rattle.std.specs.Prelude.{slice_range}
use Rattle.std.specs.List.{AllByRecursion, list_all}
use Rattle.std.specs.Char.{is_ascii_digit}
use Rattle.std.proofs.lemmas.Bool.Decides.{nat_tests}
use Rattle.ecf_decimal.specs.Decimal.{is_numeral}
use Rattle.ecf_grammar.specs.declared.tokens.Kind.{Kind}
use Rattle.ecf_grammar.specs.declared.tokens.Kind.TheVariants as kind
use Rattle.ecf_grammar.specs.declared.tokens.Sign.{Sign}
use Rattle.ecf_grammar.specs.declared.tokens.Sign.TheVariants as sign
use Rattle.ecf_grammar.specs.Spelling.{sign_text, word_text, is_name_start, is_blank, IsIdentifier, IsName, IsLexeme}
use Rattle.ecf_grammar.specs.Spellings.{LexemesBeginApart}
use Rattle.ecf_grammar.specs.Lexemes.{Lexeme, lexeme, lexemes_of}
use Rattle.ecf_grammar.specs.Lexemes.Lexeme.{NameOf, NumberOf, WordOf, SignOf}
use Rattle.ecf_grammar.specs.Reading.{Piece, bytes_of, BeginsLongest, IsCut, tokens_from, IsInRange}
use Rattle.ecf_grammar.specs.Reading.Piece.{Blank, Comment, TokenText}
use Rattle.ecf_show.specs.Marks.{Marks, text_of, lexeme_text, indent}
use Rattle.ecf_show.specs.Marks.Mark.{Token, Space, Line}
use Rattle.ecf_shown.proofs.NumberLaws.{and_parts, decimal_numeral, decimal_value}
use Rattle.ecf_shown.proofs.FrontLaws.{EndsName, EndsSign, may_extend, name_longest, number_longest, blank_longest, sign_longest}

-- a name is spelled as a name, and a number is in range
abbrev pub IsValid : Lexeme → Type 0
IsValid (NameOf bytes) = IsName bytes
IsValid (NumberOf value) = value < 2 ^ 128
IsValid (WordOf w) = Unit {0}
IsValid (SignOf s) = Unit {0}

-- ---- the tokens of a text that is cut

-- the lexemes among pieces
abbrev pub lexemes_in : List Piece → List Lexeme
lexemes_in [] = []
lexemes_in (Blank byte ∷ pieces) = lexemes_in pieces
lexemes_in (Comment remark ∷ pieces) = lexemes_in pieces
lexemes_in (TokenText k bytes ∷ pieces) = lexeme k bytes ∷ lexemes_in pieces

slice_at : (front bytes behind : List ℕ) → slice_range (front ++ (bytes ++ behind)) (length front) (length front + length bytes) ≡ bytes
slice_at front bytes behind =
    ap (take ((length front + length bytes) - length front)) (drop_at front (bytes ++ behind) (length front) refl)
    ∙ take_at bytes behind ((length front + length bytes) - length front) (omega arith)

-- what comes behind a piece
lexemes_behind : (front : List ℕ) (bytes behind : List ℕ) (pieces : List Piece) (ls : List Lexeme)
    → lexemes_of ((front ++ bytes) ++ behind) (tokens_from (length (front ++ bytes)) pieces) ≡ ls
    → lexemes_of (front ++ (bytes ++ behind)) (tokens_from (length front + length bytes) pieces) ≡ ls
lexemes_behind front bytes behind pieces ls is =
    subst (λ (n : ℕ). lexemes_of (front ++ (bytes ++ behind)) (tokens_from n pieces) ≡ ls) (length-append front bytes)
    (subst (λ (t : List ℕ). lexemes_of t (tokens_from (length (front ++ bytes)) pieces) ≡ ls) (append_assoc front bytes behind) is)

-- the tokens of a text that is cut are those of its pieces
pub cut_lexemes : (front text : List ℕ) (pieces : List Piece) → IsCut text pieces [] → lexemes_of (front ++ text) (tokens_from (length front) pieces) ≡ lexemes_in pieces
cut_lexemes front text [] cut = refl
cut_lexemes front text (Blank byte ∷ pieces) cut =
    let behind = cut.0 in
    subst (λ (t : List ℕ). lexemes_of (front ++ t) (tokens_from (length front + 1) pieces) ≡ lexemes_in pieces) (sym cut.1.begins.whole)
    (lexemes_behind front (byte ∷ []) behind pieces (lexemes_in pieces) (cut_lexemes (front ++ byte ∷ []) behind pieces cut.2))
cut_lexemes front text (Comment remark ∷ pieces) cut =
    let behind = cut.0 in
    let bytes : List ℕ = 47 ∷ 47 ∷ remark in
    subst (λ (t : List ℕ). lexemes_of (front ++ t) (tokens_from (length front + length bytes) pieces) ≡ lexemes_in pieces) (sym cut.1.begins.whole)
    (lexemes_behind front bytes behind pieces (lexemes_in pieces) (cut_lexemes (front ++ bytes) behind pieces cut.2))
cut_lexemes front text (TokenText k bytes ∷ pieces) cut =
    let behind = cut.0 in
    let more = lexemes_behind front bytes behind pieces (lexemes_in pieces) (cut_lexemes (front ++ bytes) behind pieces cut.2) in
    subst (λ (t : List ℕ). (lexeme k (slice_range (front ++ t) (length front) (length front + length bytes)) ∷ lexemes_of (front ++ t) (tokens_from (length front + length bytes) pieces)) ≡ lexeme k bytes ∷ lexemes_in pieces) (sym cut.1.begins.whole)
    (ap (λ b. lexeme k b ∷ lexemes_of (front ++ (bytes ++ behind)) (tokens_from (length front + length bytes) pieces)) (slice_at front bytes behind) ∙ ap (λ ls. lexeme k bytes ∷ ls) more)

lexeme_valid : (k : Kind) (bytes : List ℕ) → IsLexeme k bytes → IsInRange k → IsValid (lexeme k bytes)
lexeme_valid kind.Name bytes spelled range = spelled
lexeme_valid (kind.Number value) bytes spelled range = range
lexeme_valid (kind.Word w) bytes spelled range = tt
lexeme_valid (kind.Sign s) bytes spelled range = tt

-- and each of them is valid
pub cut_valid : (at : ℕ) (text : List ℕ) (pieces : List Piece) → IsCut text pieces [] → AllByRecursion (λ t. IsInRange t.kind) (tokens_from at pieces) → AllByRecursion IsValid (lexemes_in pieces)
cut_valid at text [] cut range = tt
cut_valid at text (Blank byte ∷ pieces) cut range = cut_valid (at + 1) cut.0 pieces cut.2 range
cut_valid at text (Comment remark ∷ pieces) cut range = cut_valid (at + length (bytes_of (Comment remark))) cut.0 pieces cut.2 range
cut_valid at text (TokenText k bytes ∷ pieces) cut range = (lexeme_valid k bytes cut.1.begins.spelled range.0, cut_valid (at + length bytes) cut.0 pieces cut.2 range.1)

-- ---- marks that stand apart

-- a sign that stands between spaces
abbrev pub is_operator : Sign → Bool
is_operator sign.OpenBrace = false
is_operator sign.CloseBrace = false
is_operator sign.OpenParen = false
is_operator sign.CloseParen = false
is_operator sign.OpenBracket = false
is_operator sign.CloseBracket = false
is_operator sign.Colon = false
is_operator sign.Semicolon = false
is_operator sign.Comma = false
is_operator sign.Dot = false
is_operator sign.Not = false
is_operator other = true

-- these may stand right behind a sign
abbrev pub behind_sign : Marks → Bool
behind_sign (Token (SignOf s) ∷ more) = not (is_operator s)
behind_sign other = true

-- these may stand right behind a word, a name or a number, and behind a sign
abbrev pub behind_word : Marks → Bool
behind_word [] = true
behind_word (Token (NameOf bytes) ∷ more) = false
behind_word (Token (NumberOf value) ∷ more) = false
behind_word (Token (WordOf w) ∷ more) = false
behind_word (Token (SignOf s) ∷ more) = not (is_operator s)
behind_word (Space ∷ more) = true
behind_word (Line depth ∷ more) = true

-- what may stand right behind a lexeme
abbrev pub may_follow : Lexeme → Marks → Bool
may_follow (NameOf bytes) more = behind_word more
may_follow (NumberOf value) more = behind_word more
may_follow (WordOf w) more = behind_word more
may_follow (SignOf s) more = behind_sign more

-- each token is valid, and what stands right behind it can't continue it
abbrev pub StandApart : Marks → Type 0
StandApart [] = Unit {0}
StandApart (Token l ∷ more) = (IsValid l × (may_follow l more ≡ true)) × StandApart more
StandApart (Space ∷ more) = StandApart more
StandApart (Line depth ∷ more) = StandApart more

pub begin_where_end : (marks : Marks) → behind_word marks ≡ true → behind_sign marks ≡ true
begin_where_end [] e = refl
begin_where_end (Token (NameOf bytes) ∷ more) e = refl
begin_where_end (Token (NumberOf value) ∷ more) e = refl
begin_where_end (Token (WordOf w) ∷ more) e = refl
begin_where_end (Token (SignOf s) ∷ more) e = e
begin_where_end (Space ∷ more) e = refl
begin_where_end (Line depth ∷ more) e = refl

sign_ends_name : (s : Sign) (rest : List ℕ) → EndsName (sign_text s ++ rest)
sign_ends_name sign.OpenBrace rest = refl
sign_ends_name sign.CloseBrace rest = refl
sign_ends_name sign.OpenParen rest = refl
sign_ends_name sign.CloseParen rest = refl
sign_ends_name sign.OpenBracket rest = refl
sign_ends_name sign.CloseBracket rest = refl
sign_ends_name sign.Colon rest = refl
sign_ends_name sign.Semicolon rest = refl
sign_ends_name sign.Comma rest = refl
sign_ends_name sign.Dot rest = refl
sign_ends_name sign.Assign rest = refl
sign_ends_name sign.Equal rest = refl
sign_ends_name sign.NotEqual rest = refl
sign_ends_name sign.Less rest = refl
sign_ends_name sign.LessEqual rest = refl
sign_ends_name sign.Greater rest = refl
sign_ends_name sign.GreaterEqual rest = refl
sign_ends_name sign.Plus rest = refl
sign_ends_name sign.Minus rest = refl
sign_ends_name sign.Star rest = refl
sign_ends_name sign.Slash rest = refl
sign_ends_name sign.Percent rest = refl
sign_ends_name sign.And rest = refl
sign_ends_name sign.Or rest = refl
sign_ends_name sign.Not rest = refl
sign_ends_name sign.Arrow rest = refl

sign_ends_sign : (s : Sign) (rest : List ℕ) → not (is_operator s) ≡ true → EndsSign (sign_text s ++ rest)
sign_ends_sign sign.OpenBrace rest e = refl
sign_ends_sign sign.CloseBrace rest e = refl
sign_ends_sign sign.OpenParen rest e = refl
sign_ends_sign sign.CloseParen rest e = refl
sign_ends_sign sign.OpenBracket rest e = refl
sign_ends_sign sign.CloseBracket rest e = refl
sign_ends_sign sign.Colon rest e = refl
sign_ends_sign sign.Semicolon rest e = refl
sign_ends_sign sign.Comma rest e = refl
sign_ends_sign sign.Dot rest e = refl
sign_ends_sign sign.Assign rest e = absurd cc
sign_ends_sign sign.Equal rest e = absurd cc
sign_ends_sign sign.NotEqual rest e = absurd cc
sign_ends_sign sign.Less rest e = absurd cc
sign_ends_sign sign.LessEqual rest e = absurd cc
sign_ends_sign sign.Greater rest e = absurd cc
sign_ends_sign sign.GreaterEqual rest e = absurd cc
sign_ends_sign sign.Plus rest e = absurd cc
sign_ends_sign sign.Minus rest e = absurd cc
sign_ends_sign sign.Star rest e = absurd cc
sign_ends_sign sign.Slash rest e = absurd cc
sign_ends_sign sign.Percent rest e = absurd cc
sign_ends_sign sign.And rest e = absurd cc
sign_ends_sign sign.Or rest e = absurd cc
sign_ends_sign sign.Not rest e = refl
sign_ends_sign sign.Arrow rest e = absurd cc

start_extends : (b : ℕ) → is_name_start b ≡ true → may_extend b ≡ true → ⊥
start_extends b h g = grind (arith, nat_tests)

digit_extends : (b : ℕ) → is_ascii_digit b ≡ true → may_extend b ≡ true → ⊥
digit_extends b h g = grind (arith, nat_tests)

false_from : (b : Bool) → (b ≡ true → ⊥) → b ≡ false
false_from true h = absurd (h refl)
false_from false h = refl

start_extends_none : (b : ℕ) → is_name_start b ≡ true → may_extend b ≡ false
start_extends_none b h = false_from (may_extend b) (start_extends b h)

digit_extends_none : (b : ℕ) → is_ascii_digit b ≡ true → may_extend b ≡ false
digit_extends_none b h = false_from (may_extend b) (digit_extends b h)

identifier_ends_sign : (bytes rest : List ℕ) → IsIdentifier bytes → EndsSign (bytes ++ rest)
identifier_ends_sign [] rest h = absurd h
identifier_ends_sign (b ∷ bytes) rest h = start_extends_none b h.0

digits_end_sign : (bytes rest : List ℕ) → is_numeral bytes ≡ true → EndsSign (bytes ++ rest)
digits_end_sign [] rest h = absurd cc
digits_end_sign (b ∷ bytes) rest h = digit_extends_none b (and_parts (is_ascii_digit b) (list_all is_ascii_digit bytes) h).0

name_ends : (marks : Marks) → behind_word marks ≡ true → EndsName (text_of marks)
name_ends [] e = tt
name_ends (Token (NameOf bytes) ∷ more) e = absurd cc
name_ends (Token (NumberOf value) ∷ more) e = absurd cc
name_ends (Token (WordOf w) ∷ more) e = absurd cc
name_ends (Token (SignOf s) ∷ more) e = sign_ends_name s (text_of more)
name_ends (Space ∷ more) e = refl
name_ends (Line depth ∷ more) e = refl

sign_ends : LexemesBeginApart → (marks : Marks) → StandApart marks → behind_sign marks ≡ true → EndsSign (text_of marks)
sign_ends laws [] apart b = tt
sign_ends laws (Token (NameOf bytes) ∷ more) apart b = identifier_ends_sign bytes (text_of more) apart.0.0.identifier
sign_ends laws (Token (NumberOf value) ∷ more) apart b = digits_end_sign (decimal value) (text_of more) (decimal_numeral value apart.0.0)
sign_ends laws (Token (WordOf w) ∷ more) apart b = identifier_ends_sign (word_text w) (text_of more) (laws.word w)
sign_ends laws (Token (SignOf s) ∷ more) apart b = sign_ends_sign s (text_of more) b
sign_ends laws (Space ∷ more) apart b = refl
sign_ends laws (Line depth ∷ more) apart b = refl

-- ---- the pieces of marks

abbrev pub kind_of : Lexeme → Kind
kind_of (NameOf bytes) = kind.Name
kind_of (NumberOf value) = kind.Number value
kind_of (WordOf w) = kind.Word w
kind_of (SignOf s) = kind.Sign s

abbrev pub indent_pieces : ℕ → List Piece
indent_pieces zero = []
indent_pieces (suc depth) = Blank 32 ∷ Blank 32 ∷ indent_pieces depth

abbrev pub pieces_of : Marks → List Piece
pieces_of [] = []
pieces_of (Token l ∷ more) = TokenText (kind_of l) (lexeme_text l) ∷ pieces_of more
pieces_of (Space ∷ more) = Blank 32 ∷ pieces_of more
pieces_of (Line depth ∷ more) = Blank 10 ∷ (indent_pieces depth ++ pieces_of more)

-- the tokens that marks show
abbrev pub tokens_in : Marks → List Lexeme
tokens_in [] = []
tokens_in (Token l ∷ more) = l ∷ tokens_in more
tokens_in (Space ∷ more) = tokens_in more
tokens_in (Line depth ∷ more) = tokens_in more

blank_begins : LexemesBeginApart → (b : ℕ) (rest : List ℕ) → is_blank b ≡ true → BeginsLongest (b ∷ rest) (Blank b) rest
blank_begins laws b rest is = record { begins = record { spelled = is; whole = refl }; longest = blank_longest laws b rest is }

indent_cut : LexemesBeginApart → (depth : ℕ) (text : List ℕ) (pieces : List Piece) → IsCut text pieces [] → IsCut (indent depth ++ text) (indent_pieces depth ++ pieces) []
indent_cut laws zero text pieces cut = cut
indent_cut laws (suc depth) text pieces cut = (
  32 ∷ (indent depth ++ text),
  blank_begins laws 32 (32 ∷ (indent depth ++ text)) refl,
  (indent depth ++ text, blank_begins laws 32 (indent depth ++ text) refl, indent_cut laws depth text pieces cut),
)

token_begins : LexemesBeginApart → (l : Lexeme) (more : Marks) → IsValid l → may_follow l more ≡ true → StandApart more → BeginsLongest (lexeme_text l ++ text_of more) (TokenText (kind_of l) (lexeme_text l)) (text_of more)
token_begins laws (NameOf bytes) more valid follows apart = record {
  begins = record { spelled = valid; whole = refl };
  longest = name_longest laws bytes (text_of more) valid.identifier (name_ends more follows);
}
token_begins laws (NumberOf value) more valid follows apart = record {
  begins = record { spelled = (decimal_numeral value valid, decimal_value value valid); whole = refl };
  longest = number_longest laws (decimal value) (text_of more) (decimal_numeral value valid) (name_ends more follows);
}
token_begins laws (WordOf w) more valid follows apart = record {
  begins = record { spelled = refl; whole = refl };
  longest = name_longest laws (word_text w) (text_of more) (laws.word w) (name_ends more follows);
}
token_begins laws (SignOf s) more valid follows apart = record {
  begins = record { spelled = refl; whole = refl };
  longest = sign_longest laws s (text_of more) (sign_ends laws more apart follows);
}

-- the text of marks that stand apart is cut into their pieces
pub marks_cut : LexemesBeginApart → (marks : Marks) → StandApart marks → IsCut (text_of marks) (pieces_of marks) []
marks_cut laws [] apart = refl
marks_cut laws (Token l ∷ more) apart = (text_of more, token_begins laws l more apart.0.0 apart.0.1 apart.1, marks_cut laws more apart.1)
marks_cut laws (Space ∷ more) apart = (text_of more, blank_begins laws 32 (text_of more) refl, marks_cut laws more apart)
marks_cut laws (Line depth ∷ more) apart =
    (indent depth ++ text_of more, blank_begins laws 10 (indent depth ++ text_of more) refl, indent_cut laws depth (text_of more) (pieces_of more) (marks_cut laws more apart))

-- their lexemes are those of the marks
lexeme_is : (l : Lexeme) → lexeme (kind_of l) (lexeme_text l) ≡ l
lexeme_is (NameOf bytes) = refl
lexeme_is (NumberOf value) = refl
lexeme_is (WordOf w) = refl
lexeme_is (SignOf s) = refl

indent_lexemes : (depth : ℕ) (pieces : List Piece) → lexemes_in (indent_pieces depth ++ pieces) ≡ lexemes_in pieces
indent_lexemes zero pieces = refl
indent_lexemes (suc depth) pieces = indent_lexemes depth pieces

pub marks_lexemes : (marks : Marks) → lexemes_in (pieces_of marks) ≡ tokens_in marks
marks_lexemes [] = refl
marks_lexemes (Token l ∷ more) = ap (λ x. x ∷ lexemes_in (pieces_of more)) (lexeme_is l) ∙ ap (λ ls. l ∷ ls) (marks_lexemes more)
marks_lexemes (Space ∷ more) = marks_lexemes more
marks_lexemes (Line depth ∷ more) = indent_lexemes depth (pieces_of more) ∙ marks_lexemes more

kind_in_range : (l : Lexeme) → IsValid l → IsInRange (kind_of l)
kind_in_range (NameOf bytes) valid = tt
kind_in_range (NumberOf value) valid = valid
kind_in_range (WordOf w) valid = tt
kind_in_range (SignOf s) valid = tt

abbrev AreInRange : ℕ → List Piece → Type 0
AreInRange at pieces = AllByRecursion (λ t. IsInRange t.kind) (tokens_from at pieces)

indent_in_range : (depth : ℕ) (pieces : List Piece) → ((at : ℕ) → AreInRange at pieces) → (at : ℕ) → AreInRange at (indent_pieces depth ++ pieces)
indent_in_range zero pieces are at = are at
indent_in_range (suc depth) pieces are at = indent_in_range depth pieces are ((at + 1) + 1)

pub marks_in_range : (marks : Marks) → StandApart marks → (at : ℕ) → AllByRecursion (λ t. IsInRange t.kind) (tokens_from at (pieces_of marks))
marks_in_range [] apart at = tt
marks_in_range (Token l ∷ more) apart at = (kind_in_range l apart.0.0, marks_in_range more apart.1 (at + length (lexeme_text l)))
marks_in_range (Space ∷ more) apart at = marks_in_range more apart (at + 1)
marks_in_range (Line depth ∷ more) apart at = indent_in_range depth (pieces_of more) (marks_in_range more apart) (at + 1)
