-- What lexemes begin with, and that their bytes tell their kind.
use Rattle.std.proofs.Common.{◌≡◌, ◌≢◌, ℕ, ◌==◌, Bool, true, false, cond, ◌&&◌, List, [], ◌∷◌, Option, Some, None, refl, sym, ap, subst, ◌∙◌, arith}
use Rattle.std.specs.List.{list_all}
use Rattle.std.specs.Char.{is_ascii_digit}
use Rattle.std.proofs.lemmas.Bool.Decides.{nat_tests}
use Rattle.ecf_decimal.specs.Decimal.{is_numeral}
use Rattle.ecf_grammar.specs.declared.tokens.Kind.{Kind}
use Rattle.ecf_grammar.specs.declared.tokens.Kind.TheVariants as kind
use Rattle.ecf_grammar.specs.declared.tokens.Word.{Word}
use Rattle.ecf_grammar.specs.declared.tokens.Word.TheVariants as word
use Rattle.ecf_grammar.specs.declared.tokens.Sign.{Sign}
use Rattle.ecf_grammar.specs.declared.tokens.Sign.TheVariants as sign
use Rattle.ecf_grammar.specs.Spelling.{word_text, sign_text, is_name_start, is_blank, IsIdentifier, IsLexeme}
use Rattle.ecf_grammar.specs.Spellings.{IsSignText, LexemesBeginApart}

pub and_parts : (a b : Bool) → (a && b) ≡ true → (a ≡ true) × (b ≡ true)
and_parts true b h = (refl, h)
and_parts false b h = absurd cc

-- ---- a table's texts tell its entries apart

abbrev same : List ℕ → List ℕ → Bool
same [] [] = true
same [] (y ∷ ys) = false
same (x ∷ xs) [] = false
same (x ∷ xs) (y ∷ ys) = (x == y) && same xs ys

abbrev entry : {K : Type 0} → (K → List ℕ) → List K → List ℕ → Option K
entry text [] bytes = None
entry text (k ∷ ks) bytes = cond (same (text k) bytes) (Some k) (entry text ks bytes)

abbrev words : List Word
words = word.Object ∷ word.Num ∷ word.Flag ∷ word.Addr ∷ word.Map ∷ word.Method ∷ word.Let ∷ word.If ∷ word.Else ∷ word.While ∷ word.Return ∷ word.Revert ∷ word.Call ∷ word.SelfWord ∷ word.Here ∷ word.True ∷ word.False ∷ word.Try ∷ []

abbrev signs : List Sign
signs = sign.OpenBrace ∷ sign.CloseBrace ∷ sign.OpenParen ∷ sign.CloseParen ∷ sign.OpenBracket ∷ sign.CloseBracket ∷ sign.Colon ∷ sign.Semicolon ∷ sign.Comma ∷ sign.Dot ∷ sign.Assign ∷ sign.Equal ∷ sign.NotEqual ∷ sign.Less ∷ sign.LessEqual ∷ sign.Greater ∷ sign.GreaterEqual ∷ sign.Plus ∷ sign.Minus ∷ sign.Star ∷ sign.Slash ∷ sign.Percent ∷ sign.And ∷ sign.Or ∷ sign.Not ∷ sign.Arrow ∷ []

found_word : (w : Word) → entry word_text words (word_text w) ≡ Some w
found_word word.Object = refl
found_word word.Num = refl
found_word word.Flag = refl
found_word word.Addr = refl
found_word word.Map = refl
found_word word.Method = refl
found_word word.Let = refl
found_word word.If = refl
found_word word.Else = refl
found_word word.While = refl
found_word word.Return = refl
found_word word.Revert = refl
found_word word.Call = refl
found_word word.SelfWord = refl
found_word word.Here = refl
found_word word.True = refl
found_word word.False = refl
found_word word.Try = refl

found_sign : (s : Sign) → entry sign_text signs (sign_text s) ≡ Some s
found_sign sign.OpenBrace = refl
found_sign sign.CloseBrace = refl
found_sign sign.OpenParen = refl
found_sign sign.CloseParen = refl
found_sign sign.OpenBracket = refl
found_sign sign.CloseBracket = refl
found_sign sign.Colon = refl
found_sign sign.Semicolon = refl
found_sign sign.Comma = refl
found_sign sign.Dot = refl
found_sign sign.Assign = refl
found_sign sign.Equal = refl
found_sign sign.NotEqual = refl
found_sign sign.Less = refl
found_sign sign.LessEqual = refl
found_sign sign.Greater = refl
found_sign sign.GreaterEqual = refl
found_sign sign.Plus = refl
found_sign sign.Minus = refl
found_sign sign.Star = refl
found_sign sign.Slash = refl
found_sign sign.Percent = refl
found_sign sign.And = refl
found_sign sign.Or = refl
found_sign sign.Not = refl
found_sign sign.Arrow = refl

one_entry : {K : Type 0} (x y : K) → Some x ≡ Some y → x ≡ y
one_entry x y e = cc

pub same_word : (w v : Word) → word_text w ≡ word_text v → w ≡ v
same_word w v e = one_entry w v (sym (found_word w) ∙ ap (entry word_text words) e ∙ found_word v)

pub same_sign : (s r : Sign) → sign_text s ≡ sign_text r → s ≡ r
same_sign s r e = one_entry s r (sym (found_sign s) ∙ ap (entry sign_text signs) e ∙ found_sign r)

-- ---- what begins a lexeme

pub word_identifier : (w : Word) → IsIdentifier (word_text w)
word_identifier word.Object = (refl, refl)
word_identifier word.Num = (refl, refl)
word_identifier word.Flag = (refl, refl)
word_identifier word.Addr = (refl, refl)
word_identifier word.Map = (refl, refl)
word_identifier word.Method = (refl, refl)
word_identifier word.Let = (refl, refl)
word_identifier word.If = (refl, refl)
word_identifier word.Else = (refl, refl)
word_identifier word.While = (refl, refl)
word_identifier word.Return = (refl, refl)
word_identifier word.Revert = (refl, refl)
word_identifier word.Call = (refl, refl)
word_identifier word.SelfWord = (refl, refl)
word_identifier word.Here = (refl, refl)
word_identifier word.True = (refl, refl)
word_identifier word.False = (refl, refl)
word_identifier word.Try = (refl, refl)

one_byte : (b : ℕ) → is_name_start b ≡ false → is_ascii_digit b ≡ false → is_blank b ≡ false → IsSignText (b ∷ [])
one_byte b name digit blank = record { first = b; more = []; is = refl; no_name = name; no_digit = digit; no_blank = blank; no_comment = λ r e. absurd cc; short = omega arith }

two_bytes : (b d : ℕ) → is_name_start b ≡ false → is_ascii_digit b ≡ false → is_blank b ≡ false → (b == 47) ≡ false → IsSignText (b ∷ d ∷ [])
two_bytes b d name digit blank slash = record { first = b; more = d ∷ []; is = refl; no_name = name; no_digit = digit; no_blank = blank; no_comment = λ r e. grind (arith, nat_tests); short = omega arith }

pub sign_shape : (s : Sign) → IsSignText (sign_text s)
sign_shape sign.OpenBrace = one_byte _ refl refl refl
sign_shape sign.CloseBrace = one_byte _ refl refl refl
sign_shape sign.OpenParen = one_byte _ refl refl refl
sign_shape sign.CloseParen = one_byte _ refl refl refl
sign_shape sign.OpenBracket = one_byte _ refl refl refl
sign_shape sign.CloseBracket = one_byte _ refl refl refl
sign_shape sign.Colon = one_byte _ refl refl refl
sign_shape sign.Semicolon = one_byte _ refl refl refl
sign_shape sign.Comma = one_byte _ refl refl refl
sign_shape sign.Dot = one_byte _ refl refl refl
sign_shape sign.Assign = one_byte _ refl refl refl
sign_shape sign.Equal = two_bytes _ _ refl refl refl refl
sign_shape sign.NotEqual = two_bytes _ _ refl refl refl refl
sign_shape sign.Less = one_byte _ refl refl refl
sign_shape sign.LessEqual = two_bytes _ _ refl refl refl refl
sign_shape sign.Greater = one_byte _ refl refl refl
sign_shape sign.GreaterEqual = two_bytes _ _ refl refl refl refl
sign_shape sign.Plus = one_byte _ refl refl refl
sign_shape sign.Minus = one_byte _ refl refl refl
sign_shape sign.Star = one_byte _ refl refl refl
sign_shape sign.Slash = one_byte _ refl refl refl
sign_shape sign.Percent = one_byte _ refl refl refl
sign_shape sign.And = two_bytes _ _ refl refl refl refl
sign_shape sign.Or = two_bytes _ _ refl refl refl refl
sign_shape sign.Not = one_byte _ refl refl refl
sign_shape sign.Arrow = two_bytes _ _ refl refl refl refl

-- ---- a byte is of one class at most

pub digit_or_name : (b : ℕ) → is_name_start b ≡ true → is_ascii_digit b ≡ true → ⊥
digit_or_name b name digit = grind (arith, nat_tests)

pub blank_or_name : (b : ℕ) → is_name_start b ≡ true → is_blank b ≡ true → ⊥
blank_or_name b name blank = grind (arith, nat_tests)

pub blank_or_digit : (b : ℕ) → is_ascii_digit b ≡ true → is_blank b ≡ true → ⊥
blank_or_digit b digit blank = grind (arith, nat_tests)

-- ---- the bytes of a token tell its kind

first_digit : (b : ℕ) (bs : List ℕ) → is_numeral (b ∷ bs) ≡ true → is_ascii_digit b ≡ true
first_digit b bs h = (and_parts (is_ascii_digit b) (list_all is_ascii_digit bs) h).0

identifier_no_digits : (bytes : List ℕ) → IsIdentifier bytes → is_numeral bytes ≡ true → ⊥
identifier_no_digits [] h g = h
identifier_no_digits (b ∷ bs) h g = digit_or_name b h.0 (first_digit b bs g)

identifier_no_sign : (bytes : List ℕ) → IsIdentifier bytes → IsSignText bytes → ⊥
identifier_no_sign [] h g = h
identifier_no_sign (b ∷ bs) h g = let name = h.0 in let other = g.no_name in let is = g.is in absurd cc

digits_no_sign : (bytes : List ℕ) → is_numeral bytes ≡ true → IsSignText bytes → ⊥
digits_no_sign [] h g = absurd cc
digits_no_sign (b ∷ bs) h g = let digit = first_digit b bs h in let other = g.no_digit in let is = g.is in absurd cc

pub sign_text_of : (s : Sign) (bytes : List ℕ) → bytes ≡ sign_text s → IsSignText bytes
sign_text_of s bytes e = subst IsSignText (sym e) (sign_shape s)

pub word_text_of : (w : Word) (bytes : List ℕ) → bytes ≡ word_text w → IsIdentifier bytes
word_text_of w bytes e = subst IsIdentifier (sym e) (word_identifier w)

pub same_kind : (k j : Kind) (bytes : List ℕ) → IsLexeme k bytes → IsLexeme j bytes → k ≡ j
same_kind kind.Name kind.Name bytes h g = refl
same_kind kind.Name (kind.Number v) bytes h g = absurd (identifier_no_digits bytes h.identifier g.0)
same_kind kind.Name (kind.Word w) bytes h g = absurd (h.free w g)
same_kind kind.Name (kind.Sign s) bytes h g = absurd (identifier_no_sign bytes h.identifier (sign_text_of s bytes g))
same_kind (kind.Number v) kind.Name bytes h g = absurd (identifier_no_digits bytes g.identifier h.0)
same_kind (kind.Number v) (kind.Number u) bytes h g = ap (λ n. kind.Number n) (sym h.1 ∙ g.1)
same_kind (kind.Number v) (kind.Word w) bytes h g = absurd (identifier_no_digits bytes (word_text_of w bytes g) h.0)
same_kind (kind.Number v) (kind.Sign s) bytes h g = absurd (digits_no_sign bytes h.0 (sign_text_of s bytes g))
same_kind (kind.Word w) kind.Name bytes h g = absurd (g.free w h)
same_kind (kind.Word w) (kind.Number u) bytes h g = absurd (identifier_no_digits bytes (word_text_of w bytes h) g.0)
same_kind (kind.Word w) (kind.Word v) bytes h g = ap (λ x. kind.Word x) (same_word w v (sym h ∙ g))
same_kind (kind.Word w) (kind.Sign s) bytes h g = absurd (identifier_no_sign bytes (word_text_of w bytes h) (sign_text_of s bytes g))
same_kind (kind.Sign s) kind.Name bytes h g = absurd (identifier_no_sign bytes g.identifier (sign_text_of s bytes h))
same_kind (kind.Sign s) (kind.Number u) bytes h g = absurd (digits_no_sign bytes g.0 (sign_text_of s bytes h))
same_kind (kind.Sign s) (kind.Word w) bytes h g = absurd (identifier_no_sign bytes (word_text_of w bytes g) (sign_text_of s bytes h))
same_kind (kind.Sign s) (kind.Sign r) bytes h g = ap (λ x. kind.Sign x) (same_sign s r (sym h ∙ g))

-- ---- a token is no blank and no comment

-- what holds of a token's first byte
pub record IsTokenText (bytes : List ℕ) : Type 0 where
  pub first : ℕ
  pub more : List ℕ
  pub is : bytes ≡ first ∷ more
  pub no_blank : is_blank first ≡ false
  pub no_comment : (remark : List ℕ) → bytes ≢ 47 ∷ 47 ∷ remark

false_from : (b : Bool) → (b ≡ true → ⊥) → b ≡ false
false_from true h = absurd (h refl)
false_from false h = refl

slash_no_name : (remark : List ℕ) (b : ℕ) (bs : List ℕ) → is_name_start b ≡ true → b ∷ bs ≢ 47 ∷ 47 ∷ remark
slash_no_name remark b bs name e = grind (arith, nat_tests)

slash_no_digit : (remark : List ℕ) (b : ℕ) (bs : List ℕ) → is_ascii_digit b ≡ true → b ∷ bs ≢ 47 ∷ 47 ∷ remark
slash_no_digit remark b bs digit e = grind (arith, nat_tests)

identifier_text : (bytes : List ℕ) → IsIdentifier bytes → IsTokenText bytes
identifier_text [] h = absurd h
identifier_text (b ∷ bs) h = record { first = b; more = bs; is = refl; no_blank = false_from (is_blank b) (blank_or_name b h.0); no_comment = λ r. slash_no_name r b bs h.0 }

digits_text : (bytes : List ℕ) → is_numeral bytes ≡ true → IsTokenText bytes
digits_text [] h = absurd cc
digits_text (b ∷ bs) h = let digit = first_digit b bs h in
    record { first = b; more = bs; is = refl; no_blank = false_from (is_blank b) (blank_or_digit b digit); no_comment = λ r. slash_no_digit r b bs digit }

sign_token : (bytes : List ℕ) → IsSignText bytes → IsTokenText bytes
sign_token bytes h = record { first = h.first; more = h.more; is = h.is; no_blank = h.no_blank; no_comment = h.no_comment }

pub token_text : (k : Kind) (bytes : List ℕ) → IsLexeme k bytes → IsTokenText bytes
token_text kind.Name bytes h = identifier_text bytes h.identifier
token_text (kind.Number v) bytes h = digits_text bytes h.0
token_text (kind.Word w) bytes h = identifier_text bytes (word_text_of w bytes h)
token_text (kind.Sign s) bytes h = sign_token bytes (sign_text_of s bytes h)

pub lexemes_begin_apart : LexemesBeginApart
lexemes_begin_apart = record {
  name_or_digit = digit_or_name;
  name_or_blank = blank_or_name;
  digit_or_blank = blank_or_digit;
  word = word_identifier;
  sign = sign_shape;
}
