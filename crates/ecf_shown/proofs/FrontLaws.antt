-- Each token of a canonical text is the longest piece at its place, and so is each blank.
use Rattle.std.proofs.Common.{◌≡◌, ℕ, ◌≤◌, ◌==◌, ◌||◌, Bool, true, false, List, [], ◌∷◌, ◌++◌, length, refl, sym, ap, subst, ◌∙◌, arith, inl, inr, ◌⊎◌}
use Rattle.std.specs.List.{list_all}
use Rattle.std.specs.Char.{is_ascii_digit}
use Rattle.std.proofs.lemmas.Bool.Decides.{nat_tests}
use Rattle.ecf_decimal.specs.Decimal.{is_numeral}
use Rattle.ecf_grammar.specs.declared.tokens.Kind.{Kind}
use Rattle.ecf_grammar.specs.declared.tokens.Kind.TheVariants as kind
use Rattle.ecf_grammar.specs.declared.tokens.Sign.{Sign}
use Rattle.ecf_grammar.specs.declared.tokens.Sign.TheVariants as sign
use Rattle.ecf_grammar.specs.Spelling.{sign_text, is_name_start, is_name_byte, is_blank, IsIdentifier, IsLexeme}
use Rattle.ecf_grammar.specs.Spellings.{LexemesBeginApart, IsSignText}
use Rattle.ecf_grammar.specs.Reading.{Piece, bytes_of, Begins}
use Rattle.ecf_grammar.specs.Reading.Piece.{Blank, Comment, TokenText}
use Rattle.ecf_shown.proofs.NumberLaws.{and_parts, and_both}

-- ---- what may stand behind a token

-- no byte of a name begins the text
abbrev pub EndsName : List ℕ → Type 0
EndsName [] = Unit {0}
EndsName (b ∷ rest) = is_name_byte b ≡ false

-- = > / & |
abbrev pub may_extend : ℕ → Bool
may_extend b = (b == 61 || b == 62) || (b == 47 || (b == 38 || b == 124))

-- no second byte of a sign or of a comment's slashes begins the text
abbrev pub EndsSign : List ℕ → Type 0
EndsSign [] = Unit {0}
EndsSign (b ∷ rest) = may_extend b ≡ false

-- ---- the first byte of a piece

lexeme_class : LexemesBeginApart → (k : Kind) (bytes : List ℕ) → IsLexeme k bytes → IsIdentifier bytes ⊎ ((is_numeral bytes ≡ true) ⊎ ((s : Sign) × (bytes ≡ sign_text s)))
lexeme_class apart kind.Name bytes h = inl h.identifier
lexeme_class apart (kind.Number v) bytes h = inr (inl h.0)
lexeme_class apart (kind.Word w) bytes h = inl (subst IsIdentifier (sym h) (apart.word w))
lexeme_class apart (kind.Sign s) bytes h = inr (inr (s, h))

identifier_head : (a : ℕ) (rest bytes behind : List ℕ) → a ∷ rest ≡ bytes ++ behind → IsIdentifier bytes → is_name_start a ≡ true
identifier_head a rest [] behind e h = absurd h
identifier_head a rest (b ∷ bs) behind e h = let same : b ≡ a = cc in subst (λ x. is_name_start x ≡ true) same h.0

digits_head : (a : ℕ) (rest bytes behind : List ℕ) → a ∷ rest ≡ bytes ++ behind → is_numeral bytes ≡ true → is_ascii_digit a ≡ true
digits_head a rest [] behind e h = absurd cc
digits_head a rest (b ∷ bs) behind e h = let same : b ≡ a = cc in subst (λ x. is_ascii_digit x ≡ true) same (and_parts (is_ascii_digit b) (list_all is_ascii_digit bs) h).0

record IsSignHead (a : ℕ) : Type 0 where
  no_name : is_name_start a ≡ false
  no_digit : is_ascii_digit a ≡ false
  no_blank : is_blank a ≡ false

sign_head : LexemesBeginApart → (a : ℕ) (rest bytes behind : List ℕ) (s : Sign) → a ∷ rest ≡ bytes ++ behind → bytes ≡ sign_text s → IsSignHead a
sign_head apart a rest bytes behind s e h =
    let shape = apart.sign s in
    let whole : a ∷ rest ≡ shape.first ∷ (shape.more ++ behind) = e ∙ ap (λ t. t ++ behind) (h ∙ shape.is) in
    let same : shape.first ≡ a = cc in
    record {
      no_name = subst (λ x. is_name_start x ≡ false) same shape.no_name;
      no_digit = subst (λ x. is_ascii_digit x ≡ false) same shape.no_digit;
      no_blank = subst (λ x. is_blank x ≡ false) same shape.no_blank;
    }

slash_first : (a : ℕ) (rest r behind : List ℕ) → a ∷ rest ≡ 47 ∷ 47 ∷ (r ++ behind) → a ≡ 47
slash_first a rest r behind e = cc

-- ---- runs of bytes

abbrev NoneAhead : (ℕ → Bool) → List ℕ → Type 0
NoneAhead p [] = Unit {0}
NoneAhead p (b ∷ rest) = p b ≡ false

-- a run of such bytes ends where others come
run_within : (p : ℕ → Bool) (ys behind bytes rest : List ℕ) → list_all p ys ≡ true → bytes ++ rest ≡ ys ++ behind → NoneAhead p rest → length ys ≤ length bytes
run_within p [] behind bytes rest are e none = omega arith
run_within p (y ∷ ys) behind [] [] are e none = absurd cc
run_within p (y ∷ ys) behind [] (b ∷ rest) are e none =
    let same : y ≡ b = cc in
    let is = subst (λ x. p x ≡ true) same (and_parts (p y) (list_all p ys) are).0 in
    absurd cc
run_within p (y ∷ ys) behind (b ∷ bytes) rest are e none =
    let more : bytes ++ rest ≡ ys ++ behind = cc in
    let within = run_within p ys behind bytes rest (and_parts (p y) (list_all p ys) are).1 more none in
    omega arith

start_is_byte : (b : ℕ) → is_name_start b ≡ true → is_name_byte b ≡ true
start_is_byte b h = grind (arith, nat_tests)

digit_is_byte : (b : ℕ) → is_ascii_digit b ≡ true → is_name_byte b ≡ true
digit_is_byte b h = grind (arith, nat_tests)

identifier_run : (bytes : List ℕ) → IsIdentifier bytes → list_all is_name_byte bytes ≡ true
identifier_run [] h = absurd h
identifier_run (b ∷ bs) h = and_both (is_name_byte b) (list_all is_name_byte bs) (start_is_byte b h.0) h.1

all_digits : (bytes : List ℕ) → is_numeral bytes ≡ true → list_all is_ascii_digit bytes ≡ true
all_digits [] h = refl
all_digits (b ∷ bs) h = h

digits_are_bytes : (bytes : List ℕ) → list_all is_ascii_digit bytes ≡ true → list_all is_name_byte bytes ≡ true
digits_are_bytes [] h = refl
digits_are_bytes (b ∷ bs) h =
    let parts = and_parts (is_ascii_digit b) (list_all is_ascii_digit bs) h in
    and_both (is_name_byte b) (list_all is_name_byte bs) (digit_is_byte b parts.0) (digits_are_bytes bs parts.1)

digits_run : (bytes : List ℕ) → is_numeral bytes ≡ true → list_all is_name_byte bytes ≡ true
digits_run bytes h = digits_are_bytes bytes (all_digits bytes h)

none_ahead : (rest : List ℕ) → EndsName rest → NoneAhead is_name_byte rest
none_ahead [] ends = tt
none_ahead (b ∷ rest) ends = ends

-- ---- the longest pieces

pub name_longest : LexemesBeginApart → (bytes rest : List ℕ) → IsIdentifier bytes → EndsName rest → (other : Piece) (behind : List ℕ) → Begins (bytes ++ rest) other behind → length (bytes_of other) ≤ length bytes
name_longest apart [] rest is ends other behind h = absurd is
name_longest apart (a ∷ more) rest is ends (Blank b) behind h = omega arith
name_longest apart (a ∷ more) rest is ends (Comment r) behind h =
    let no = subst (λ x. is_name_start x ≡ true) (slash_first a (more ++ rest) r behind h.whole) is.0 in absurd cc
name_longest apart (a ∷ more) rest is ends (TokenText k ys) behind h =
    elim (lexeme_class apart k ys h.spelled) [
      | inl name ↦ run_within is_name_byte ys behind (a ∷ more) rest (identifier_run ys name) h.whole (none_ahead rest ends)
      | inr (inl digits) ↦ run_within is_name_byte ys behind (a ∷ more) rest (digits_run ys digits) h.whole (none_ahead rest ends)
      | inr (inr signed) ↦ let no = (sign_head apart a (more ++ rest) ys behind signed.0 h.whole signed.1).no_name in let yes = is.0 in absurd cc
    ]

pub number_longest : LexemesBeginApart → (bytes rest : List ℕ) → is_numeral bytes ≡ true → EndsName rest → (other : Piece) (behind : List ℕ) → Begins (bytes ++ rest) other behind → length (bytes_of other) ≤ length bytes
number_longest apart [] rest is ends other behind h = absurd cc
number_longest apart (a ∷ more) rest is ends (Blank b) behind h = omega arith
number_longest apart (a ∷ more) rest is ends (Comment r) behind h =
    let digit = (and_parts (is_ascii_digit a) (list_all is_ascii_digit more) is).0 in
    let no = subst (λ x. is_ascii_digit x ≡ true) (slash_first a (more ++ rest) r behind h.whole) digit in absurd cc
number_longest apart (a ∷ more) rest is ends (TokenText k ys) behind h =
    let digit = (and_parts (is_ascii_digit a) (list_all is_ascii_digit more) is).0 in
    elim (lexeme_class apart k ys h.spelled) [
      | inl name ↦ run_within is_name_byte ys behind (a ∷ more) rest (identifier_run ys name) h.whole (none_ahead rest ends)
      | inr (inl digits) ↦ run_within is_name_byte ys behind (a ∷ more) rest (digits_run ys digits) h.whole (none_ahead rest ends)
      | inr (inr signed) ↦ let no = (sign_head apart a (more ++ rest) ys behind signed.0 h.whole signed.1).no_digit in absurd cc
    ]

pub blank_longest : LexemesBeginApart → (a : ℕ) (rest : List ℕ) → is_blank a ≡ true → (other : Piece) (behind : List ℕ) → Begins (a ∷ rest) other behind → length (bytes_of other) ≤ 1
blank_longest apart a rest blank (Blank b) behind h = omega arith
blank_longest apart a rest blank (Comment r) behind h = let no = subst (λ x. is_blank x ≡ true) (slash_first a rest r behind h.whole) blank in absurd cc
blank_longest apart a rest blank (TokenText k bytes) behind h =
    elim (lexeme_class apart k bytes h.spelled) [
      | inl name ↦ absurd (apart.name_or_blank a (identifier_head a rest bytes behind h.whole name) blank)
      | inr (inl digits) ↦ absurd (apart.digit_or_blank a (digits_head a rest bytes behind h.whole digits) blank)
      | inr (inr signed) ↦ let no = (sign_head apart a rest bytes behind signed.0 h.whole signed.1).no_blank in absurd cc
    ]

-- ---- signs

-- the second byte, if there is one, may extend another sign
abbrev second_extends : List ℕ → Bool
second_extends [] = true
second_extends (a ∷ []) = true
second_extends (a ∷ b ∷ more) = may_extend b

sign_second : (s : Sign) → second_extends (sign_text s) ≡ true
sign_second sign.OpenBrace = refl
sign_second sign.CloseBrace = refl
sign_second sign.OpenParen = refl
sign_second sign.CloseParen = refl
sign_second sign.OpenBracket = refl
sign_second sign.CloseBracket = refl
sign_second sign.Colon = refl
sign_second sign.Semicolon = refl
sign_second sign.Comma = refl
sign_second sign.Dot = refl
sign_second sign.Assign = refl
sign_second sign.Equal = refl
sign_second sign.NotEqual = refl
sign_second sign.Less = refl
sign_second sign.LessEqual = refl
sign_second sign.Greater = refl
sign_second sign.GreaterEqual = refl
sign_second sign.Plus = refl
sign_second sign.Minus = refl
sign_second sign.Star = refl
sign_second sign.Slash = refl
sign_second sign.Percent = refl
sign_second sign.And = refl
sign_second sign.Or = refl
sign_second sign.Not = refl
sign_second sign.Arrow = refl

-- behind one byte of a sign comes none that may extend it
sign_within : (a : ℕ) (rest ys behind : List ℕ) → second_extends ys ≡ true → length ys ≤ 2 → EndsSign rest → a ∷ rest ≡ ys ++ behind → length ys ≤ 1
sign_within a rest [] behind second short ends e = omega arith
sign_within a rest (y ∷ []) behind second short ends e = omega arith
sign_within a [] (y ∷ z ∷ ys) behind second short ends e = absurd cc
sign_within a (b ∷ rest) (y ∷ z ∷ ys) behind second short ends e =
    let same : z ≡ b = cc in
    let no = subst (λ x. may_extend x ≡ true) same second in
    absurd cc

sign_comment : (bytes rest r behind : List ℕ) → IsSignText bytes → EndsSign rest → bytes ++ rest ≡ 47 ∷ 47 ∷ (r ++ behind) → ⊥
sign_comment [] rest r behind shape ends e = let is = shape.is in absurd cc
sign_comment (a ∷ []) [] r behind shape ends e = absurd cc
sign_comment (a ∷ []) (b ∷ rest) r behind shape ends e =
    let same : b ≡ 47 = cc in
    let no = subst (λ x. may_extend x ≡ false) same ends in
    absurd cc
sign_comment (a ∷ b ∷ more) rest r behind shape ends e =
    let first : a ≡ 47 = cc in
    let second : b ≡ 47 = cc in
    shape.no_comment more (ap (λ x. x ∷ b ∷ more) first ∙ ap (λ x. 47 ∷ x ∷ more) second)

two_or_one : (bytes : List ℕ) → IsSignText bytes → (length bytes ≡ 2) ⊎ ((a : ℕ) × (bytes ≡ a ∷ []))
two_or_one [] shape = let is = shape.is in absurd cc
two_or_one (a ∷ []) shape = inr (a, refl)
two_or_one (a ∷ b ∷ []) shape = inl refl
two_or_one (a ∷ b ∷ d ∷ more) shape = let short = shape.short in absurd (omega arith)

sign_some : (bytes : List ℕ) → IsSignText bytes → 1 ≤ length bytes
sign_some bytes shape = omega (arith, ap length shape.is)

record IsSignStart (bytes : List ℕ) : Type 0 where
  first : ℕ
  more : List ℕ
  is : bytes ≡ first ∷ more
  head : IsSignHead first

sign_start : (bytes : List ℕ) → IsSignText bytes → IsSignStart bytes
sign_start bytes shape = record { first = shape.first; more = shape.more; is = shape.is; head = record { no_name = shape.no_name; no_digit = shape.no_digit; no_blank = shape.no_blank } }

pub sign_longest : LexemesBeginApart → (s : Sign) (rest : List ℕ) → EndsSign rest → (other : Piece) (behind : List ℕ) → Begins (sign_text s ++ rest) other behind → length (bytes_of other) ≤ length (sign_text s)
sign_longest apart s rest ends (Blank d) behind h = sign_some (sign_text s) (apart.sign s)
sign_longest apart s rest ends (Comment r) behind h = absurd (sign_comment (sign_text s) rest r behind (apart.sign s) ends h.whole)
sign_longest apart s rest ends (TokenText k ys) behind h =
    let start = sign_start (sign_text s) (apart.sign s) in
    let whole : start.first ∷ (start.more ++ rest) ≡ ys ++ behind = sym (ap (λ t. t ++ rest) start.is) ∙ h.whole in
    let no_name = start.head.no_name in
    let no_digit = start.head.no_digit in
    elim (lexeme_class apart k ys h.spelled) [
      | inl name ↦ let no = identifier_head start.first (start.more ++ rest) ys behind whole name in absurd cc
      | inr (inl digits) ↦ let no = digits_head start.first (start.more ++ rest) ys behind whole digits in absurd cc
      | inr (inr other) ↦
          let short : length ys ≤ 2 = omega (arith, ap length other.1, (apart.sign other.0).short) in
          elim (two_or_one (sign_text s) (apart.sign s)) [
            | inl two ↦ omega arith
            | inr one ↦
                let second : second_extends ys ≡ true = subst (λ t. second_extends t ≡ true) (sym other.1) (sign_second other.0) in
                let within = sign_within one.0 rest ys behind second short ends (sym (ap (λ t. t ++ rest) one.1) ∙ h.whole) in
                omega (arith, ap length one.1)
          ]
    ]
