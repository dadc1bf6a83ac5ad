-- The longest piece, for each way that a text may begin.
use Rattle.std.proofs.Common.{◌≡◌, ◌≢◌, ℕ, suc, zero, ◌+◌, ◌<◌, ◌≤◌, ◌==◌, ◌&&◌, not, Bool, true, false, List, [], ◌∷◌, ◌++◌, length, get_or, take, drop, refl, sym, ap, subst, ◌∙◌, arith, inl, inr, ◌⊎◌, nat_eq}
use Rattle.std.specs.Prelude.{codes, slice_get, Some}
use Rattle.std.proofs.lemmas.Bool.{cases_lt}
use Rattle.std.specs.List.{list_all, prefix_len, starts_with}
use Rattle.std.specs.Char.{is_ascii_digit}
use Rattle.std.proofs.lemmas.Bool.Decides.{nat_tests}
use Rattle.std.proofs.lemmas.List.{take_at, drop_at, take-append-drop, length-append, length-take, get_or-take}
use Rattle.std.proofs.lemmas.List.Sums.{list_all-from_AllPass, prefix_len_passes, prefix_len-le-length}
use Rattle.ecf_grammar.specs.declared.tokens.Kind.{Kind}
use Rattle.ecf_grammar.specs.declared.tokens.Kind.TheVariants as kind
use Rattle.ecf_grammar.specs.declared.tokens.Sign.{Sign}
use Rattle.ecf_decimal.specs.Decimal.{is_numeral, number_value}
use Rattle.ecf_grammar.specs.Spelling.{sign_text, is_name_start, is_name_byte, is_blank, IsIdentifier, IsLexeme}
use Rattle.ecf_grammar.specs.Spellings.{LexemesBeginApart}
use Rattle.ecf_grammar.specs.Readings.{PiecesHaveBytes}
use Rattle.ecf_grammar.specs.Reading.{Piece, bytes_of, IsPiece, Begins}
use Rattle.ecf_grammar.specs.Reading.Piece.{Blank, Comment, TokenText}
use Rattle.ecf_lexer.specs.Front.{IsGap, IsFront, BeginsNothing, BeginsNoPair}

and_parts : (a b : Bool) → (a && b) ≡ true → (a ≡ true) × (b ≡ true)
and_parts true b h = (refl, h)
and_parts false b h = absurd cc

-- ---- runs of bytes

run_passes : (p : ℕ → Bool) (xs : List ℕ) → list_all p (take (prefix_len p xs) xs) ≡ true
run_passes p xs =
    list_all-from_AllPass p (take (prefix_len p xs) xs)
    (λ k d h. let lt : k < prefix_len p xs = omega (arith, length-take (prefix_len p xs) xs) in
    subst (λ x. p x ≡ true) (sym (get_or-take (prefix_len p xs) xs k d lt)) (prefix_len_passes p xs k d lt))

run_longest : (p : ℕ → Bool) (ys behind : List ℕ) → list_all p ys ≡ true → length ys ≤ prefix_len p (ys ++ behind)
run_longest p [] behind h = omega arith
run_longest p (y ∷ ys) behind h =
    let both = and_parts (p y) (list_all p ys) h in
    let more = run_longest p ys behind both.1 in
    rw both.0 (omega arith)

run_some : (p : ℕ → Bool) (x : ℕ) (xs : List ℕ) → p x ≡ true → 1 ≤ prefix_len p (x ∷ xs)
run_some p x xs h = rw h (omega arith)

length_run : (p : ℕ → Bool) (xs : List ℕ) → length (take (prefix_len p xs) xs) ≡ prefix_len p xs
length_run p xs = omega (arith, length-take (prefix_len p xs) xs, prefix_len-le-length p xs)

-- ---- fronts

front_is : (text : List ℕ) (piece : Piece) (len : ℕ) (rest : List ℕ) → IsPiece piece → text ≡ bytes_of piece ++ rest → length (bytes_of piece) ≡ len
    → ((other : Piece) (behind : List ℕ) → Begins text other behind → length (bytes_of other) ≤ len) → IsFront text piece len
front_is text piece len rest spelled whole len_is longest =
    let rest_is : drop len text ≡ rest = ap (drop len) whole ∙ drop_at (bytes_of piece) rest len len_is in
    record {
      longest = record {
        begins = record { spelled = spelled; whole = whole ∙ ap (λ t. bytes_of piece ++ t) (sym rest_is) };
        longest = λ other behind b. subst (λ n. length (bytes_of other) ≤ n) (sym len_is) (longest other behind (record { spelled = b.spelled; whole = b.whole }));
      };
      len_is = len_is;
    }

-- a lexeme is an identifier, a numeral or a sign
lexeme_class : LexemesBeginApart → (k : Kind) (bytes : List ℕ) → IsLexeme k bytes → IsIdentifier bytes ⊎ ((is_numeral bytes ≡ true) ⊎ ((s : Sign) × (bytes ≡ sign_text s)))
lexeme_class apart kind.Name bytes h = inl h.identifier
lexeme_class apart (kind.Number v) bytes h = inr (inl h.0)
lexeme_class apart (kind.Word w) bytes h = inl (subst IsIdentifier (sym h) (apart.word w))
lexeme_class apart (kind.Sign s) bytes h = inr (inr (s, h))

identifier_head : (a : ℕ) (rest bytes behind : List ℕ) → a ∷ rest ≡ bytes ++ behind → IsIdentifier bytes → is_name_start a ≡ true
identifier_head a rest [] behind e h = absurd h
identifier_head a rest (b ∷ bs) behind e h = let same : b ≡ a = cc in subst (λ x. is_name_start x ≡ true) same h.0

digits_head : (a : ℕ) (rest bytes behind : List ℕ) → a ∷ rest ≡ bytes ++ behind → is_numeral bytes ≡ true → is_ascii_digit a ≡ true
digits_head a rest [] behind e h = absurd cc
digits_head a rest (b ∷ bs) behind e h = let same : b ≡ a = cc in subst (λ x. is_ascii_digit x ≡ true) same (and_parts (is_ascii_digit b) (list_all is_ascii_digit bs) h).0

-- a numeral has digits alone
all_digits : (bytes : List ℕ) → is_numeral bytes ≡ true → list_all is_ascii_digit bytes ≡ true
all_digits [] h = refl
all_digits (b ∷ bs) h = h

-- and digits are a numeral, where there are some
numeral_from : (bytes : List ℕ) → 1 ≤ length bytes → list_all is_ascii_digit bytes ≡ true → is_numeral bytes ≡ true
numeral_from [] some h = absurd (omega arith)
numeral_from (b ∷ bs) some h = h

record IsSignHead (a : ℕ) : Type 0 where
  no_name : is_name_start a ≡ false
  no_digit : is_ascii_digit a ≡ false
  no_blank : is_blank a ≡ false

sign_head : LexemesBeginApart → (a : ℕ) (rest bytes behind : List ℕ) (s : Sign) → a ∷ rest ≡ bytes ++ behind → bytes ≡ sign_text s → IsSignHead a
sign_head apart a rest bytes behind s e h =
    let shape = apart.sign s in
    let whole : a ∷ rest ≡ shape.first ∷ (shape.more ++ behind) = e ∙ ap (λ t. t ++ behind) (h ∙ shape.is) in
    let same : shape.first ≡ a = cc in
    record {
      no_name = subst (λ x. is_name_start x ≡ false) same shape.no_name;
      no_digit = subst (λ x. is_ascii_digit x ≡ false) same shape.no_digit;
      no_blank = subst (λ x. is_blank x ≡ false) same shape.no_blank;
    }

sign_short : LexemesBeginApart → (bytes : List ℕ) (s : Sign) → bytes ≡ sign_text s → length bytes ≤ 2
sign_short apart bytes s h = omega (arith, ap length h, (apart.sign s).short)

-- ---- a comment

abbrev not_lf : ℕ → Bool
not_lf byte = not (byte == 10)

slashes : (text : List ℕ) → starts_with nat_eq text (codes "//") ≡ true → (rest : List ℕ) × (text ≡ 47 ∷ 47 ∷ rest)
slashes [] h = absurd cc
slashes (a ∷ []) h = let no = (and_parts (nat_eq 47 a) false h).1 in absurd cc
slashes (a ∷ b ∷ rest) h = (rest, grind (arith, nat_tests))

comment_longest : LexemesBeginApart → (rest : List ℕ) (other : Piece) (behind : List ℕ) → Begins (47 ∷ 47 ∷ rest) other behind → length (bytes_of other) ≤ 1 + (1 + prefix_len not_lf rest)
comment_longest apart rest (Blank b) behind h = omega arith
comment_longest apart rest (Comment r) behind h =
    let whole = h.whole in
    let more : rest ≡ r ++ behind = cc in
    let run : length r ≤ prefix_len not_lf rest = subst (λ t. length r ≤ prefix_len not_lf t) (sym more) (run_longest not_lf r behind h.spelled) in
    omega arith
comment_longest apart rest (TokenText k bytes) behind h =
    elim (lexeme_class apart k bytes h.spelled) [
      | inl name ↦ let no = identifier_head 47 (47 ∷ rest) bytes behind h.whole name in absurd cc
      | inr (inl digits) ↦ let no = digits_head 47 (47 ∷ rest) bytes behind h.whole digits in absurd cc
      | inr (inr sign) ↦ omega (arith, sign_short apart bytes sign.0 sign.1)
    ]

comment_at : LexemesBeginApart → (rest : List ℕ) → IsFront (47 ∷ 47 ∷ rest) (Comment (take (prefix_len not_lf rest) rest)) (1 + (1 + prefix_len not_lf rest))
comment_at apart rest =
    let n = prefix_len not_lf rest in
    front_is (47 ∷ 47 ∷ rest) (Comment (take n rest)) (1 + (1 + n)) (drop n rest) (run_passes not_lf rest)
    (ap (λ t. 47 ∷ 47 ∷ t) (sym (take-append-drop n rest))) (omega (arith, length_run not_lf rest)) (comment_longest apart rest)

pub comment_front : LexemesBeginApart → (text : List ℕ) → starts_with nat_eq text (codes "//") ≡ true → (piece : Piece) × IsGap piece × IsFront text piece (prefix_len (λ byte. not (byte == 10)) text)
comment_front apart text h =
    let parts = slashes text h in
    subst (λ t. (piece : Piece) × IsGap piece × IsFront t piece (prefix_len not_lf t)) (sym parts.1)
    (Comment (take (prefix_len not_lf parts.0) parts.0), tt, comment_at apart parts.0)

-- ---- a blank

slash_first : (a : ℕ) (rest r behind : List ℕ) → a ∷ rest ≡ 47 ∷ 47 ∷ (r ++ behind) → a ≡ 47
slash_first a rest r behind e = cc

blank_longest : LexemesBeginApart → (a : ℕ) (rest : List ℕ) → is_blank a ≡ true → (other : Piece) (behind : List ℕ) → Begins (a ∷ rest) other behind → length (bytes_of other) ≤ 1
blank_longest apart a rest blank (Blank b) behind h = omega arith
blank_longest apart a rest blank (Comment r) behind h = let no = subst (λ x. is_blank x ≡ true) (slash_first a rest r behind h.whole) blank in absurd cc
blank_longest apart a rest blank (TokenText k bytes) behind h =
    elim (lexeme_class apart k bytes h.spelled) [
      | inl name ↦ absurd (apart.name_or_blank a (identifier_head a rest bytes behind h.whole name) blank)
      | inr (inl digits) ↦ absurd (apart.digit_or_blank a (digits_head a rest bytes behind h.whole digits) blank)
      | inr (inr sign) ↦ let no = (sign_head apart a rest bytes behind sign.0 h.whole sign.1).no_blank in absurd cc
    ]

pub blank_front : LexemesBeginApart → (a : ℕ) (text : List ℕ) → 1 ≤ length text → a ≡ get_or text 0 0 → is_blank a ≡ true → (piece : Piece) × IsGap piece × IsFront text piece 1
blank_front apart a [] some is blank = absurd (omega arith)
blank_front apart a (b ∷ rest) some is blank =
    let here : is_blank b ≡ true = subst (λ x. is_blank x ≡ true) is blank in
    (Blank b, tt, front_is (b ∷ rest) (Blank b) 1 rest here refl refl (blank_longest apart b rest here))

-- ---- a name or word

start_is_byte : (b : ℕ) → is_name_start b ≡ true → is_name_byte b ≡ true
start_is_byte b h = grind (arith, nat_tests)

identifier_run : (bytes : List ℕ) → IsIdentifier bytes → list_all is_name_byte bytes ≡ true
identifier_run [] h = absurd h
identifier_run (b ∷ bs) h = rw (start_is_byte b h.0) h.1

name_longest : LexemesBeginApart → (a : ℕ) (rest : List ℕ) → is_name_start a ≡ true → (other : Piece) (behind : List ℕ) → Begins (a ∷ rest) other behind → length (bytes_of other) ≤ prefix_len is_name_byte (a ∷ rest)
name_longest apart a rest name (Blank b) behind h = run_some is_name_byte a rest (start_is_byte a name)
name_longest apart a rest name (Comment r) behind h = let no = subst (λ x. is_name_start x ≡ true) (slash_first a rest r behind h.whole) name in absurd cc
name_longest apart a rest name (TokenText k bytes) behind h =
    elim (lexeme_class apart k bytes h.spelled) [
      | inl other ↦ subst (λ t. length bytes ≤ prefix_len is_name_byte t) (sym h.whole) (run_longest is_name_byte bytes behind (identifier_run bytes other))
      | inr (inl digits) ↦ absurd (apart.name_or_digit a name (digits_head a rest bytes behind h.whole digits))
      | inr (inr sign) ↦ let no = (sign_head apart a rest bytes behind sign.0 h.whole sign.1).no_name in absurd cc
    ]

identifier_at : (a : ℕ) (rest : List ℕ) (n : ℕ) → 1 ≤ n → is_name_start a ≡ true → list_all is_name_byte (take n (a ∷ rest)) ≡ true → IsIdentifier (take n (a ∷ rest))
identifier_at a rest zero some name all = absurd (omega arith)
identifier_at a rest (suc n) some name all = (name, (and_parts (is_name_byte a) (list_all is_name_byte (take n rest)) all).1)

pub identifier_front : (text : List ℕ) → is_name_start (get_or text 0 0) ≡ true → IsIdentifier (take (prefix_len is_name_byte text) text)
identifier_front [] name = absurd cc
identifier_front (a ∷ rest) name =
    identifier_at a rest (prefix_len is_name_byte (a ∷ rest)) (run_some is_name_byte a rest (start_is_byte a name)) name (run_passes is_name_byte (a ∷ rest))

-- what a text begins with where its first bytes may stand in a name: a token of any kind that they spell
pub name_front : LexemesBeginApart → (text : List ℕ) (k : Kind) → is_name_start (get_or text 0 0) ≡ true → IsLexeme k (take (prefix_len is_name_byte text) text)
    → IsFront text (TokenText k (take (prefix_len is_name_byte text) text)) (prefix_len is_name_byte text)
name_front apart [] k name spelled = absurd cc
name_front apart (a ∷ rest) k name spelled =
    let n = prefix_len is_name_byte (a ∷ rest) in
    front_is (a ∷ rest) (TokenText k (take n (a ∷ rest))) n (drop n (a ∷ rest)) spelled (sym (take-append-drop n (a ∷ rest))) (length_run is_name_byte (a ∷ rest)) (name_longest apart a rest name)

-- ---- a number

digits_longest : LexemesBeginApart → (a : ℕ) (rest : List ℕ) → is_ascii_digit a ≡ true → (other : Piece) (behind : List ℕ) → Begins (a ∷ rest) other behind → length (bytes_of other) ≤ prefix_len is_ascii_digit (a ∷ rest)
digits_longest apart a rest digit (Blank b) behind h = run_some is_ascii_digit a rest digit
digits_longest apart a rest digit (Comment r) behind h = let no = subst (λ x. is_ascii_digit x ≡ true) (slash_first a rest r behind h.whole) digit in absurd cc
digits_longest apart a rest digit (TokenText k bytes) behind h =
    elim (lexeme_class apart k bytes h.spelled) [
      | inl name ↦ absurd (apart.name_or_digit a (identifier_head a rest bytes behind h.whole name) digit)
      | inr (inl digits) ↦ subst (λ t. length bytes ≤ prefix_len is_ascii_digit t) (sym h.whole) (run_longest is_ascii_digit bytes behind (all_digits bytes digits))
      | inr (inr sign) ↦ let no = (sign_head apart a rest bytes behind sign.0 h.whole sign.1).no_digit in absurd cc
    ]

-- the digits at the front are a numeral
pub digits_numeral : (text : List ℕ) → is_ascii_digit (get_or text 0 0) ≡ true → is_numeral (take (prefix_len is_ascii_digit text) text) ≡ true
digits_numeral [] digit = absurd cc
digits_numeral (a ∷ rest) digit =
    let len = length_run is_ascii_digit (a ∷ rest) in
    let some : 1 ≤ prefix_len is_ascii_digit (a ∷ rest) = run_some is_ascii_digit a rest digit in
    numeral_from (take (prefix_len is_ascii_digit (a ∷ rest)) (a ∷ rest)) (omega arith) (run_passes is_ascii_digit (a ∷ rest))

pub number_front : LexemesBeginApart → (text : List ℕ) (value : ℕ) → is_ascii_digit (get_or text 0 0) ≡ true → number_value (take (prefix_len is_ascii_digit text) text) ≡ value
    → IsFront text (TokenText (kind.Number value) (take (prefix_len is_ascii_digit text) text)) (prefix_len is_ascii_digit text)
number_front apart [] value digit is = absurd cc
number_front apart (a ∷ rest) value digit is =
    let n = prefix_len is_ascii_digit (a ∷ rest) in
    let len = length_run is_ascii_digit (a ∷ rest) in
    let digits = digits_numeral (a ∷ rest) digit in
    front_is (a ∷ rest) (TokenText (kind.Number value) (take n (a ∷ rest))) n (drop n (a ∷ rest)) (digits, is) (sym (take-append-drop n (a ∷ rest))) len (digits_longest apart a rest digit)

-- ---- a sign

sign_pair_longest : LexemesBeginApart → (a b : ℕ) (rest : List ℕ) (s : Sign) → sign_text s ≡ a ∷ b ∷ [] → (other : Piece) (behind : List ℕ) → Begins (a ∷ b ∷ rest) other behind → length (bytes_of other) ≤ 2
sign_pair_longest apart a b rest s is (Blank d) behind h = omega arith
sign_pair_longest apart a b rest s is (Comment r) behind h =
    let whole = h.whole in
    let first : a ≡ 47 = cc in
    let second : b ≡ 47 = cc in
    absurd ((apart.sign s).no_comment [] (is ∙ ap (λ x. x ∷ b ∷ []) first ∙ ap (λ x. 47 ∷ x ∷ []) second))
sign_pair_longest apart a b rest s is (TokenText k bytes) behind h =
    let head = sign_head apart a (b ∷ rest) (a ∷ b ∷ []) rest s refl (sym is) in
    let no_name = head.no_name in
    let no_digit = head.no_digit in
    elim (lexeme_class apart k bytes h.spelled) [
      | inl name ↦ let no = identifier_head a (b ∷ rest) bytes behind h.whole name in absurd cc
      | inr (inl digits) ↦ let no = digits_head a (b ∷ rest) bytes behind h.whole digits in absurd cc
      | inr (inr sign) ↦ omega (arith, sign_short apart bytes sign.0 sign.1)
    ]

pub sign_pair_front : LexemesBeginApart → (text : List ℕ) (s : Sign) → 2 ≤ length text → sign_text s ≡ take 2 text → (bytes : List ℕ) × Unit {0} × IsFront text (TokenText (kind.Sign s) bytes) 2
sign_pair_front apart [] s some is = absurd (omega arith)
sign_pair_front apart (a ∷ []) s some is = absurd (omega arith)
sign_pair_front apart (a ∷ b ∷ rest) s some is = (a ∷ b ∷ [], tt, front_is (a ∷ b ∷ rest) (TokenText (kind.Sign s) (a ∷ b ∷ [])) 2 rest (sym is) refl refl (sign_pair_longest apart a b rest s is))

begun_by : (text bytes behind : List ℕ) (s : Sign) (n : ℕ) → text ≡ bytes ++ behind → bytes ≡ sign_text s → length bytes ≡ n → sign_text s ≡ take n text
begun_by text bytes behind s n whole is len = sym is ∙ sym (ap (take n) whole ∙ take_at bytes behind n len)

no_pair_short : LexemesBeginApart → (text bytes behind : List ℕ) (s : Sign) → BeginsNoPair text → text ≡ bytes ++ behind → bytes ≡ sign_text s → length bytes ≤ 1
no_pair_short apart text bytes behind s none whole is =
    elim (cases_lt 1 (length bytes)) [
      | inr le ↦ le
      | inl lt ↦
          let two : length bytes ≡ 2 = omega (arith, sign_short apart bytes s is) in
          absurd (none s (omega (arith, ap length whole, length-append bytes behind)) (begun_by text bytes behind s 2 whole is two))
    ]

no_comment_begins : (text r behind : List ℕ) → starts_with nat_eq text (codes "//") ≡ false → text ≡ 47 ∷ 47 ∷ (r ++ behind) → ⊥
no_comment_begins text r behind h e = let no = subst (λ t. starts_with nat_eq t (codes "//") ≡ false) e h in absurd cc

sign_longest : LexemesBeginApart → (a : ℕ) (rest : List ℕ) (s : Sign) → sign_text s ≡ a ∷ [] → BeginsNoPair (a ∷ rest) → starts_with nat_eq (a ∷ rest) (codes "//") ≡ false
    → (other : Piece) (behind : List ℕ) → Begins (a ∷ rest) other behind → length (bytes_of other) ≤ 1
sign_longest apart a rest s is none comment (Blank d) behind h = omega arith
sign_longest apart a rest s is none comment (Comment r) behind h = absurd (no_comment_begins (a ∷ rest) r behind comment h.whole)
sign_longest apart a rest s is none comment (TokenText k bytes) behind h =
    let head = sign_head apart a rest (a ∷ []) rest s refl (sym is) in
    let no_name = head.no_name in
    let no_digit = head.no_digit in
    elim (lexeme_class apart k bytes h.spelled) [
      | inl name ↦ let no = identifier_head a rest bytes behind h.whole name in absurd cc
      | inr (inl digits) ↦ let no = digits_head a rest bytes behind h.whole digits in absurd cc
      | inr (inr sign) ↦ no_pair_short apart (a ∷ rest) bytes behind sign.0 none h.whole sign.1
    ]

pub sign_front : LexemesBeginApart → (a : ℕ) (text : List ℕ) (s : Sign) → slice_get text 0 ≡ Some a → sign_text s ≡ a ∷ [] → BeginsNoPair text → starts_with nat_eq text (codes "//") ≡ false
    → (bytes : List ℕ) × Unit {0} × IsFront text (TokenText (kind.Sign s) bytes) 1
sign_front apart a [] s first is none comment = absurd cc
sign_front apart a (b ∷ rest) s first is none comment =
    let same : a ≡ b = cc in
    let here : sign_text s ≡ b ∷ [] = is ∙ ap (λ x. x ∷ []) same in
    (b ∷ [], tt, front_is (b ∷ rest) (TokenText (kind.Sign s) (b ∷ [])) 1 rest (sym here) refl refl (sign_longest apart b rest s here none comment))

-- ---- nothing

none_begins : PiecesHaveBytes → (p : Piece) (x : List ℕ) → Begins [] p x → ⊥
none_begins have_bytes p x h = let some = have_bytes p h.spelled in omega (arith, ap length h.whole, length-append (bytes_of p) x)

pub nothing_front : LexemesBeginApart → PiecesHaveBytes → (text : List ℕ) → starts_with nat_eq text (codes "//") ≡ false → is_blank (get_or text 0 0) ≡ false → is_name_start (get_or text 0 0) ≡ false
    → is_ascii_digit (get_or text 0 0) ≡ false → BeginsNoPair text → ((s : Sign) → sign_text s ≢ take 1 text) → BeginsNothing text
nothing_front apart have_bytes [] comment blank name digit pair single p behind h = none_begins have_bytes p behind h
nothing_front apart have_bytes (a ∷ rest) comment blank name digit pair single (Blank b) behind h =
    let whole = h.whole in
    let same : b ≡ a = cc in
    let no = subst (λ x. is_blank x ≡ true) same h.spelled in absurd cc
nothing_front apart have_bytes (a ∷ rest) comment blank name digit pair single (Comment r) behind h = no_comment_begins (a ∷ rest) r behind comment h.whole
nothing_front apart have_bytes (a ∷ rest) comment blank name digit pair single (TokenText k bytes) behind h =
    elim (lexeme_class apart k bytes h.spelled) [
      | inl other ↦ let no = identifier_head a rest bytes behind h.whole other in absurd cc
      | inr (inl digits) ↦ let no = digits_head a rest bytes behind h.whole digits in absurd cc
      | inr (inr sign) ↦
          let one : length bytes ≡ 1 = omega (arith, no_pair_short apart (a ∷ rest) bytes behind sign.0 pair h.whole sign.1, have_bytes (TokenText k bytes) h.spelled) in
          single sign.0 (begun_by (a ∷ rest) bytes behind sign.0 1 h.whole sign.1 one)
    ]

pub take_one : (text : List ℕ) (a : ℕ) → Some a ≡ slice_get text 0 → take 1 text ≡ a ∷ []
take_one [] a h = absurd cc
take_one (b ∷ rest) a h = let same : b ≡ a = cc in ap (λ x. x ∷ []) same
