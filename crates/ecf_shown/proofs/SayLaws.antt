-- Marks say a form where their tokens spell it but for places, and where they stand apart.
use Rattle.std.proofs.Common.{◌≡◌, ℕ, ◌+◌, true, not, List, [], ◌∷◌, ◌++◌, refl, sym, ap, subst, ◌∙◌, append_assoc}
use Rattle.std.specs.List.{AllByRecursion}
use Rattle.ecf_grammar.specs.declared.tokens.Word.{Word}
use Rattle.ecf_grammar.specs.declared.tokens.Sign.{Sign}
use Rattle.ecf_grammar.specs.Spelling.{IsName}
use Rattle.ecf_grammar.specs.Lexemes.{Lexeme, NumberedLexemes, with_numbers}
use Rattle.ecf_grammar.specs.Lexemes.Lexeme.{NumberOf}
use Rattle.ecf_grammar.specs.Spells.{Is}
use Rattle.ecf_grammar.specs.Spells.Is.{is}
use Rattle.ecf_show.specs.Marks.{Marks, name_mark, number_mark, word_mark, sign_mark, spaced, enclosed}
use Rattle.ecf_show.specs.Marks.Mark.{Token, Space, Line}
use Rattle.ecf_shown.proofs.CutLaws.{IsValid, is_operator, behind_sign, behind_word, begin_where_end, StandApart, tokens_in}

-- ---- tokens with their numbers

-- a token with its number, and those behind it
abbrev pub token : ℕ → Lexeme → NumberedLexemes → NumberedLexemes
token at l more = (at, l) ∷ more

-- the tokens of marks with their numbers, from there on
abbrev pub numbered : ℕ → Marks → NumberedLexemes
numbered at [] = []
numbered at (Token l ∷ more) = (at, l) ∷ numbered (at + 1) more
numbered at (Space ∷ more) = numbered at more
numbered at (Line depth ∷ more) = numbered at more

-- the number of the token behind them
abbrev pub number_behind : ℕ → Marks → ℕ
number_behind at [] = at
number_behind at (Token l ∷ more) = number_behind (at + 1) more
number_behind at (Space ∷ more) = number_behind at more
number_behind at (Line depth ∷ more) = number_behind at more

pub numbered_append : (at : ℕ) (a b : Marks) → numbered at (a ++ b) ≡ numbered at a ++ numbered (number_behind at a) b
numbered_append at [] b = refl
numbered_append at (Token l ∷ a) b = ap (token at l) (numbered_append (at + 1) a b)
numbered_append at (Space ∷ a) b = numbered_append at a b
numbered_append at (Line depth ∷ a) b = numbered_append at a b

pub numbered_tokens : (at : ℕ) (marks : Marks) → numbered at marks ≡ with_numbers at (tokens_in marks)
numbered_tokens at [] = refl
numbered_tokens at (Token l ∷ more) = ap (token at l) (numbered_tokens (at + 1) more)
numbered_tokens at (Space ∷ more) = numbered_tokens at more
numbered_tokens at (Line depth ∷ more) = numbered_tokens at more

-- ---- valid lexemes

abbrev pub AreValid : NumberedLexemes → Type 0
AreValid = AllByRecursion (λ l. IsValid l.1)

pub numbers_valid : (at : ℕ) (ls : List Lexeme) → AllByRecursion IsValid ls → AreValid (with_numbers at ls)
numbers_valid at [] valid = tt
numbers_valid at (l ∷ ls) valid = (valid.0, numbers_valid (at + 1) ls valid.1)

pub front : (a b : NumberedLexemes) → AreValid (a ++ b) → AreValid a
front [] b valid = tt
front (l ∷ a) b valid = (valid.0, front a b valid.1)

pub behind : (a b : NumberedLexemes) → AreValid (a ++ b) → AreValid b
behind [] b valid = valid
behind (l ∷ a) b valid = behind a b valid.1

pub valid_of : {l : Lexeme} {a : NumberedLexemes} {at : ℕ} → Is l a at → AreValid a → IsValid l
valid_of (is at) valid = valid.0

-- ---- what stands apart from what comes behind

-- these stand apart from whatever may end a word, and may stand behind a sign
pub record Stands (marks : Marks) : Type 0 where
  pub before : (rest : Marks) → behind_word rest ≡ true → StandApart rest → StandApart (marks ++ rest) × (behind_sign (marks ++ rest) ≡ true)

-- and these may stand behind a word too
pub record Follows (marks : Marks) : Type 0 where
  pub before : (rest : Marks) → behind_word rest ≡ true → StandApart rest → StandApart (marks ++ rest) × (behind_word (marks ++ rest) ≡ true)

pub stands_then : {a b : Marks} → Stands a → Follows b → Stands (a ++ b)
stands_then {a} {b} first second = record {
  before = λ rest e apart.
      let more = second.before rest e apart in
      subst (λ ms. StandApart ms × (behind_sign ms ≡ true)) (sym (append_assoc a b rest)) (first.before (b ++ rest) more.1 more.0);
}

pub follows_then : {a b : Marks} → Follows a → Follows b → Follows (a ++ b)
follows_then {a} {b} first second = record {
  before = λ rest e apart.
      let more = second.before rest e apart in
      subst (λ ms. StandApart ms × (behind_word ms ≡ true)) (sym (append_assoc a b rest)) (first.before (b ++ rest) more.1 more.0);
}

pub follows_none : Follows []
follows_none = record { before = λ rest e apart. (apart, e) }

pub stands_where_follows : {a : Marks} → Follows a → Stands a
stands_where_follows {a} follows = record { before = λ rest e apart. let it = follows.before rest e apart in (it.0, begin_where_end (a ++ rest) it.1) }

pub follows_space : {a : Marks} → Stands a → Follows (Space ∷ a)
follows_space {a} stands = record { before = λ rest e apart. ((stands.before rest e apart).0, refl) }

pub follows_line : {a : Marks} (depth : ℕ) → Stands a → Follows (Line depth ∷ a)
follows_line {a} depth stands = record { before = λ rest e apart. ((stands.before rest e apart).0, refl) }

-- a sign that isn't an operator
pub follows_sign : {a : Marks} (s : Sign) → not (is_operator s) ≡ true → Stands a → Follows (sign_mark s ∷ a)
follows_sign {a} s inert stands = record { before = λ rest e apart. let it = stands.before rest e apart in (((tt, it.1), it.0), inert) }

pub follows_spaced : {a : Marks} (s : Sign) → Stands a → Follows (spaced s ++ a)
follows_spaced {a} s stands = record { before = λ rest e apart. (((tt, refl), (stands.before rest e apart).0), refl) }

pub stands_word : {a : Marks} (w : Word) → Follows a → Stands (word_mark w ∷ a)
stands_word {a} w follows = record { before = λ rest e apart. let it = follows.before rest e apart in (((tt, it.1), it.0), refl) }

pub stands_name : {a : Marks} (bytes : List ℕ) → IsName bytes → Follows a → Stands (name_mark bytes ∷ a)
stands_name {a} bytes valid follows = record { before = λ rest e apart. let it = follows.before rest e apart in (((valid, it.1), it.0), refl) }

pub stands_number : (value : ℕ) → IsValid (NumberOf value) → Stands (number_mark value ∷ [])
stands_number value valid = record { before = λ rest e apart. (((valid, e), apart), refl) }

pub stands_none : Stands []
stands_none = stands_where_follows follows_none

pub follows_enclosed : {a : Marks} (opening closing : Sign) → not (is_operator opening) ≡ true → not (is_operator closing) ≡ true → Stands a → Follows (enclosed opening a closing)
follows_enclosed opening closing no_first no_last stands = follows_sign opening no_first (stands_then stands (follows_sign closing no_last stands_none))

-- ---- what marks say

-- a form that is the same but for places is spelled by these lexemes
pub record SpellsLike {A : Type 0} (Spells : NumberedLexemes → A → Type 0) (without : A → A) (form : A) (lexemes : NumberedLexemes) : Type 0 where
  pub again : A
  pub spelled : Spells lexemes again
  pub alike : without again ≡ without form

-- marks that say a form
pub record Says {A : Type 0} (Spells : NumberedLexemes → A → Type 0) (without : A → A) (form : A) (marks : Marks) : Type 0 where
  pub stands : Stands marks
  pub tokens : (at : ℕ) → SpellsLike Spells without form (numbered at marks)

-- marks that go on with a form behind others
pub record GoesOn {A : Type 0} (Spells : NumberedLexemes → A → Type 0) (without : A → A) (form : A) (marks : Marks) : Type 0 where
  pub follows : Follows marks
  pub tokens : (at : ℕ) → SpellsLike Spells without form (numbered at marks)

pub both_alike : {A : Type 0} {x y : A} {xs ys : List A} → x ≡ y → xs ≡ ys → (x ∷ xs) ≡ (y ∷ ys)
both_alike {A} {x} {y} {xs} {ys} head tail = ap (λ z. z ∷ xs) head ∙ ap (λ zs. y ∷ zs) tail
