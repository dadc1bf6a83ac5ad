-- What is spelled is read: single lexemes and lists.
use Rattle.std.proofs.Common.{◌≡◌, ℕ, Bool, true, false, cond, List, [], ◌∷◌, ◌++◌, Option, Some, None, Ok, Err, refl, sym, ap, subst, ◌∙◌, append_assoc}
use denote.Enum.Bare.{true_same}
use Rattle.ecf_grammar.specs.contracts.tokens.Sign as signs
use Rattle.ecf_grammar.specs.contracts.tokens.Word as words
use Rattle.ecf_grammar.specs.declared.tokens.Kind.{Kind}
use Rattle.ecf_grammar.specs.declared.tokens.Kind.TheVariants as kind
use Rattle.ecf_grammar.specs.declared.tokens.Word.{Word}
use Rattle.ecf_grammar.specs.declared.tokens.Sign.{Sign}
use Rattle.ecf_lang.specs.declared.tree.Op.{Op}
use Rattle.ecf_grammar.specs.Lexemes.{Lexeme, NumberedLexemes}
use Rattle.ecf_grammar.specs.Lexemes.Lexeme.{NameOf, NumberOf, WordOf, SignOf}
use Rattle.ecf_grammar.specs.Spells.{Is}
use Rattle.ecf_grammar.specs.Spells.Is.{is}
use Rattle.ecf_parser.specs.Parsers.{Parse, Parser, and_then, ◌>>=◌, pure, when, next, kind_of, behind, is_sign, is_word, sign, word, name, number, eat_sign, eat_word, op_at, operator_read, operator, each_turn, each, chain_by, chain_turn, chain, until_turn, until, list_of}

-- ---- one behind the other

pub via : {A B : Type 0} (f : A → Parser B) {o : Parse A} {z : Parse B} {x : A} {rest : NumberedLexemes} → o ≡ Ok (x, rest) → f x rest ≡ z → and_then o f ≡ z
via f e k = ap (λ t. and_then t f) e ∙ k

pub seq : {A B : Type 0} {z : Parse B} {x : A} (f : A → Parser B) (p : Parser A) (a b rest : NumberedLexemes) → p (a ++ (b ++ rest)) ≡ Ok (x, b ++ rest) → f x (b ++ rest) ≡ z → and_then (p ((a ++ b) ++ rest)) f ≡ z
seq f p a b rest e k = ap (λ ls. and_then (p ls) f) (append_assoc a b rest) ∙ (ap (λ t. and_then t f) e ∙ k)

pub when_no : {A : Type 0} {z : Parse A} (test : Option Kind → Bool) (p q : Parser A) (ls : NumberedLexemes) → test (next ls) ≡ false → q ls ≡ z → when test p q ls ≡ z
when_no test p q ls e k = ap (λ b. cond b (p ls) (q ls)) e ∙ k

pub when_yes : {A : Type 0} {z : Parse A} (test : Option Kind → Bool) (p q : Parser A) (ls : NumberedLexemes) → test (next ls) ≡ true → p ls ≡ z → when test p q ls ≡ z
when_yes test p q ls e k = ap (λ b. cond b (p ls) (q ls)) e ∙ k

-- ---- single lexemes

pub is_sign_self : (t : Sign) → is_sign t (Some (kind.Sign t)) ≡ true
unfolding is_sign
is_sign_self t = true_same signs.the_type t t refl

pub is_word_self : (t : Word) → is_word t (Some (kind.Word t)) ≡ true
unfolding is_word
is_word_self t = true_same words.the_type t t refl

pub sign_is : {t : Sign} {a : NumberedLexemes} {at : ℕ} → Is (SignOf t) a at → (rest : NumberedLexemes) → sign t (a ++ rest) ≡ Ok (at, rest)
unfolding sign
sign_is {t} (is at) rest = ap (λ b. cond b (Ok (at, rest)) (Err ((at, SignOf t) ∷ rest))) (is_sign_self t)

pub word_is : {t : Word} {a : NumberedLexemes} {at : ℕ} → Is (WordOf t) a at → (rest : NumberedLexemes) → word t (a ++ rest) ≡ Ok (at, rest)
unfolding word
word_is {t} (is at) rest = ap (λ b. cond b (Ok (at, rest)) (Err ((at, WordOf t) ∷ rest))) (is_word_self t)

pub name_is : {bytes : List ℕ} {a : NumberedLexemes} {at : ℕ} → Is (NameOf bytes) a at → (rest : NumberedLexemes) → name (a ++ rest) ≡ Ok ((at, bytes), rest)
unfolding name
name_is (is at) rest = refl

pub number_is : {value : ℕ} {a : NumberedLexemes} {at : ℕ} → Is (NumberOf value) a at → (rest : NumberedLexemes) → number (a ++ rest) ≡ Ok ((at, value), rest)
unfolding number
number_is (is at) rest = refl

pub eats_sign : {t : Sign} {a : NumberedLexemes} {at : ℕ} → Is (SignOf t) a at → (rest : NumberedLexemes) → eat_sign t (a ++ rest) ≡ Ok (true, rest)
unfolding eat_sign
eats_sign {t} (is at) rest = ap (λ b. cond b (Ok (true, rest)) (Ok (false, (at, SignOf t) ∷ rest))) (is_sign_self t)

pub eats_word : {t : Word} {a : NumberedLexemes} {at : ℕ} → Is (WordOf t) a at → (rest : NumberedLexemes) → eat_word t (a ++ rest) ≡ Ok (true, rest)
unfolding eat_word
eats_word {t} (is at) rest = ap (λ b. cond b (Ok (true, rest)) (Ok (false, (at, WordOf t) ∷ rest))) (is_word_self t)

pub leaves_sign : (t : Sign) (rest : NumberedLexemes) → is_sign t (next rest) ≡ false → eat_sign t rest ≡ Ok (false, rest)
unfolding eat_sign
leaves_sign t rest e = ap (λ b. cond b (Ok (true, behind rest)) (Ok (false, rest))) e

pub leaves_word : (t : Word) (rest : NumberedLexemes) → is_word t (next rest) ≡ false → eat_word t rest ≡ Ok (false, rest)
unfolding eat_word
leaves_word t rest e = ap (λ b. cond b (Ok (true, behind rest)) (Ok (false, rest))) e

pub takes_op : (table : Sign → Option Op) {t : Sign} {a : NumberedLexemes} {at : ℕ} {o : Op} → Is (SignOf t) a at → table t ≡ Some o → (rest : NumberedLexemes) → operator table (a ++ rest) ≡ Ok (Some o, rest)
unfolding operator
takes_op table {t} (is at) e rest = ap (λ x. operator_read x ((at, SignOf t) ∷ rest)) e

pub leaves_op : (table : Sign → Option Op) (rest : NumberedLexemes) → op_at table (next rest) ≡ None → operator table rest ≡ Ok (None, rest)
unfolding operator
leaves_op table rest e = ap (λ x. operator_read x rest) e

-- what comes next where a lexeme stands in front
pub next_is : (P : Option Kind → Type 0) {l : Lexeme} {a : NumberedLexemes} {at : ℕ} (rest : NumberedLexemes) → Is l a at → P (Some (kind_of l)) → P (next (a ++ rest))
next_is P rest (is at) h = h

pub next_assoc : (P : Option Kind → Type 0) (a b rest : NumberedLexemes) → P (next (a ++ (b ++ rest))) → P (next ((a ++ b) ++ rest))
next_assoc P a b rest h = subst (λ ls. P (next ls)) (sym (append_assoc a b rest)) h

-- ---- lists

unfoldable pub each_found : {A : Type 0} → Parser A → Parser (List A) → Bool → Parser (List A)
each_found item more found = cond found (item >>= (λ x. more >>= (λ xs. pure (x ∷ xs)))) (pure [])

module _ {A : Type 0} (t : Sign) (item : Parser A) (opens : (ls : NumberedLexemes) → each t item ls ≡ each_turn t item (each t item) ls) where
  pub each_ends : (rest : NumberedLexemes) → is_sign t (next rest) ≡ false → each t item rest ≡ Ok ([], rest)
  unfolding each_found
  each_ends rest e = opens rest ∙ via (each_found item (each t item)) (leaves_sign t rest e) refl

  pub each_goes : {c : NumberedLexemes} {at : ℕ} {x : A} {xs : List A} (a b rest : NumberedLexemes) → Is (SignOf t) c at → item (a ++ (b ++ rest)) ≡ Ok (x, b ++ rest) → each t item (b ++ rest) ≡ Ok (xs, rest) → each t item ((c ++ (a ++ b)) ++ rest) ≡ Ok (x ∷ xs, rest)
  unfolding each_found
  each_goes {c} a b rest p e k = opens ((c ++ (a ++ b)) ++ rest) ∙ seq (each_found item (each t item)) (eat_sign t) c (a ++ b) rest (eats_sign p ((a ++ b) ++ rest)) (seq _ item a b rest e (via _ k refl))

module _ {A : Type 0} (table : Sign → Option Op) (item : Parser A) (opens : (ls : NumberedLexemes) → chain table item ls ≡ chain_turn table item (chain table item) ls) where
  pub chain_ends : (rest : NumberedLexemes) → op_at table (next rest) ≡ None → chain table item rest ≡ Ok ([], rest)
  chain_ends rest e = opens rest ∙ via (chain_by item (chain table item)) (leaves_op table rest e) refl

  pub chain_goes : {c : NumberedLexemes} {at : ℕ} {u : Sign} {o : Op} {x : A} {xs : List (Op × A)} (a b rest : NumberedLexemes) → Is (SignOf u) c at → table u ≡ Some o → item (a ++ (b ++ rest)) ≡ Ok (x, b ++ rest) → chain table item (b ++ rest) ≡ Ok (xs, rest) → chain table item ((c ++ (a ++ b)) ++ rest) ≡ Ok ((o, x) ∷ xs, rest)
  chain_goes {c} a b rest p q e k = opens ((c ++ (a ++ b)) ++ rest) ∙ seq (chain_by item (chain table item)) (operator table) c (a ++ b) rest (takes_op table p q ((a ++ b) ++ rest)) (seq _ item a b rest e (via _ k refl))

module _ {A : Type 0} (test : Option Kind → Bool) (item : Parser A) (opens : (ls : NumberedLexemes) → until test item ls ≡ until_turn test item (until test item) ls) where
  pub until_ends : (rest : NumberedLexemes) → test (next rest) ≡ true → until test item rest ≡ Ok ([], rest)
  until_ends rest e = opens rest ∙ ap (λ b. cond b (Ok ([], rest)) ((item >>= (λ x. until test item >>= (λ xs. pure (x ∷ xs)))) rest)) e

  pub until_goes : {x : A} {xs : List A} (a b rest : NumberedLexemes) → test (next (a ++ (b ++ rest))) ≡ false → item (a ++ (b ++ rest)) ≡ Ok (x, b ++ rest) → until test item (b ++ rest) ≡ Ok (xs, rest) → until test item ((a ++ b) ++ rest) ≡ Ok (x ∷ xs, rest)
  until_goes {x} {xs} a b rest e g k =
      opens ((a ++ b) ++ rest)
      ∙ ap (λ ls. (until_turn test item (until test item)) ls) (append_assoc a b rest)
      ∙ ap (λ t. cond t (Ok ([], a ++ (b ++ rest))) ((item >>= (λ x. until test item >>= (λ xs. pure (x ∷ xs)))) (a ++ (b ++ rest)))) e
      ∙ via _ g (via _ k refl)

-- none before the closing sign
pub listed_none : {A : Type 0} (comma close : Sign) (item : Parser A) (rest : NumberedLexemes) → is_sign close (next rest) ≡ true → list_of comma close item rest ≡ Ok ([], rest)
unfolding list_of
listed_none comma close item rest e = ap (λ b. cond b (Ok ([], rest)) ((item >>= (λ x. each comma item >>= (λ xs. pure (x ∷ xs)))) rest)) e

pub listed_some : {A : Type 0} {x : A} {xs : List A} (comma close : Sign) (item : Parser A) (a b rest : NumberedLexemes) → is_sign close (next (a ++ (b ++ rest))) ≡ false → item (a ++ (b ++ rest)) ≡ Ok (x, b ++ rest) → each comma item (b ++ rest) ≡ Ok (xs, rest) → list_of comma close item ((a ++ b) ++ rest) ≡ Ok (x ∷ xs, rest)
unfolding list_of
listed_some comma close item a b rest e g k =
    ap (λ ls. list_of comma close item ls) (append_assoc a b rest)
    ∙ ap (λ t. cond t (Ok ([], a ++ (b ++ rest))) ((item >>= (λ x. each comma item >>= (λ xs. pure (x ∷ xs)))) (a ++ (b ++ rest)))) e
    ∙ via _ g (via _ k refl)
