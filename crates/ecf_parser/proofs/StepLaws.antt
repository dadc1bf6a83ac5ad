-- The readers of single lexemes and of lists do well.
use Rattle.std.proofs.Common.{◌≡◌, ℕ, suc, ◌-◌, ◌<◌, ◌≤◌, Bool, true, false, cond, List, [], ◌∷◌, ◌++◌, length, Option, Some, None, Ok, Err, refl, subst, arith, rules}
use denote.Enum.Bare.{sameb, same_true}
use Rattle.ecf_grammar.specs.contracts.tokens.Sign as signs
use Rattle.ecf_grammar.specs.contracts.tokens.Word as words
use Rattle.ecf_grammar.specs.declared.tokens.Kind.{Kind}
use Rattle.ecf_grammar.specs.declared.tokens.Word.{Word}
use Rattle.ecf_grammar.specs.declared.tokens.Sign.{Sign}
use Rattle.ecf_lang.specs.declared.tree.Op.{Op}
use Rattle.ecf_grammar.specs.Lexemes.{Lexeme, NumberedLexemes}
use Rattle.ecf_grammar.specs.Lexemes.Lexeme.{NameOf, NumberOf, WordOf, SignOf}
use Rattle.ecf_grammar.specs.Spells.{Is}
use Rattle.ecf_grammar.specs.Spells.Is.{is}
use Rattle.ecf_parser.specs.Parsers.{Parser, ◌>>=◌, pure, kind_of, is_sign, is_word, sign, word, name, number, eat_sign, eat_word, op_at, operator_read, operator, each_turn, each, chain_by, chain_turn, chain, until_turn, until, list_of}
use Rattle.ecf_parser.proofs.ParserLaws.{Completes, Good, Lawful, Local, single, fewer, bind, bind_less, last, nothing, tested, knot, knot_is}
use Rattle.ecf_parser.proofs.ParserLaws.Good.{reads, stuck}
use Rattle.ecf_parser.proofs.ParserLaws.Local.{takes, leaves, fails}

-- a lexeme that may be left out
pub data Eaten (l : Lexeme) : NumberedLexemes → Bool → Type 0 where
  eaten : {a : NumberedLexemes} {at : ℕ} → Is l a at → Eaten l a true
  left : Eaten l [] false

-- an operator of the table that may be left out
pub data Operator (table : Sign → Option Op) : NumberedLexemes → Option Op → Type 0 where
  found : {a : NumberedLexemes} {t : Sign} {at : ℕ} {o : Op} → Is (SignOf t) a at → table t ≡ Some o → Operator table a (Some o)
  absent : Operator table [] None

abbrev pub Named : NumberedLexemes → ℕ × List ℕ → Type 0
Named a n = Is (NameOf n.1) a n.0

abbrev pub Numeral : NumberedLexemes → ℕ × ℕ → Type 0
Numeral a n = Is (NumberOf n.1) a n.0

pub is_len : {l : Lexeme} {a : NumberedLexemes} {at : ℕ} → Is l a at → 0 < length a
is_len (is at) = omega arith

pub eaten_len : {l : Lexeme} {a : NumberedLexemes} → Eaten l a true → 0 < length a
eaten_len (eaten h) = is_len h

pub less : {l : Lexeme} {a : NumberedLexemes} {at : ℕ} (K N : ℕ) → Is l a at → K ≤ suc N - length a → K ≤ N
less K N e le = omega (arith, is_len e)

-- ---- single lexemes, of which each reader looks at the next alone

took_or_not : {A : Type 0} (l : ℕ × Lexeme) (p : Parser A) (b : Bool) (x : A) → ((ls : NumberedLexemes) → p (l ∷ ls) ≡ cond b (Ok (x, ls)) (Err (l ∷ ls))) → Local l p
took_or_not l p true x h = takes x h
took_or_not l p false x h = fails h

ate_or_not : (l : ℕ × Lexeme) (p : Parser Bool) (b : Bool) → ((ls : NumberedLexemes) → p (l ∷ ls) ≡ cond b (Ok (true, ls)) (Ok (false, l ∷ ls))) → Local l p
ate_or_not l p true h = takes true h
ate_or_not l p false h = leaves false h

op_or_not : (l : ℕ × Lexeme) (p : Parser (Option Op)) (o : Option Op) → ((ls : NumberedLexemes) → p (l ∷ ls) ≡ operator_read o (l ∷ ls)) → Local l p
op_or_not l p None h = leaves None h
op_or_not l p (Some o) h = takes (Some o) h

sign_local : (t : Sign) (l : ℕ × Lexeme) → Local l (sign t)
unfolding sign
sign_local t l = took_or_not l (sign t) (is_sign t (Some (kind_of l.1))) l.0 (λ ls. refl)

word_local : (t : Word) (l : ℕ × Lexeme) → Local l (word t)
unfolding word
word_local t l = took_or_not l (word t) (is_word t (Some (kind_of l.1))) l.0 (λ ls. refl)

name_local : (l : ℕ × Lexeme) → Local l name
unfolding name
name_local (at, NameOf bytes) = takes (at, bytes) (λ ls. refl)
name_local (at, NumberOf v) = fails (λ ls. refl)
name_local (at, WordOf v) = fails (λ ls. refl)
name_local (at, SignOf v) = fails (λ ls. refl)

number_local : (l : ℕ × Lexeme) → Local l number
unfolding number
number_local (at, NumberOf v) = takes (at, v) (λ ls. refl)
number_local (at, NameOf v) = fails (λ ls. refl)
number_local (at, WordOf v) = fails (λ ls. refl)
number_local (at, SignOf v) = fails (λ ls. refl)

eat_sign_local : (t : Sign) (l : ℕ × Lexeme) → Local l (eat_sign t)
unfolding eat_sign
eat_sign_local t l = ate_or_not l (eat_sign t) (is_sign t (Some (kind_of l.1))) (λ ls. refl)

eat_word_local : (t : Word) (l : ℕ × Lexeme) → Local l (eat_word t)
unfolding eat_word
eat_word_local t l = ate_or_not l (eat_word t) (is_word t (Some (kind_of l.1))) (λ ls. refl)

operator_local : (table : Sign → Option Op) (l : ℕ × Lexeme) → Local l (operator table)
unfolding operator
operator_local table l = op_or_not l (operator table) (op_at table (Some (kind_of l.1))) (λ ls. refl)

sign_by : (t : Sign) (at : ℕ) (u : Sign) (ls : NumberedLexemes) (b : Bool) → sameb signs.the_type u t ≡ b → Good (Is (SignOf t)) ((at, SignOf u) ∷ ls) (cond b (Ok (at, ls)) (Err ((at, SignOf u) ∷ ls)))
sign_by t at u ls true e = let same : u ≡ t = same_true signs.the_type (search rules) u t e in reads ((at, SignOf u) ∷ []) ls at refl (subst (λ x. Is (SignOf x) ((at, SignOf u) ∷ []) at) same (is at))
sign_by t at u ls false e = stuck [] ((at, SignOf u) ∷ ls) refl (λ k. (SignOf t ∷ [], k, is k))

sign_good : (t : Sign) (ls : NumberedLexemes) → Good (Is (SignOf t)) ls (sign t ls)
unfolding sign is_sign
sign_good t [] = stuck [] [] refl (λ k. (SignOf t ∷ [], k, is k))
sign_good t ((at, NameOf bytes) ∷ ls) = stuck [] ((at, NameOf bytes) ∷ ls) refl (λ k. (SignOf t ∷ [], k, is k))
sign_good t ((at, NumberOf v) ∷ ls) = stuck [] ((at, NumberOf v) ∷ ls) refl (λ k. (SignOf t ∷ [], k, is k))
sign_good t ((at, WordOf v) ∷ ls) = stuck [] ((at, WordOf v) ∷ ls) refl (λ k. (SignOf t ∷ [], k, is k))
sign_good t ((at, SignOf u) ∷ ls) = sign_by t at u ls (sameb signs.the_type u t) refl

pub of_sign : {N : ℕ} (t : Sign) → Lawful N (Is (SignOf t)) (sign t) (sign t)
of_sign {N} t = single N (sign t) (sign_good t) (sign_local t)

word_by : (t : Word) (at : ℕ) (u : Word) (ls : NumberedLexemes) (b : Bool) → sameb words.the_type u t ≡ b → Good (Is (WordOf t)) ((at, WordOf u) ∷ ls) (cond b (Ok (at, ls)) (Err ((at, WordOf u) ∷ ls)))
word_by t at u ls true e = let same : u ≡ t = same_true words.the_type (search rules) u t e in reads ((at, WordOf u) ∷ []) ls at refl (subst (λ x. Is (WordOf x) ((at, WordOf u) ∷ []) at) same (is at))
word_by t at u ls false e = stuck [] ((at, WordOf u) ∷ ls) refl (λ k. (WordOf t ∷ [], k, is k))

word_good : (t : Word) (ls : NumberedLexemes) → Good (Is (WordOf t)) ls (word t ls)
unfolding word is_word
word_good t [] = stuck [] [] refl (λ k. (WordOf t ∷ [], k, is k))
word_good t ((at, NameOf bytes) ∷ ls) = stuck [] ((at, NameOf bytes) ∷ ls) refl (λ k. (WordOf t ∷ [], k, is k))
word_good t ((at, NumberOf v) ∷ ls) = stuck [] ((at, NumberOf v) ∷ ls) refl (λ k. (WordOf t ∷ [], k, is k))
word_good t ((at, SignOf v) ∷ ls) = stuck [] ((at, SignOf v) ∷ ls) refl (λ k. (WordOf t ∷ [], k, is k))
word_good t ((at, WordOf u) ∷ ls) = word_by t at u ls (sameb words.the_type u t) refl

pub of_word : {N : ℕ} (t : Word) → Lawful N (Is (WordOf t)) (word t) (word t)
of_word {N} t = single N (word t) (word_good t) (word_local t)

some_name : Completes Named []
some_name k = (NameOf (97 ∷ []) ∷ [], (k, 97 ∷ []), is k)

name_good : (ls : NumberedLexemes) → Good Named ls (name ls)
unfolding name
name_good [] = stuck [] [] refl some_name
name_good ((at, NameOf bytes) ∷ ls) = reads ((at, NameOf bytes) ∷ []) ls (at, bytes) refl (is at)
name_good ((at, NumberOf v) ∷ ls) = stuck [] ((at, NumberOf v) ∷ ls) refl some_name
name_good ((at, WordOf v) ∷ ls) = stuck [] ((at, WordOf v) ∷ ls) refl some_name
name_good ((at, SignOf v) ∷ ls) = stuck [] ((at, SignOf v) ∷ ls) refl some_name

pub of_name : {N : ℕ} → Lawful N Named name name
of_name {N} = single N name name_good name_local

some_number : Completes Numeral []
some_number k = (NumberOf 0 ∷ [], (k, 0), is k)

number_good : (ls : NumberedLexemes) → Good Numeral ls (number ls)
unfolding number
number_good [] = stuck [] [] refl some_number
number_good ((at, NumberOf v) ∷ ls) = reads ((at, NumberOf v) ∷ []) ls (at, v) refl (is at)
number_good ((at, NameOf v) ∷ ls) = stuck [] ((at, NameOf v) ∷ ls) refl some_number
number_good ((at, WordOf v) ∷ ls) = stuck [] ((at, WordOf v) ∷ ls) refl some_number
number_good ((at, SignOf v) ∷ ls) = stuck [] ((at, SignOf v) ∷ ls) refl some_number

pub of_number : {N : ℕ} → Lawful N Numeral number number
of_number {N} = single N number number_good number_local

eat_sign_by : (t : Sign) (at : ℕ) (u : Sign) (ls : NumberedLexemes) (b : Bool) → sameb signs.the_type u t ≡ b → Good (Eaten (SignOf t)) ((at, SignOf u) ∷ ls) (cond b (Ok (true, ls)) (Ok (false, (at, SignOf u) ∷ ls)))
eat_sign_by t at u ls true e = let same : u ≡ t = same_true signs.the_type (search rules) u t e in reads ((at, SignOf u) ∷ []) ls true refl (subst (λ x. Eaten (SignOf x) ((at, SignOf u) ∷ []) true) same (eaten (is at)))
eat_sign_by t at u ls false e = reads [] ((at, SignOf u) ∷ ls) false refl left

eat_sign_good : (t : Sign) (ls : NumberedLexemes) → Good (Eaten (SignOf t)) ls (eat_sign t ls)
unfolding eat_sign is_sign
eat_sign_good t [] = reads [] [] false refl left
eat_sign_good t ((at, NameOf v) ∷ ls) = reads [] ((at, NameOf v) ∷ ls) false refl left
eat_sign_good t ((at, NumberOf v) ∷ ls) = reads [] ((at, NumberOf v) ∷ ls) false refl left
eat_sign_good t ((at, WordOf v) ∷ ls) = reads [] ((at, WordOf v) ∷ ls) false refl left
eat_sign_good t ((at, SignOf u) ∷ ls) = eat_sign_by t at u ls (sameb signs.the_type u t) refl

pub of_eat_sign : {N : ℕ} (t : Sign) → Lawful N (Eaten (SignOf t)) (eat_sign t) (eat_sign t)
of_eat_sign {N} t = single N (eat_sign t) (eat_sign_good t) (eat_sign_local t)

eat_word_by : (t : Word) (at : ℕ) (u : Word) (ls : NumberedLexemes) (b : Bool) → sameb words.the_type u t ≡ b → Good (Eaten (WordOf t)) ((at, WordOf u) ∷ ls) (cond b (Ok (true, ls)) (Ok (false, (at, WordOf u) ∷ ls)))
eat_word_by t at u ls true e = let same : u ≡ t = same_true words.the_type (search rules) u t e in reads ((at, WordOf u) ∷ []) ls true refl (subst (λ x. Eaten (WordOf x) ((at, WordOf u) ∷ []) true) same (eaten (is at)))
eat_word_by t at u ls false e = reads [] ((at, WordOf u) ∷ ls) false refl left

eat_word_good : (t : Word) (ls : NumberedLexemes) → Good (Eaten (WordOf t)) ls (eat_word t ls)
unfolding eat_word is_word
eat_word_good t [] = reads [] [] false refl left
eat_word_good t ((at, NameOf v) ∷ ls) = reads [] ((at, NameOf v) ∷ ls) false refl left
eat_word_good t ((at, NumberOf v) ∷ ls) = reads [] ((at, NumberOf v) ∷ ls) false refl left
eat_word_good t ((at, SignOf v) ∷ ls) = reads [] ((at, SignOf v) ∷ ls) false refl left
eat_word_good t ((at, WordOf u) ∷ ls) = eat_word_by t at u ls (sameb words.the_type u t) refl

pub of_eat_word : {N : ℕ} (t : Word) → Lawful N (Eaten (WordOf t)) (eat_word t) (eat_word t)
of_eat_word {N} t = single N (eat_word t) (eat_word_good t) (eat_word_local t)

operator_by : (table : Sign → Option Op) (at : ℕ) (u : Sign) (ls : NumberedLexemes) (o : Option Op) → table u ≡ o → Good (Operator table) ((at, SignOf u) ∷ ls) (operator_read o ((at, SignOf u) ∷ ls))
operator_by table at u ls None e = reads [] ((at, SignOf u) ∷ ls) None refl absent
operator_by table at u ls (Some o) e = reads ((at, SignOf u) ∷ []) ls (Some o) refl (found (is at) e)

operator_good : (table : Sign → Option Op) (ls : NumberedLexemes) → Good (Operator table) ls (operator table ls)
unfolding operator
operator_good table [] = reads [] [] None refl absent
operator_good table ((at, NameOf v) ∷ ls) = reads [] ((at, NameOf v) ∷ ls) None refl absent
operator_good table ((at, NumberOf v) ∷ ls) = reads [] ((at, NumberOf v) ∷ ls) None refl absent
operator_good table ((at, WordOf v) ∷ ls) = reads [] ((at, WordOf v) ∷ ls) None refl absent
operator_good table ((at, SignOf u) ∷ ls) = operator_by table at u ls (table u) refl

pub of_operator : {N : ℕ} (table : Sign → Option Op) → Lawful N (Operator table) (operator table) (operator table)
of_operator {N} table = single N (operator table) (operator_good table) (operator_local table)

-- ---- lists

module _ {A : Type 0} (S : NumberedLexemes → A → Type 0) (R : NumberedLexemes → List A → Type 0) (t : Sign) (nil : R [] []) (cons : (c a b : NumberedLexemes) (at : ℕ) (x : A) (xs : List A) → Is (SignOf t) c at → S a x → R b xs → R (c ++ (a ++ b)) (x ∷ xs)) where
  each_by : (M : ℕ) (i j : Parser A) (p q : Parser (List A)) → Lawful (suc M) S i j → Lawful M R p q → (c : NumberedLexemes) (found : Bool) → Eaten (SignOf t) c found → (K : ℕ) → K ≤ suc M - length c →
      Lawful K (λ b xs. R (c ++ b) xs) (cond found (i >>= (λ x. p >>= (λ xs. pure (x ∷ xs)))) (pure [])) (cond found (j >>= (λ x. q >>= (λ xs. pure (x ∷ xs)))) (pure []))
  each_by M i j p q h k c true (eaten {at = at} e) K le = bind (fewer K (suc M) (omega arith) h) (λ a x r. last (λ xs. x ∷ xs) (fewer K M (omega (arith, is_len e)) k) (λ b xs rs. cons c a b at x xs e r rs))
  each_by M i j p q h k c false left K le = nothing nil

  each_turn_law : (M : ℕ) (i j : Parser A) (p q : Parser (List A)) → Lawful (suc M) S i j → Lawful M R p q → Lawful (suc M) R (each_turn t i p) (each_turn t j q)
  each_turn_law M i j p q h k = bind_less (of_eat_sign t) (λ c found e K le. each_by M i j p q h k c found e K le)

  pub of_each : (N : ℕ) (i j : Parser A) → Lawful N S i j → Lawful N R (each t i) (each t j)
  unfolding each
  of_each N i j h = knot (each_turn t) (λ at. ([], [], nil)) each_turn_law N i j h

  pub each_is : (i : Parser A) → ((N : ℕ) → Lawful N S i i) → (ls : NumberedLexemes) → each t i ls ≡ each_turn t i (each t i) ls
  unfolding each
  each_is i good ls = knot_is (each_turn t) (λ at. ([], [], nil)) each_turn_law i good ls

module _ {A : Type 0} (S : NumberedLexemes → A → Type 0) (R : NumberedLexemes → List (Op × A) → Type 0) (table : Sign → Option Op) (nil : R [] []) (cons : (c a b : NumberedLexemes) (t : Sign) (at : ℕ) (o : Op) (x : A) (xs : List (Op × A)) → Is (SignOf t) c at → table t ≡ Some o → S a x → R b xs → R (c ++ (a ++ b)) ((o, x) ∷ xs)) where
  chain_law_by : (M : ℕ) (i j : Parser A) (p q : Parser (List (Op × A))) → Lawful (suc M) S i j → Lawful M R p q → (c : NumberedLexemes) (o : Option Op) → Operator table c o → (K : ℕ) → K ≤ suc M - length c →
      Lawful K (λ b xs. R (c ++ b) xs) (chain_by i p o) (chain_by j q o)
  chain_law_by M i j p q h k c (Some o) (found {t = t} {at = at} e is_op) K le = bind (fewer K (suc M) (omega arith) h) (λ a x r. last (λ xs. (o, x) ∷ xs) (fewer K M (omega (arith, is_len e)) k) (λ b xs rs. cons c a b t at o x xs e is_op r rs))
  chain_law_by M i j p q h k c None absent K le = nothing nil

  chain_turn_law : (M : ℕ) (i j : Parser A) (p q : Parser (List (Op × A))) → Lawful (suc M) S i j → Lawful M R p q → Lawful (suc M) R (chain_turn table i p) (chain_turn table j q)
  chain_turn_law M i j p q h k = bind_less (of_operator table) (λ c o e K le. chain_law_by M i j p q h k c o e K le)

  pub of_chain : (N : ℕ) (i j : Parser A) → Lawful N S i j → Lawful N R (chain table i) (chain table j)
  unfolding chain
  of_chain N i j h = knot (chain_turn table) (λ at. ([], [], nil)) chain_turn_law N i j h

  pub chain_is : (i : Parser A) → ((N : ℕ) → Lawful N S i i) → (ls : NumberedLexemes) → chain table i ls ≡ chain_turn table i (chain table i) ls
  unfolding chain
  chain_is i good ls = knot_is (chain_turn table) (λ at. ([], [], nil)) chain_turn_law i good ls

module _ {A : Type 0} (S : NumberedLexemes → A → Type 0) (R : NumberedLexemes → List A → Type 0) (test : Option Kind → Bool) (some : (a : NumberedLexemes) (x : A) → S a x → 0 < length a) (nil : R [] []) (cons : (a b : NumberedLexemes) (x : A) (xs : List A) → S a x → R b xs → R (a ++ b) (x ∷ xs)) where
  until_turn_law : (M : ℕ) (i j : Parser A) (p q : Parser (List A)) → Lawful (suc M) S i j → Lawful M R p q → Lawful (suc M) R (until_turn test i p) (until_turn test j q)
  until_turn_law M i j p q h k = tested test (pure []) (pure []) (i >>= (λ x. p >>= (λ xs. pure (x ∷ xs)))) (j >>= (λ x. q >>= (λ xs. pure (x ∷ xs)))) (nothing nil) (bind_less h (λ a x r K le. let some_taken = some a x r in last (λ xs. x ∷ xs) (fewer K M (omega arith) k) (λ b xs rs. cons a b x xs r rs)))

  pub of_until : (N : ℕ) (i j : Parser A) → Lawful N S i j → Lawful N R (until test i) (until test j)
  unfolding until
  of_until N i j h = knot (until_turn test) (λ at. ([], [], nil)) until_turn_law N i j h

  pub until_is : (i : Parser A) → ((N : ℕ) → Lawful N S i i) → (ls : NumberedLexemes) → until test i ls ≡ until_turn test i (until test i) ls
  unfolding until
  until_is i good ls = knot_is (until_turn test) (λ at. ([], [], nil)) until_turn_law i good ls

-- a first item and each further one behind a comma, or none
pub of_listed : {A : Type 0} (S : NumberedLexemes → A → Type 0) (More R : NumberedLexemes → List A → Type 0) (comma close : Sign) → More [] [] → ((c a b : NumberedLexemes) (at : ℕ) (x : A) (xs : List A) → Is (SignOf comma) c at → S a x → More b xs → More (c ++ (a ++ b)) (x ∷ xs)) → R [] [] → ((a b : NumberedLexemes) (x : A) (xs : List A) → S a x → More b xs → R (a ++ b) (x ∷ xs)) → (N : ℕ) (i j : Parser A) → Lawful N S i j → Lawful N R (list_of comma close i) (list_of comma close j)
unfolding list_of
of_listed S More R comma close nil cons none some N i j h = tested (is_sign close) (pure []) (pure []) (i >>= (λ x. each comma i >>= (λ xs. pure (x ∷ xs)))) (j >>= (λ x. each comma j >>= (λ xs. pure (x ∷ xs)))) (nothing none) (bind h (λ a x r. last (λ xs. x ∷ xs) (of_each S More comma nil cons N i j h) (λ b xs rs. some a b x xs r rs)))
