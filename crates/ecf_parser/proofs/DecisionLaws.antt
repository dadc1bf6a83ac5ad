-- Lexemes have one answer, and one alone.
use Rattle.std.proofs.Common.{◌≡◌, ℕ, zero, suc, ◌+◌, ◌-◌, ◌<◌, ◌≤◌, Bool, true, false, List, ◌⊎◌, inl, inr, length, take, leb, Ok, Err, refl, sym, subst, arith}
use Rattle.std.proofs.lemmas.Bool.Decides.{nat_tests}
use Rattle.ecf_lang.specs.declared.tree.Tree.{Tree}
use Rattle.ecf_grammar.specs.Lexemes.{Lexeme, NumberedLexemes, with_numbers}
use Rattle.ecf_lang.specs.declared.limits.TheConstants.{MAX_NESTING}
use Rattle.ecf_grammar.specs.Nesting.{nesting, IsShallow}
use Rattle.ecf_grammar.specs.Spells.{Spells, BeginsFile, EndsFiles, IsOutOfPlace, IsTooDeep, IsFileOf, SomeAnswer, OneAnswer}
use Rattle.ecf_parser.specs.FirstDeep.{IsFirstDeep, IsAllShallow}
use Rattle.ecf_parser.specs.Parsers.{Parse}
use Rattle.ecf_parser.specs.Descent.{file}
use Rattle.ecf_parser.proofs.FaultLaws.{take_all, read_is_spelled, fault_stops, fault_before, fault_ends}
use Rattle.ecf_parser.proofs.FrontLaws.{shorter, spelled_begins, front_shallow, front_file, front_ends, front_fault}

-- ---- the first token that is too deep

pub record Deep (ls : List Lexeme) (n : ℕ) : Type 0 where
  pub at : ℕ
  pub below : at < n
  pub first : IsFirstDeep ls at

more_shallow : (ls : List Lexeme) (n : ℕ) → IsShallow ls n → nesting ls n ≤ MAX_NESTING → (token : ℕ) (b : Bool) → leb n token ≡ b → token < suc n → token < length ls → nesting ls token ≤ MAX_NESTING
more_shallow ls n h here token true e lt within = let same : n ≡ token = grind (arith, nat_tests) in subst (λ t. nesting ls t ≤ MAX_NESTING) same here
more_shallow ls n h here token false e lt within = h token (grind (arith, nat_tests)) within

next_deep : (ls : List Lexeme) (n : ℕ) → n < length ls → (b : Bool) → leb (nesting ls n) MAX_NESTING ≡ b → IsShallow ls n → IsShallow ls (suc n) ⊎ Deep ls (suc n)
next_deep ls n lt true e h = inl (λ token up within. more_shallow ls n h (grind (arith, nat_tests)) token (leb n token) refl up within)
next_deep ls n lt false e h = inr (record { at = n; below = omega arith; first = record { within = lt; deep = grind (arith, nat_tests); shallow = h } })

first_deep : (ls : List Lexeme) (n : ℕ) → n ≤ length ls → IsShallow ls n ⊎ Deep ls n
first_deep ls zero le = inl (λ token lt within. absurd (omega arith))
first_deep ls (suc n) le = elim (first_deep ls n (omega arith)) [
  | inl h ↦ next_deep ls n (omega arith) (leb (nesting ls n) MAX_NESTING) refl h
  | inr d ↦ inr (record { at = d.at; below = omega (arith, d.below); first = d.first })
]

-- ---- some answer

Answer : List Lexeme → Type 0
Answer ls = ((tree : Tree) × IsFileOf ls tree) ⊎ (((token : ℕ) × IsOutOfPlace ls token) ⊎ ((token : ℕ) × IsTooDeep ls token))

-- what reading to the end says, where none is too deep
pub file_read : (ls : List Lexeme) (tree : Tree) (rest : NumberedLexemes) → IsAllShallow ls → file (with_numbers 0 ls) ≡ Ok (tree, rest) → IsFileOf ls tree
file_read ls tree rest h e = record { spelled = read_is_spelled ls tree rest e; shallow = h }

pub fault_found : (ls : List Lexeme) (rest : NumberedLexemes) → IsAllShallow ls → file (with_numbers 0 ls) ≡ Err rest → IsOutOfPlace ls (length ls - length rest)
fault_found ls rest h e = record {
  before = fault_before ls rest (fault_stops ls rest e);
  with_it = fault_ends ls rest e;
  shallow = λ token lt within. h token within within;
}

Shallow : List Lexeme → Type 0
Shallow ls = ((tree : Tree) × IsFileOf ls tree) ⊎ ((token : ℕ) × IsOutOfPlace ls token)

read_shallow : (ls : List Lexeme) → IsAllShallow ls → (o : Parse Tree) → file (with_numbers 0 ls) ≡ o → Shallow ls
unfolding Shallow
read_shallow ls h (Ok p) e = inl (p.0, file_read ls p.0 p.1 h e)
read_shallow ls h (Err rest) e = inr (length ls - length rest, fault_found ls rest h e)

all_shallow : (ls : List Lexeme) → Shallow ls → Answer ls
unfolding Answer Shallow
all_shallow ls (inl is) = inl is
all_shallow ls (inr is) = inr (inl is)

beside : (ls : List Lexeme) (d : ℕ) → IsFirstDeep ls d → (token : ℕ) → IsOutOfPlace (take d ls) token → (b : Bool) → leb d token ≡ b → Answer ls
unfolding Answer
beside ls d h token is true e = inr (inr (d, front_ends ls d token h is (grind (arith, nat_tests))))
beside ls d h token is false e = inr (inl (token, front_fault ls d token h is (grind (arith, nat_tests))))

some_deep : (ls : List Lexeme) (d : ℕ) → IsFirstDeep ls d → Shallow (take d ls) → Answer ls
unfolding Answer Shallow
some_deep ls d h (inl is) = inr (inr (d, front_file ls d is.0 h is.1))
some_deep ls d h (inr is) = beside ls d h is.0 is.1 (leb d is.0) refl

pub some_answer : SomeAnswer
unfolding Answer
some_answer ls = elim (first_deep ls (length ls) (omega arith)) [
  | inl h ↦ all_shallow ls (read_shallow ls h (file (with_numbers 0 ls)) refl)
  | inr d ↦ some_deep ls d.at d.first (read_shallow (take d.at ls) (front_shallow ls d.at d.first) (file (with_numbers 0 (take d.at ls))) refl)
]

-- ---- one answer

not_ended : (ls : List Lexeme) (tree : Tree) (token : ℕ) → Spells ls tree → EndsFiles ls token → ⊥
not_ended ls tree token p h =
    let through : token < length ls → ⊥ = λ lt. h.none lt (shorter (token + 1) (length ls) ls (omega arith) (subst BeginsFile (sym (take_all (length ls) ls (omega arith))) (spelled_begins ls tree p))) in
    let end : token ≡ length ls → ⊥ = λ same. h.over same tree p in
    let within = h.within in
    omega arith

not_through : (ls : List Lexeme) (token n : ℕ) → token < n → n ≤ length ls → EndsFiles ls token → BeginsFile (take n ls) → ⊥
not_through ls token n lt le h begins = h.none (omega arith) (shorter (token + 1) n ls (omega arith) begins)

deep_no_shallow : (ls : List Lexeme) (token : ℕ) → IsTooDeep ls token → nesting ls token ≤ MAX_NESTING → ⊥
deep_no_shallow ls token d small = let deep = d.deep in omega arith

place_not_deep : (ls : List Lexeme) (token other : ℕ) → IsOutOfPlace ls token → IsTooDeep ls other → ⊥
place_not_deep ls token other h d =
    let after : token < other → ⊥ = λ lt. not_through ls token other lt (omega (arith, d.within)) h.with_it d.before in
    let up_to : other < token + 1 → ⊥ = λ lt. deep_no_shallow ls other d (h.shallow other lt d.within) in
    omega arith

same_place : (ls : List Lexeme) (token other : ℕ) → IsOutOfPlace ls token → IsOutOfPlace ls other → token ≡ other
same_place ls token other h g =
    let after : token < other → ⊥ = λ lt. not_through ls token other lt g.with_it.within h.with_it g.before in
    let before : other < token → ⊥ = λ lt. not_through ls other token lt h.with_it.within g.with_it h.before in
    omega arith

same_deep : (ls : List Lexeme) (token other : ℕ) → IsTooDeep ls token → IsTooDeep ls other → token ≡ other
same_deep ls token other h g =
    let after : token < other → ⊥ = λ lt. deep_no_shallow ls token h (g.shallow token lt h.within) in
    let before : other < token → ⊥ = λ lt. deep_no_shallow ls other g (h.shallow other lt g.within) in
    omega arith

pub one_answer : OneAnswer
one_answer = record {
  file_or_place = λ ls tree token p h. not_ended ls tree token p.spelled h.with_it;
  file_or_deep = λ ls tree token p h. let small = p.shallow token h.within h.within in let deep = h.deep in omega arith;
  place_or_deep = place_not_deep;
  one_place = same_place;
  one_deep = same_deep;
}
