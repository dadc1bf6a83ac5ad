-- What `parse` answers, for tokens of a source.
use Rattle.std.proofs.Common.{◌≡◌, ℕ, zero, suc, ◌-◌, ◌≤◌, Bool, true, false, cond, nat_lt, List, [], ◌∷◌, ◌⊎◌, inl, inr, length, take, Ok, Err, refl, sym, ap, subst, arith}
use Rattle.std.specs.Prelude.{slice_range}
use Rattle.std.proofs.lemmas.Bool.Decides.{nat_tests}
use Rattle.ecf_lang.specs.declared.tree.Tree.{Tree}
use Rattle.ecf_grammar.specs.declared.tokens.Token.{Token}
use Rattle.ecf_grammar.specs.Lexemes.{Lexeme, NumberedLexemes, lexeme, with_numbers, lexemes_of}
use Rattle.ecf_grammar.specs.Spells.{IsOutOfPlace, IsTooDeep, IsFileOf}
use Rattle.ecf_parser.specs.Descent.{file}
use Rattle.ecf_parser.specs.FirstDeep.{IsFirstDeep, IsAllShallow}
use Rattle.ecf_parser.specs.SyntaxFault.{HasSyntaxFault, first_fault}
use Rattle.ecf_parser.specs.declared.parser.SyntaxFault.{SyntaxFault}
use Rattle.ecf_parser.specs.declared.parser.SyntaxFault.TheVariants.{At, TooDeep, NoMemory}
use Rattle.ecf_parser.proofs.NestingLaws.{lexemes_len}
use Rattle.ecf_parser.proofs.FaultLaws as faults
use Rattle.ecf_parser.proofs.DecisionLaws as decided
use Rattle.ecf_parser.proofs.FrontLaws as fronts

-- ---- where none is too deep

pub file_read : (ls : List Lexeme) (start rest : NumberedLexemes) (tree : Tree) → start ≡ with_numbers 0 ls → IsAllShallow ls → file start ≡ Ok (tree, rest) → IsFileOf ls tree
file_read ls start rest tree at h e = decided.file_read ls tree rest h (subst (λ t. file t ≡ Ok (tree, rest)) at e)

pub fault_found : (ls : List Lexeme) (start rest : NumberedLexemes) → start ≡ with_numbers 0 ls → IsAllShallow ls → file start ≡ Err rest → IsOutOfPlace ls (length ls - length rest)
fault_found ls start rest at h e = decided.fault_found ls rest h (subst (λ t. file t ≡ Err rest) at e)

-- ---- the tokens before the first that is too deep

lexemes_front : (source : List ℕ) (tokens : List Token) (d : ℕ) → lexemes_of source (take d tokens) ≡ take d (lexemes_of source tokens)
lexemes_front source tokens zero = refl
lexemes_front source [] (suc d) = refl
lexemes_front source (t ∷ tokens) (suc d) = ap (λ ls. lexeme t.kind (slice_range source t.start t.end) ∷ ls) (lexemes_front source tokens d)

pub front_shallow : (source : List ℕ) (tokens : List Token) (d : ℕ) → IsFirstDeep (lexemes_of source tokens) d → IsAllShallow (lexemes_of source (take d tokens))
front_shallow source tokens d h = subst IsAllShallow (sym (lexemes_front source tokens d)) (fronts.front_shallow (lexemes_of source tokens) d h)

pub front_file : (source : List ℕ) (tokens : List Token) (d : ℕ) (tree : Tree) → IsFirstDeep (lexemes_of source tokens) d → IsFileOf (lexemes_of source (take d tokens)) tree → IsTooDeep (lexemes_of source tokens) d
front_file source tokens d tree h is = fronts.front_file (lexemes_of source tokens) d tree h (subst (λ ls. IsFileOf ls tree) (lexemes_front source tokens d) is)

module _ (source : List ℕ) (tokens : List Token) (d : ℕ) (h : IsFirstDeep (lexemes_of source tokens) d) where
  front_at : (token : ℕ) (b : Bool) → nat_lt token d ≡ b → IsOutOfPlace (lexemes_of source (take d tokens)) token → HasSyntaxFault (lexemes_of source tokens) (cond b (At token) (TooDeep d))
  front_at token true e is = fronts.front_fault (lexemes_of source tokens) d token h (subst (λ ls. IsOutOfPlace ls token) (lexemes_front source tokens d) is) (grind (arith, nat_tests))
  front_at token false e is = fronts.front_ends (lexemes_of source tokens) d token h (subst (λ ls. IsOutOfPlace ls token) (lexemes_front source tokens d) is) (grind (arith, nat_tests))

  pub front_refused : (fault : SyntaxFault) → (fault ≡ NoMemory) ⊎ HasSyntaxFault (lexemes_of source (take d tokens)) fault → (first_fault fault d ≡ NoMemory) ⊎ HasSyntaxFault (lexemes_of source tokens) (first_fault fault d)
  front_refused (At token) (inl e) = absurd cc
  front_refused (At token) (inr is) = inr (front_at token (nat_lt token d) refl is)
  front_refused (TooDeep token) (inl e) = absurd cc
  front_refused (TooDeep token) (inr is) = let small = front_shallow source tokens d h token is.within is.within in let deep = is.deep in absurd (omega arith)
  front_refused NoMemory e = inl refl

  pub front_len : d ≡ length (take d tokens)
  front_len = let len = faults.take_len d (lexemes_of source tokens) (omega (arith, h.within)) in omega (arith, len, ap length (lexemes_front source tokens d), lexemes_len source (take d tokens))

-- ---- one answer

pub same_tree : (ls : List Lexeme) (tree other : Tree) → IsFileOf ls tree → IsFileOf ls other → tree ≡ other
same_tree ls tree other h g = faults.one_tree ls tree other h.spelled g.spelled

pub not_both : (ls : List Lexeme) (tree : Tree) (fault : SyntaxFault) → IsFileOf ls tree → HasSyntaxFault ls fault → ⊥
not_both ls tree (At token) h g = decided.one_answer.file_or_place ls tree token h g
not_both ls tree (TooDeep token) h g = decided.one_answer.file_or_deep ls tree token h g
not_both ls tree NoMemory h g = g

pub only_memory : (ls : List Lexeme) (tree : Tree) (fault : SyntaxFault) → IsFileOf ls tree → (fault ≡ NoMemory) ⊎ HasSyntaxFault ls fault → fault ≡ NoMemory
only_memory ls tree fault h (inl e) = e
only_memory ls tree fault h (inr g) = absurd (not_both ls tree fault h g)

same_refusal : (ls : List Lexeme) (fault other : SyntaxFault) → HasSyntaxFault ls fault → HasSyntaxFault ls other → fault ≡ other
same_refusal ls (At token) (At other) h g = ap At (decided.one_answer.one_place ls token other h g)
same_refusal ls (At token) (TooDeep other) h g = absurd (decided.one_answer.place_or_deep ls token other h g)
same_refusal ls (TooDeep token) (At other) h g = absurd (decided.one_answer.place_or_deep ls other token g h)
same_refusal ls (TooDeep token) (TooDeep other) h g = ap TooDeep (decided.one_answer.one_deep ls token other h g)
same_refusal ls NoMemory other h g = absurd h
same_refusal ls fault NoMemory h g = absurd g

pub same_fault : (ls : List Lexeme) (fault other : SyntaxFault) → (fault ≡ NoMemory) ⊎ HasSyntaxFault ls fault → HasSyntaxFault ls other → (fault ≡ NoMemory) ⊎ (fault ≡ other)
same_fault ls fault other (inl e) g = inl e
same_fault ls fault other (inr h) g = inr (same_refusal ls fault other h g)

pub only_deep : (ls : List Lexeme) (d : ℕ) (other : SyntaxFault) → IsTooDeep ls d → HasSyntaxFault ls other → (TooDeep d ≡ NoMemory) ⊎ (TooDeep d ≡ other)
only_deep ls d other h g = same_fault ls (TooDeep d) other (inr h) g

-- ---- how many tokens are left

pub no_more_left : (source : List ℕ) (tokens : List Token) (start rest : NumberedLexemes) → start ≡ with_numbers 0 (lexemes_of source tokens) → file start ≡ Err rest → length rest ≤ length tokens
no_more_left source tokens start rest at e =
    let stops = faults.fault_stops (lexemes_of source tokens) rest (subst (λ t. file t ≡ Err rest) at e) in
    omega (arith, faults.stop_len (lexemes_of source tokens) rest stops, lexemes_len source tokens)
