-- What the tokens before the first that is nested too deep say of all.
use Rattle.std.proofs.Common.{◌≡◌, ℕ, zero, suc, ◌+◌, ◌-◌, ◌<◌, ◌≤◌, Bool, true, false, List, [], ◌∷◌, ◌++◌, length, take, drop, get_or, count_by, refl, sym, ap, subst, ◌∙◌, arith, append_assoc}
use Rattle.std.proofs.lemmas.List.Sums.{count_by_more_yes, count_by_more_no}
use Rattle.ecf_lang.specs.declared.tree.Tree.{Tree}
use Rattle.ecf_grammar.specs.Lexemes.{Lexeme}
use Rattle.ecf_grammar.specs.Lexemes.Lexeme.{NumberOf}
use Rattle.ecf_lang.specs.declared.limits.TheConstants.{MAX_NESTING}
use Rattle.ecf_grammar.specs.Nesting.{is_opening, is_closing, nesting, IsShallow}
use Rattle.ecf_grammar.specs.Spells.{Spells, BeginsFile, IsOutOfPlace, IsTooDeep, IsFileOf}
use Rattle.ecf_parser.specs.FirstDeep.{IsFirstDeep, IsAllShallow}
use Rattle.ecf_parser.proofs.FaultLaws.{nil_end, take_all, take_len, take_take}

-- ---- fronts

take_drop : (n : ℕ) (ls : List Lexeme) → take n ls ++ drop n ls ≡ ls
take_drop zero ls = refl
take_drop (suc n) [] = refl
take_drop (suc n) (l ∷ ls) = ap (λ t. l ∷ t) (take_drop n ls)

-- what begins some file still does when it is cut
pub shorter : (m n : ℕ) (ls : List Lexeme) → m ≤ n → BeginsFile (take n ls) → BeginsFile (take m ls)
shorter m n ls le found =
    let front : List Lexeme = take m ls in
    let rest : List Lexeme = drop m (take n ls) in
    let whole : front ++ rest ≡ take n ls = ap (λ t. t ++ rest) (sym (take_take m n ls le)) ∙ take_drop m (take n ls) in
    let e : take n ls ++ found.0 ≡ front ++ (rest ++ found.0) = ap (λ t. t ++ found.0) (sym whole) ∙ append_assoc front rest found.0 in
    (rest ++ found.0, found.1, subst (λ t. Spells t found.1) e found.2)

pub spelled_begins : (ls : List Lexeme) (tree : Tree) → Spells ls tree → BeginsFile ls
spelled_begins ls tree p = ([], tree, subst (λ t. Spells t tree) (sym (nil_end ls)) p)

-- ---- nesting

one_more : (p : Lexeme → Bool) (ls : List Lexeme) (i : ℕ) (b : Bool) → p (get_or ls i (NumberOf 0)) ≡ b → i < length ls → (count_by p (take i ls) ≤ count_by p (take (i + 1) ls)) × (count_by p (take (i + 1) ls) ≤ count_by p (take i ls) + 1)
one_more p ls i true e h = let step = count_by_more_yes p ls i (NumberOf 0) h e in (omega arith, omega arith)
one_more p ls i false e h = let step = count_by_more_no p ls i (NumberOf 0) h e in (omega arith, omega arith)

counts : (p : Lexeme → Bool) (ls : List Lexeme) (i : ℕ) → i < length ls → (count_by p (take i ls) ≤ count_by p (take (i + 1) ls)) × (count_by p (take (i + 1) ls) ≤ count_by p (take i ls) + 1)
counts p ls i h = one_more p ls i (p (get_or ls i (NumberOf 0))) refl h

none_yet : (p : Lexeme → Bool) (ls : List Lexeme) → count_by p (take 0 ls) ≡ 0
none_yet p ls = refl

-- nesting grows by one at most
just_deep : (ls : List Lexeme) (i : ℕ) → i < length ls → MAX_NESTING < nesting ls i → IsShallow ls i → nesting ls i ≡ MAX_NESTING + 1
just_deep ls zero h deep shallow = let a = counts is_opening ls 0 h in let e = none_yet is_opening ls in let up = a.1 in absurd (omega arith)
just_deep ls (suc i) h deep shallow =
    let before : nesting ls i ≤ MAX_NESTING = shallow i (omega arith) (omega arith) in
    let e : i + 1 ≡ suc i = omega arith in
    let up : count_by is_opening (take (suc i + 1) ls) ≤ count_by is_opening (take (suc i) ls) + 1 = (counts is_opening ls (suc i) h).1 in
    let down : count_by is_closing (take i ls) ≤ count_by is_closing (take (suc i) ls) = subst (λ n. count_by is_closing (take i ls) ≤ count_by is_closing (take n ls)) e (counts is_closing ls i (omega arith)).0 in
    let last : count_by is_opening (take (suc i) ls) - count_by is_closing (take i ls) ≤ MAX_NESTING = subst (λ n. count_by is_opening (take n ls) - count_by is_closing (take i ls) ≤ MAX_NESTING) e before in
    omega arith

-- ---- behind the front, a token that is too deep

front_nesting : (ls : List Lexeme) (d k : ℕ) → k < d → nesting (take d ls) k ≡ nesting ls k
front_nesting ls d k lt =
    let up = ap (count_by is_opening) (take_take (k + 1) d ls (omega arith)) in
    let down = ap (count_by is_closing) (take_take k d ls (omega arith)) in
    omega arith

pub front_shallow : (ls : List Lexeme) (d : ℕ) → IsFirstDeep ls d → IsAllShallow (take d ls)
front_shallow ls d h =
    let len : length (take d ls) ≡ d = take_len d ls (omega (arith, h.within)) in
    λ k before within. let small = h.shallow k (omega (arith, len)) (omega (arith, len, h.within)) in omega (arith, front_nesting ls d k (omega (arith, len)))

pub too_deep : (ls : List Lexeme) (d : ℕ) → IsFirstDeep ls d → BeginsFile (take d ls) → IsTooDeep ls d
too_deep ls d h begins = record { within = h.within; before = begins; deep = just_deep ls d h.within h.deep h.shallow; shallow = h.shallow }

pub front_file : (ls : List Lexeme) (d : ℕ) (tree : Tree) → IsFirstDeep ls d → IsFileOf (take d ls) tree → IsTooDeep ls d
front_file ls d tree h is = too_deep ls d h (spelled_begins (take d ls) tree is.spelled)

pub front_ends : (ls : List Lexeme) (d token : ℕ) → IsFirstDeep ls d → IsOutOfPlace (take d ls) token → d ≤ token → IsTooDeep ls d
front_ends ls d token h is over =
    let len : length (take d ls) ≡ d = take_len d ls (omega (arith, h.within)) in
    too_deep ls d h (subst BeginsFile (take_all token (take d ls) (omega (arith, len))) is.before)

pub front_fault : (ls : List Lexeme) (d token : ℕ) → IsFirstDeep ls d → IsOutOfPlace (take d ls) token → token < d → IsOutOfPlace ls token
front_fault ls d token h is lt =
    let len : length (take d ls) ≡ d = take_len d ls (omega (arith, h.within)) in
    record {
      before = subst BeginsFile (take_take token d ls (omega arith)) is.before;
      with_it = record {
        within = omega (arith, h.within);
        none = λ below begins. is.with_it.none (omega (arith, len)) (subst BeginsFile (sym (take_take (token + 1) d ls (omega arith))) begins);
        over = λ same tree p. absurd (omega (arith, h.within));
      };
      shallow = λ k below within. h.shallow k (omega arith) within;
    }
