-- The walk, its repeat and the turn of the cycle, as the code goes about them.
use Rattle.std.proofs.Common.{◌≡◌, ℕ, zero, suc, ◌+◌, ◌<◌, ◌≤◌, Bool, true, false, ◌||◌, ◌==◌, min, List, [], ◌∷◌, ◌++◌, length, find, take, drop, reverse, Some, None, get_or, refl, sym, ap, ◌∙◌, subst, arith, add-one, drop-cons, append_assoc}
use Rattle.std.proofs.lemmas.Bool.{eq-eqb, ne_eqb}
use Rattle.std.proofs.lemmas.List.{append-nil, drop_all, take_all, reverse-append}
use Rattle.ecf_graph.specs.Rows.{is_in_row, is_member}
use Rattle.ecf_judge.specs.Walks.{RowsTell}
use Rattle.ecf_lang.specs.declared.run.Step.{Step}
use Rattle.ecf_verdicts.specs.Cycles.{least_before, is_among, up_to, from, until, minimum, rotation_to_minimum, walk, cycle_in}

-- the first that passes, looked for from a place on
pub find_here : (p : ℕ → Bool) (xs : List ℕ) (k : ℕ) → k < length xs → p (get_or xs k 0) ≡ true → find p (drop k xs) ≡ Some (get_or xs k 0)
find_here p xs k h e = rw (drop-cons xs k 0 h, e) refl

pub find_there : (p : ℕ → Bool) (xs : List ℕ) (k : ℕ) → k < length xs → p (get_or xs k 0) ≡ false → find p (drop (k + 1) xs) ≡ find p (drop k xs)
find_there p xs k h e = rw (add-one k, drop-cons xs k 0 h, e) refl

pub find_end : (p : ℕ → Bool) (xs : List ℕ) (k : ℕ) → length xs ≤ k → find p (drop k xs) ≡ None
find_end p xs k h = rw (drop_all k xs h) refl

-- a path with one more at its end, from its end
pub reverse_next : (xs : List ℕ) (x : ℕ) → reverse (xs ++ x ∷ []) ≡ x ∷ reverse xs
reverse_next xs x = reverse-append xs (x ∷ [])

pub up_to_found : (i j : ℕ) (js : List ℕ) → i ≡ j → up_to i (j ∷ js) ≡ j ∷ []
unfolding up_to
up_to_found i j js e = rw (eq-eqb i j e) refl

pub up_to_next : (i j : ℕ) (js : List ℕ) → (i ≡ j → ⊥) → up_to i (j ∷ js) ≡ j ∷ up_to i js
unfolding up_to
up_to_next i j js n = rw (ne_eqb i j n) refl

pub up_to_none : (i : ℕ) → up_to i [] ≡ []
unfolding up_to
up_to_none i = refl

-- back over one more of the path
pub back_found : (part path path' : List ℕ) (i j : ℕ) → path ≡ path' ++ j ∷ [] → i ≡ j → part ++ j ∷ [] ≡ part ++ up_to i (reverse path)
back_found part path path' i j e same = ap (λ l. part ++ l) (sym (ap (λ p. up_to i (reverse p)) e ∙ (ap (up_to i) (reverse_next path' j) ∙ up_to_found i j (reverse path') same)))

pub back_next : (part path path' : List ℕ) (i j : ℕ) → path ≡ path' ++ j ∷ [] → (i ≡ j → ⊥) → (part ++ j ∷ []) ++ up_to i (reverse path') ≡ part ++ up_to i (reverse path)
back_next part path path' i j e n = append_assoc part (j ∷ []) _ ∙ ap (λ l. part ++ l) (sym (ap (λ p. up_to i (reverse p)) e ∙ (ap (up_to i) (reverse_next path' j) ∙ up_to_next i j (reverse path') n)))

pub back_end : (part path : List ℕ) (i : ℕ) → path ≡ [] → part ++ up_to i (reverse path) ≡ part
back_end part path i e = ap (λ p. part ++ up_to i (reverse p)) e ∙ (ap (λ l. part ++ l) (up_to_none i) ∙ append-nil part)

-- the least before, read off rows
pub least_by_rows : (t : List Step) (rows : List (List ℕ)) (rest : List ℕ) (j : ℕ) → RowsTell t rows → find (λ i. is_in_row rows j i) rest ≡ least_before t rest j
unfolding least_before
least_by_rows t rows rest j tells = ap (λ (p : ℕ → Bool). find p rest) (λ k i. tells i j k)

-- one move of the walk
pub walk_none : (t : List Step) (rest : List ℕ) (n present : ℕ) (earlier : List ℕ) → least_before t rest present ≡ None → walk t rest n present earlier ≡ []
unfolding walk
walk_none t rest zero present earlier e = refl
walk_none t rest (suc n) present earlier e = rw (e, walk) refl

pub walk_repeats : (t : List Step) (rest : List ℕ) (n present i : ℕ) (earlier : List ℕ) → least_before t rest present ≡ Some i → is_among i (present ∷ earlier) ≡ true → walk t rest (suc n) present earlier ≡ up_to i (present ∷ earlier)
unfolding walk
walk_repeats t rest n present i earlier e f = rw (e, f, walk) refl

pub walk_goes : (t : List Step) (rest : List ℕ) (n present i : ℕ) (earlier : List ℕ) → least_before t rest present ≡ Some i → is_among i (present ∷ earlier) ≡ false → walk t rest (suc n) present earlier ≡ walk t rest n i (present ∷ earlier)
unfolding walk
walk_goes t rest n present i earlier e f = rw (e, f, walk) refl

pub walk_stops : (t : List Step) (rest : List ℕ) (present : ℕ) (earlier : List ℕ) → walk t rest 0 present earlier ≡ []
unfolding walk
walk_stops t rest present earlier = refl

-- the visited ones with the present one
pub among_next : (i present : ℕ) (earlier : List ℕ) → is_among i (present ∷ earlier) ≡ (is_among i earlier || (i == present))
unfolding is_among
among_next i present earlier = or_sym (i == present) (is_among i earlier)
  where
    or_sym : (a b : Bool) → (a || b) ≡ (b || a)
    or_sym true true = refl
    or_sym true false = refl
    or_sym false true = refl
    or_sym false false = refl

pub among_none : (i : ℕ) → is_among i [] ≡ false
unfolding is_among
among_none i = refl

-- The walk so far: who was visited before the present one, and the whole walk is what is left of it, with so many moves.
pub record IsOnWay (rest : List ℕ) (start : ℕ) (rows : List (List ℕ)) (left present : ℕ) (path visited : List ℕ) : Type 0 where
  pub met : (i : ℕ) → is_member visited i ≡ is_among i (reverse path)
  pub goes : (t : List Step) → RowsTell t rows → walk t rest left present (reverse path) ≡ walk t rest (length rest) start []

-- the present one joins the visited ones
met_next : (present : ℕ) (path path' visited visited' : List ℕ) → path' ≡ path ++ present ∷ [] →
    ((k : ℕ) → is_member visited' k ≡ (is_member visited k || (k == present))) → ((i : ℕ) → is_member visited i ≡ is_among i (reverse path)) →
    (i : ℕ) → is_member visited' i ≡ is_among i (present ∷ reverse path)
met_next present path path' visited visited' e more met i = more i ∙ (ap (λ b. b || (i == present)) (met i) ∙ sym (among_next i present (reverse path)))

path_next : (present : ℕ) (path path' : List ℕ) → path' ≡ path ++ present ∷ [] → reverse path' ≡ present ∷ reverse path
path_next present path path' e = ap (λ p. reverse p) e ∙ reverse_next path present

pub way_first : (rest : List ℕ) (start : ℕ) (rows : List (List ℕ)) (n : ℕ) (path visited : List ℕ) → n ≡ length rest → path ≡ [] → ((i : ℕ) → is_member visited i ≡ false) →
    IsOnWay rest start rows n start path visited
way_first rest start rows n path visited len e none = record {
  met = λ i. none i ∙ (sym (among_none i) ∙ ap (λ p. is_among i (reverse p)) (sym e));
  goes = λ t tells. ap (λ p. walk t rest n start (reverse p)) e ∙ ap (λ m. walk t rest m start []) len;
}

pub way_next : (rest : List ℕ) (start : ℕ) (rows : List (List ℕ)) (n m present i : ℕ) (path path' visited visited' : List ℕ) → n ≡ suc m → path' ≡ path ++ present ∷ [] →
    ((k : ℕ) → is_member visited' k ≡ (is_member visited k || (k == present))) → Some i ≡ find (λ x. is_in_row rows present x) rest → is_member visited' i ≡ false →
    IsOnWay rest start rows n present path visited → IsOnWay rest start rows m i path' visited'
way_next rest start rows n m present i path path' visited visited' len e more found new way =
    let met = met_next present path path' visited visited' e more way.met in
    let turned = path_next present path path' e in
    record {
      met = λ k. met k ∙ ap (is_among k) (sym turned);
      goes = λ t tells. ap (walk t rest m i) turned
          ∙ (sym (walk_goes t rest m present i (reverse path) (sym (least_by_rows t rows rest present tells) ∙ sym found) (sym (met i) ∙ new))
          ∙ (ap (λ q. walk t rest q present (reverse path)) (sym len) ∙ way.goes t tells));
    }

pub way_repeats : (rest : List ℕ) (start : ℕ) (rows : List (List ℕ)) (n m present i : ℕ) (path path' visited visited' : List ℕ) → n ≡ suc m → path' ≡ path ++ present ∷ [] →
    ((k : ℕ) → is_member visited' k ≡ (is_member visited k || (k == present))) → Some i ≡ find (λ x. is_in_row rows present x) rest → is_member visited' i ≡ true →
    IsOnWay rest start rows n present path visited → (t : List Step) → RowsTell t rows → up_to i (reverse path') ≡ walk t rest (length rest) start []
way_repeats rest start rows n m present i path path' visited visited' len e more found old way t tells =
    let met = met_next present path path' visited visited' e more way.met in
    ap (up_to i) (path_next present path path' e)
    ∙ (sym (walk_repeats t rest m present i (reverse path) (sym (least_by_rows t rows rest present tells) ∙ sym found) (sym (met i) ∙ old))
    ∙ (ap (λ q. walk t rest q present (reverse path)) (sym len) ∙ way.goes t tells))

pub way_none : (rest : List ℕ) (start : ℕ) (rows : List (List ℕ)) (n present : ℕ) (path visited : List ℕ) → None ≡ find (λ x. is_in_row rows present x) rest →
    IsOnWay rest start rows n present path visited → (t : List Step) → RowsTell t rows → [] ≡ walk t rest (length rest) start []
way_none rest start rows n present path visited found way t tells =
    sym (walk_none t rest n present (reverse path) (sym (least_by_rows t rows rest present tells) ∙ sym found)) ∙ way.goes t tells

pub way_ends : (rest : List ℕ) (start : ℕ) (rows : List (List ℕ)) (n present : ℕ) (path visited : List ℕ) → n ≡ 0 →
    IsOnWay rest start rows n present path visited → (t : List Step) → RowsTell t rows → [] ≡ walk t rest (length rest) start []
way_ends rest start rows n present path visited e way t tells =
    sym (walk_stops t rest present (reverse path)) ∙ (ap (λ q. walk t rest q present (reverse path)) (sym e) ∙ way.goes t tells)

-- the least of a list, from the left
min_left : (a j : ℕ) (js : List ℕ) → min a (minimum j js) ≡ minimum (min a j) js
unfolding minimum
min_left a j [] = refl
min_left a j (k ∷ ks) = omega arith

pub minimum_next : (least : ℕ) (xs : List ℕ) (k : ℕ) → k < length xs → minimum (min least (get_or xs k 0)) (drop (k + 1) xs) ≡ minimum least (drop k xs)
unfolding minimum
minimum_next least xs k h = rw (add-one k, drop-cons xs k 0 h) (sym (min_left least (get_or xs k 0) (drop (suc k) xs)))

pub minimum_end : (least : ℕ) (xs : List ℕ) (k : ℕ) → length xs ≤ k → minimum least (drop k xs) ≡ least
unfolding minimum
minimum_end least xs k h = rw (drop_all k xs h) refl

-- a list cut at the first i
pub from_here : (i : ℕ) (xs : List ℕ) (k : ℕ) → k < length xs → i ≡ get_or xs k 0 → from i (drop k xs) ≡ drop k xs
unfolding from
from_here i xs k h e = rw (drop-cons xs k 0 h, eq-eqb i (get_or xs k 0) e) refl

pub from_there : (i : ℕ) (xs : List ℕ) (k : ℕ) → k < length xs → (i ≡ get_or xs k 0 → ⊥) → from i (drop (k + 1) xs) ≡ from i (drop k xs)
unfolding from
from_there i xs k h n = rw (add-one k, drop-cons xs k 0 h, ne_eqb i (get_or xs k 0) n) refl

pub from_end : (i : ℕ) (xs : List ℕ) (k : ℕ) → length xs ≤ k → from i (drop k xs) ≡ drop k xs
unfolding from
from_end i xs k h = rw (drop_all k xs h) refl

pub until_here : (i : ℕ) (xs : List ℕ) (k : ℕ) → k < length xs → i ≡ get_or xs k 0 → until i (drop k xs) ≡ []
unfolding until
until_here i xs k h e = rw (drop-cons xs k 0 h, eq-eqb i (get_or xs k 0) e) refl

pub until_there : (i : ℕ) (xs : List ℕ) (k : ℕ) → k < length xs → (i ≡ get_or xs k 0 → ⊥) → until i (drop k xs) ≡ get_or xs k 0 ∷ until i (drop (k + 1) xs)
unfolding until
until_there i xs k h n = rw (add-one k, drop-cons xs k 0 h, ne_eqb i (get_or xs k 0) n) refl

pub until_more : (i : ℕ) (xs : List ℕ) (k : ℕ) → k < length xs → (i ≡ get_or xs k 0 → ⊥) → take (k + 1) xs ++ until i (drop (k + 1) xs) ≡ take k xs ++ until i (drop k xs)
until_more i xs k h n = ap (λ l. l ++ until i (drop (k + 1) xs)) (take_one xs k h) ∙ (append_assoc (take k xs) (get_or xs k 0 ∷ []) _ ∙ ap (λ l. take k xs ++ l) (sym (until_there i xs k h n)))
  where
    take_one : (ys : List ℕ) (m : ℕ) → m < length ys → take (m + 1) ys ≡ take m ys ++ get_or ys m 0 ∷ []
    take_one ys m l = rw (add-one m) (go ys m l)
      where
        go : (zs : List ℕ) (p : ℕ) → p < length zs → take (suc p) zs ≡ take p zs ++ get_or zs p 0 ∷ []
        go [] p q = absurd (omega (arith, q))
        go (z ∷ zs) zero q = refl
        go (z ∷ zs) (suc p) q = ap (λ vs. z ∷ vs) (go zs p (omega (arith, q)))

pub until_end : (i : ℕ) (xs : List ℕ) (k : ℕ) → length xs ≤ k → until i (drop k xs) ≡ []
unfolding until
until_end i xs k h = rw (drop_all k xs h) refl

-- none of the list
pub from_all : (i : ℕ) (xs : List ℕ) (k : ℕ) → length xs ≤ k → from i (drop k xs) ≡ from i xs → from i (drop (length xs) xs) ≡ from i xs
from_all i xs k h e = ap (from i) (drop_all (length xs) xs (omega arith) ∙ sym (drop_all k xs h)) ∙ e

pub until_all : (i : ℕ) (xs : List ℕ) (k : ℕ) → length xs ≤ k → take k xs ++ until i (drop k xs) ≡ until i xs → take (length xs) xs ≡ until i xs
until_all i xs k h e = take_all (length xs) xs (omega arith) ∙ (sym (take_all k xs h) ∙ (sym (append-nil (take k xs)) ∙ (ap (λ l. take k xs ++ l) (sym (until_end i xs k h)) ∙ e)))

-- a list that is empty, and one that isn't
pub length_none : (xs : List ℕ) → length xs ≡ 0 → xs ≡ []
length_none [] e = refl
length_none (x ∷ xs) e = absurd (omega (arith, e))

pub first_and_rest : (xs : List ℕ) (n : ℕ) → 1 ≤ length xs → length xs ≤ n + 1 → xs ≡ get_or xs 0 0 ∷ take n (drop 1 xs)
first_and_rest [] n h g = absurd (omega (arith, h))
first_and_rest (x ∷ xs) n h g = ap (λ l. x ∷ l) (sym (take_all n xs (omega (arith, g))))

-- a slice that was written back into its list
pub written_back : (n : ℕ) (xs ys : List ℕ) → length xs ≡ n → take n (xs ++ ys) ≡ xs
written_back n [] ys e = rw (sym e) refl
written_back zero (x ∷ xs) ys e = absurd (omega (arith, e))
written_back (suc n) (x ∷ xs) ys e = ap (λ l. x ∷ l) (written_back n xs ys (omega (arith, e)))

-- the turn
pub rotation_is : (first : ℕ) (rest xs : List ℕ) (k m : ℕ) → xs ≡ first ∷ rest → m ≡ minimum first rest → drop k xs ≡ from m xs → take k xs ≡ until m xs → drop k xs ++ take k xs ≡ rotation_to_minimum xs
unfolding rotation_to_minimum
rotation_is first rest xs k m e f a b = rw e (let g : drop k xs ++ take k xs ≡ from m xs ++ until m xs = rw (a, b) refl in subst (λ l. drop k l ++ take k l ≡ from (minimum first rest) l ++ until (minimum first rest) l) e (subst (λ n. drop k xs ++ take k xs ≡ from n xs ++ until n xs) f g))

pub rotation_none : (xs : List ℕ) → length xs < 1 → xs ++ [] ≡ rotation_to_minimum xs
unfolding rotation_to_minimum
rotation_none [] h = refl
rotation_none (x ∷ xs) h = absurd (omega (arith, h))

-- the cycle of an empty rest, and that of another
pub cycle_none : (t : List Step) (rest : List ℕ) → length rest < 1 → [] ≡ cycle_in t rest
unfolding cycle_in
cycle_none t [] h = refl
cycle_none t (i ∷ is) h = absurd (omega (arith, h))

pub cycle_first : (t : List Step) (rest : List ℕ) → 1 ≤ length rest → rotation_to_minimum (walk t rest (length rest) (get_or rest 0 0) []) ≡ cycle_in t rest
unfolding cycle_in
cycle_first t [] h = absurd (omega (arith, h))
cycle_first t (i ∷ is) h = refl
