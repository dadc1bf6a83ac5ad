-- Lists of numbers and of pairs, as the code makes them.
use Rattle.std.proofs.Common.{◌≡◌, ℕ, zero, suc, ◌+◌, ◌<◌, ◌≤◌, Bool, true, false, not, cond, ◌&&◌, ◌==◌, List, [], ◌∷◌, ◌++◌, take, drop, length, get_or, ◌⊎◌, refl, sym, ap, ◌∙◌, subst, arith, inl, inr, add-one, drop-cons, append_assoc}
use Rattle.std.specs.List.{list_any}
use Rattle.std.proofs.lemmas.Bool.{cases_Bool, cases_eq, both_ways, eq-eqb, eqb-true, ne_eqb}
use Rattle.std.proofs.lemmas.List.{append-nil, drop_all}
use Rattle.ecf_lang.specs.declared.run.Step.{Step}
use Rattle.ecf_verdicts.specs.Before.{before}
use Rattle.ecf_verdicts.specs.Traces.{members}
use Rattle.ecf_verdicts.specs.BeforeLemmas.{before_self}
use Rattle.ecf_verdicts.specs.ListLemmas.{In, Each_at, Each_from, Has_weaker, Has_from_any, any_from_Has, In_from_Contains, Contains_from_In, Any_from_Has, Has_from_Any}
use Rattle.ecf_verdicts.specs.Laws.{MembersAre}
use Rattle.ecf_verdicts.specs.RisingLemmas.{Rising, rising_from}
use Rattle.ecf_precedence.specs.EndLemmas.{Has_snoc, Has_front, Has_last}
use Rattle.ecf_graph.specs.Rows.{numbers_below}
use Rattle.ecf_conflict.specs.Laws.{NumbersAreMembers}
use Rattle.ecf_conflict.specs.Pairs.{pairs_from, pairs_over, pairs_of}

-- rising lists with the same numbers are one
pub rising_same : (xs ys : List ℕ) → Rising xs → Rising ys → ((i : ℕ) → In i xs → In i ys) → ((i : ℕ) → In i ys → In i xs) → xs ≡ ys
rising_same [] [] r q f g = refl
rising_same [] (y ∷ ys) r q f g = absurd (g y (inl refl))
rising_same (x ∷ xs) [] r q f g = absurd (f x (inl refl))
rising_same (x ∷ xs) (y ∷ ys) r q f g =
    let heads : x ≡ y = elim (f x (inl refl)) [
      | inl e ↦ e
      | inr h ↦ elim (g y (inl refl)) [ inl e ↦ sym e | inr k ↦ absurd (omega (arith, Each_at (λ z. y < z) ys x q.0 h, Each_at (λ z. x < z) xs y r.0 k)) ]
    ] in
    let tails : xs ≡ ys = rising_same xs ys r.1 q.1
    (λ i h. elim (f i (inr h)) [ inl e ↦ absurd (omega (arith, e, heads, Each_at (λ z. x < z) xs i r.0 h)) | inr k ↦ k ])
    (λ i h. elim (g i (inr h)) [ inl e ↦ absurd (omega (arith, e, heads, Each_at (λ z. y < z) ys i q.0 h)) | inr k ↦ k ]) in
    cc

below_below : (p : ℕ → Bool) (n i : ℕ) → In i (numbers_below p n) → (i < n) × (p i ≡ true)
unfolding numbers_below
below_below p zero i h = absurd h
below_below p (suc n) i h = go (p n) refl h (below_below p n i)
  where
    go : (b : Bool) → p n ≡ b → In i (numbers_below p n ++ cond b (n ∷ []) []) → (In i (numbers_below p n) → (i < n) × (p i ≡ true)) → (i < suc n) × (p i ≡ true)
    go true e k deep = elim (Has_snoc _ (numbers_below p n) n k) [ inl a ↦ (let d = deep a in (omega (arith, d.0), d.1)) | inr f ↦ (omega (arith, f), ap p f ∙ e) ]
    go false e k deep = let d = deep (subst (λ l. In i l) (append-nil (numbers_below p n)) k) in (omega (arith, d.0), d.1)

below_in : (p : ℕ → Bool) (n i : ℕ) → i < n → p i ≡ true → In i (numbers_below p n)
unfolding numbers_below
below_in p zero i h e = absurd (omega (arith, h))
below_in p (suc n) i h e = go (p n) refl (cases_eq i n) (below_in p n i)
  where
    go : (b : Bool) → p n ≡ b → (i ≡ n) ⊎ (i ≡ n → ⊥) → (i < n → p i ≡ true → In i (numbers_below p n)) → In i (numbers_below p n ++ cond b (n ∷ []) [])
    go true f (inl s) deep = Has_last _ (numbers_below p n) n s
    go true f (inr s) deep = Has_front _ (numbers_below p n) n (deep (omega (arith, h, s)) e)
    go false f (inl s) deep = absurd (both_ways _ f (ap p (sym s) ∙ e))
    go false f (inr s) deep = subst (λ l. In i l) (sym (append-nil (numbers_below p n))) (deep (omega (arith, h, s)) e)

snoc_rises : (xs : List ℕ) (n : ℕ) → Rising xs → ((i : ℕ) → In i xs → i < n) → Rising (xs ++ n ∷ [])
snoc_rises [] n r h = (tt, tt)
snoc_rises (x ∷ xs) n r h = (Each_from (λ z. x < z) (xs ++ n ∷ []) (λ z k. elim (Has_snoc _ xs n k) [ inl a ↦ Each_at (λ z. x < z) xs z r.0 a | inr e ↦ omega (arith, e, h x (inl refl)) ]), snoc_rises xs n r.1 (λ i k. h i (inr k)))

below_rises : (p : ℕ → Bool) (n : ℕ) → Rising (numbers_below p n)
unfolding numbers_below
below_rises p zero = tt
below_rises p (suc n) = go (p n) (below_rises p n)
  where
    go : (b : Bool) → Rising (numbers_below p n) → Rising (numbers_below p n ++ cond b (n ∷ []) [])
    go true r = snoc_rises (numbers_below p n) n r (λ i h. (below_below p n i h).0)
    go false r = subst Rising (sym (append-nil (numbers_below p n))) r

-- the numbers that have steps are the members
pub numbers_are_members : MembersAre → NumbersAreMembers
numbers_are_members are t p n e above = rising_same (numbers_below p n) (members t) (below_rises p n) (rising_from (members t) (are t).0)
    (λ i h. In_from_Contains (members t) i (((are t).1 i).1 (Any_from_Has (λ (s : Step). s.inv ≡ i) t (Has_weaker _ _ t (λ s f. eqb-true s.inv i f) (Has_from_any (λ (s : Step). s.inv == i) t (sym (e i) ∙ (below_below p n i h).1))))))
    (λ i h. (let any : list_any (λ (s : Step). s.inv == i) t ≡ true = any_from_Has (λ (s : Step). s.inv == i) t (Has_weaker _ _ t (λ s f. eq-eqb s.inv i f) (Has_from_Any (λ (s : Step). s.inv ≡ i) t (((are t).1 i).0 (Contains_from_In (members t) i h)))) in below_in p n i (above i any) (e i ∙ any)))

-- pairs
pub from_step : (r : ℕ → ℕ → Bool) (ms : List ℕ) (i j : ℕ) → r i j ≡ true → pairs_from r (j ∷ ms) i ≡ (i, j) ∷ pairs_from r ms i
unfolding pairs_from
from_step r ms i j e = rw e refl

pub from_skip : (r : ℕ → ℕ → Bool) (ms : List ℕ) (i j : ℕ) → r i j ≡ false → pairs_from r (j ∷ ms) i ≡ pairs_from r ms i
unfolding pairs_from
from_skip r ms i j e = rw e refl

pub from_none : (r : ℕ → ℕ → Bool) (i : ℕ) → pairs_from r [] i ≡ []
unfolding pairs_from
from_none r i = refl

from_same : (r q : ℕ → ℕ → Bool) (ms : List ℕ) (i : ℕ) → ((j : ℕ) → r i j ≡ q i j) → pairs_from r ms i ≡ pairs_from q ms i
from_same r q [] i e = from_none r i ∙ sym (from_none q i)
from_same r q (j ∷ js) i e = elim (cases_Bool (r i j)) [
  | inl y ↦ from_step r js i j y ∙ (ap (λ l. (i, j) ∷ l) (from_same r q js i e) ∙ sym (from_step q js i j (sym (e j) ∙ y)))
  | inr n ↦ from_skip r js i j n ∙ (from_same r q js i e ∙ sym (from_skip q js i j (sym (e j) ∙ n)))
]

over_same : (r q : ℕ → ℕ → Bool) (ms is : List ℕ) → ((i j : ℕ) → r i j ≡ q i j) → pairs_over r ms is ≡ pairs_over q ms is
unfolding pairs_over
over_same r q ms [] e = refl
over_same r q ms (i ∷ is) e = rw (from_same r q ms i (e i), over_same r q ms is e) refl

pub of_same : (r q : ℕ → ℕ → Bool) (ms : List ℕ) → ((i j : ℕ) → r i j ≡ q i j) → pairs_of r ms ≡ pairs_of q ms
unfolding pairs_of
of_same r q ms e = over_same r q ms ms e

pub over_step : (r : ℕ → ℕ → Bool) (ms is : List ℕ) (i : ℕ) → pairs_over r ms (i ∷ is) ≡ pairs_from r ms i ++ pairs_over r ms is
unfolding pairs_over
over_step r ms is i = refl

-- a relation that is "before" where two differ, with none of itself, is "before"
pub apart_before : (t : List Step) (r : ℕ → ℕ → Bool) → ((i j : ℕ) → (i ≡ j → ⊥) → r j i ≡ before t i j) → (i j : ℕ) → (not (i == j) && r j i) ≡ before t i j
apart_before t r e i j = elim (cases_eq i j) [
  | inl s ↦ rw (eq-eqb i j s) (sym (subst (λ x. before t i x ≡ false) s (before_self t i)))
  | inr n ↦ rw (ne_eqb i j n) (e i j n)
]

-- one element more
pub take_next : {X : Type 0} (xs : List X) (i : ℕ) (d : X) → i < length xs → take (i + 1) xs ≡ take i xs ++ get_or xs i d ∷ []
take_next xs i d h = rw (add-one i) (go xs i h)
  where
    go : (ys : List _) (k : ℕ) → k < length ys → take (suc k) ys ≡ take k ys ++ get_or ys k d ∷ []
    go [] k l = absurd (omega (arith, l))
    go (y ∷ ys) zero l = refl
    go (y ∷ ys) (suc k) l = ap (λ zs. y ∷ zs) (go ys k (omega (arith, l)))

-- one pair more, or none
pub pairs_next : (r : ℕ → ℕ → Bool) (ps : List (ℕ × ℕ)) (ms : List ℕ) (i k : ℕ) → k < length ms → r i (get_or ms k 0) ≡ true → (ps ++ (i, get_or ms k 0) ∷ []) ++ pairs_from r (drop (k + 1) ms) i ≡ ps ++ pairs_from r (drop k ms) i
pairs_next r ps ms i k h e = rw (add-one k, drop-cons ms k 0 h) (append_assoc ps ((i, get_or ms k 0) ∷ []) _ ∙ ap (λ l. ps ++ l) (sym (from_step r (drop (suc k) ms) i (get_or ms k 0) e)))

pub pairs_skip : (r : ℕ → ℕ → Bool) (ps : List (ℕ × ℕ)) (ms : List ℕ) (i k : ℕ) → k < length ms → r i (get_or ms k 0) ≡ false → ps ++ pairs_from r (drop (k + 1) ms) i ≡ ps ++ pairs_from r (drop k ms) i
pairs_skip r ps ms i k h e = rw (add-one k, drop-cons ms k 0 h) (ap (λ l. ps ++ l) (sym (from_skip r (drop (suc k) ms) i (get_or ms k 0) e)))

pub pairs_end : (r : ℕ → ℕ → Bool) (ps : List (ℕ × ℕ)) (ms : List ℕ) (i k : ℕ) → length ms ≤ k → ps ++ pairs_from r (drop k ms) i ≡ ps
pairs_end r ps ms i k h = rw (drop_all k ms h) (ap (λ l. ps ++ l) (from_none r i) ∙ append-nil ps)

pub over_next : (r : ℕ → ℕ → Bool) (ps : List (ℕ × ℕ)) (ms is : List ℕ) (k : ℕ) → k < length is → (ps ++ pairs_from r ms (get_or is k 0)) ++ pairs_over r ms (drop (k + 1) is) ≡ ps ++ pairs_over r ms (drop k is)
over_next r ps ms is k h = rw (add-one k, drop-cons is k 0 h) (append_assoc ps (pairs_from r ms (get_or is k 0)) _ ∙ ap (λ l. ps ++ l) (sym (over_step r ms (drop (suc k) is) (get_or is k 0))))

pub over_end : (r : ℕ → ℕ → Bool) (ps : List (ℕ × ℕ)) (ms is : List ℕ) (k : ℕ) → length is ≤ k → ps ++ pairs_over r ms (drop k is) ≡ ps
unfolding pairs_over
over_end r ps ms is k h = rw (drop_all k is h) (append-nil ps)
