-- What the pairs of a relation on members are like: they rise, are of two different members, and join what the relation joins.
use Rattle.std.proofs.Common.{◌≡◌, ℕ, ◌<◌, Bool, true, not, ◌&&◌, ◌==◌, List, [], ◌∷◌, ◌++◌, inl, inr, refl, sym, ap, subst, arith}
use Rattle.std.specs.List.{list_any}
use Rattle.std.specs.Ordering.{nat_cmp}
use Rattle.std.specs.declared.cmp.Ordering.TheVariants.{Less, Equal}
use Rattle.std.proofs.lemmas.Bool.{cases_Bool, both_ways, and_parts, and_from, eqb-true, eq-eqb, ne_eqb, lt-ltb, le-ltb}
use Rattle.ecf_graph.specs.Checks.{stands_in}
use Rattle.ecf_graph.specs.Edges.{pair_cmp, PairsRise, PairsAreOfTwo, is_of_two}
use Rattle.ecf_graph.specs.Pairs.{joins}
use Rattle.ecf_lang.specs.declared.run.Step.{Step}
use Rattle.ecf_verdicts.specs.Before.{before}
use Rattle.ecf_verdicts.specs.BeforeLemmas.{before_self}
use Rattle.ecf_verdicts.specs.Laws.{BeforeIsOfMembers}
use Rattle.ecf_verdicts.specs.ListLemmas.{In, Has, Each, Pairs, Each_at, Has_in, Has_weaker, Has_from_any, any_from_Has, All_from_Each, In_from_Contains, Pairs_at}
use Rattle.ecf_verdicts.specs.RisingLemmas.{Rising}
use Rattle.ecf_verdicts.specs.Traces.{members}
use Rattle.ecf_precedence.specs.EndLemmas.{same_test}
use Rattle.ecf_conflict.specs.Laws.{PairsAreBefore}
use Rattle.ecf_conflict.specs.Pairs.{pairs_from, pairs_over, pairs_of}
use Rattle.ecf_conflict.proofs.PairLaws.{from_none, from_skip, from_step}

-- lists put together
each_append : {X : Type 0} (P : X → Type 0) (xs ys : List X) → Each P xs → Each P ys → Each P (xs ++ ys)
each_append P [] ys h k = k
each_append P (x ∷ xs) ys h k = (h.0, each_append P xs ys h.1 k)

pairs_append : {X : Type 0} (R : X → X → Type 0) (xs ys : List X) → Pairs R xs → Pairs R ys → Each (λ x. Each (R x) ys) xs → Pairs R (xs ++ ys)
pairs_append R [] ys h k each = k
pairs_append R (x ∷ xs) ys h k each = (each_append (R x) xs ys h.0 each.0, pairs_append R xs ys h.1 k each.1)

has_left : {X : Type 0} (P : X → Type 0) (xs ys : List X) → Has P xs → Has P (xs ++ ys)
has_left P [] ys h = absurd h
has_left P (x ∷ xs) ys (inl h) = inl h
has_left P (x ∷ xs) ys (inr h) = inr (has_left P xs ys h)

has_right : {X : Type 0} (P : X → Type 0) (xs ys : List X) → Has P ys → Has P (xs ++ ys)
has_right P [] ys h = h
has_right P (x ∷ xs) ys h = inr (has_right P xs ys h)

-- each pair is one of the relation on the members
each_from : (P : ℕ × ℕ → Type 0) (r : ℕ → ℕ → Bool) (ms : List ℕ) (i : ℕ) → ((j : ℕ) → In j ms → r i j ≡ true → P (i, j)) → Each P (pairs_from r ms i)
each_from P r [] i f = subst (λ l. Each P l) (sym (from_none r i)) tt
each_from P r (j ∷ js) i f =
    let deep = each_from P r js i (λ k h. f k (inr h)) in
    elim (cases_Bool (r i j)) [
      | inl y ↦ subst (λ l. Each P l) (sym (from_step r js i j y)) (f j (inl refl) y, deep)
      | inr n ↦ subst (λ l. Each P l) (sym (from_skip r js i j n)) deep
    ]

each_over : (P : ℕ × ℕ → Type 0) (r : ℕ → ℕ → Bool) (ms is : List ℕ) → ((i j : ℕ) → In i is → In j ms → r i j ≡ true → P (i, j)) → Each P (pairs_over r ms is)
unfolding pairs_over
each_over P r ms [] f = tt
each_over P r ms (i ∷ is) f = each_append P (pairs_from r ms i) (pairs_over r ms is) (each_from P r ms i (λ j h e. f i j (inl refl) h e)) (each_over P r ms is (λ k j h m e. f k j (inr h) m e))

-- they rise
abbrev lower : ℕ × ℕ → ℕ × ℕ → Type 0
lower p q = pair_cmp p q ≡ Less

less : (x y : ℕ) → x < y → nat_cmp x y ≡ Less
less x y h = rw (lt-ltb x y h) refl

equal : (x : ℕ) → nat_cmp x x ≡ Equal
equal x = rw (le-ltb x x (omega arith), eq-eqb x x refl) refl

by_first : (i j k l : ℕ) → i < k → lower (i, j) (k, l)
by_first i j k l h = rw (less i k h) refl

by_second : (i j l : ℕ) → j < l → lower (i, j) (i, l)
by_second i j l h = rw (equal i) (less j l h)

from_rises : (r : ℕ → ℕ → Bool) (ms : List ℕ) (i : ℕ) → Rising ms → Pairs lower (pairs_from r ms i)
from_rises r [] i h = subst (λ l. Pairs lower l) (sym (from_none r i)) tt
from_rises r (j ∷ js) i h =
    let deep = from_rises r js i h.1 in
    elim (cases_Bool (r i j)) [
      | inl y ↦ subst (λ l. Pairs lower l) (sym (from_step r js i j y)) (each_from (lower (i, j)) r js i (λ k m e. by_second i j k (Each_at (λ z. j < z) js k h.0 m)), deep)
      | inr n ↦ subst (λ l. Pairs lower l) (sym (from_skip r js i j n)) deep
    ]

over_rises : (r : ℕ → ℕ → Bool) (ms is : List ℕ) → Rising ms → Rising is → Pairs lower (pairs_over r ms is)
unfolding pairs_over
over_rises r ms [] h q = tt
over_rises r ms (i ∷ is) h q =
    pairs_append lower (pairs_from r ms i) (pairs_over r ms is) (from_rises r ms i h) (over_rises r ms is h q.1)
    (each_from (λ p. Each (lower p) (pairs_over r ms is)) r ms i (λ j m e. each_over (lower (i, j)) r ms is (λ k l mk ml f. by_first i j k l (Each_at (λ z. i < z) is k q.0 mk))))

pub pairs_rise : (r : ℕ → ℕ → Bool) (ms : List ℕ) → Rising ms → PairsRise (pairs_of r ms)
unfolding pairs_of
pairs_rise r ms h = λ i j d l inside. Pairs_at lower (pairs_over r ms ms) (over_rises r ms ms h h) i j d l inside

-- they are of two different members
stands : (ms : List ℕ) (i : ℕ) → In i ms → stands_in ms i ≡ true
stands ms i h = any_from_Has (λ x. x == i) ms (Has_weaker (λ x. i ≡ x) (λ x. (x == i) ≡ true) ms (λ x e. eq-eqb x i (sym e)) h)

pub pairs_are_of_two : (t : List Step) (ms : List ℕ) → PairsAreOfTwo ms (pairs_of (before t) ms)
unfolding pairs_of
pairs_are_of_two t ms = All_from_Each (λ p. is_of_two ms p ≡ true) (pairs_over (before t) ms ms) (each_over (λ p. is_of_two ms p ≡ true) (before t) ms ms two)
  where
    two : (i j : ℕ) → In i ms → In j ms → before t i j ≡ true → is_of_two ms (i, j) ≡ true
    two i j h m e =
        let n : (i ≡ j → ⊥) = λ s. both_ways _ (before_self t i) (subst (λ x. before t i x ≡ true) (sym s) e) in
        and_from _ _ (ap not (ne_eqb i j n)) (and_from _ _ (stands ms i h) (stands ms j m))

-- they join what the relation joins
in_from : (r : ℕ → ℕ → Bool) (ms : List ℕ) (i j : ℕ) → In j ms → r i j ≡ true → In (i, j) (pairs_from r ms i)
in_from r [] i j h e = absurd h
in_from r (k ∷ ks) i j h e = elim (cases_Bool (r i k)) [
  | inl y ↦ subst (λ l. In (i, j) l) (sym (from_step r ks i k y)) (elim h [ inl s ↦ inl (ap (λ x. (i, x)) s) | inr m ↦ inr (in_from r ks i j m e) ])
  | inr n ↦ subst (λ l. In (i, j) l) (sym (from_skip r ks i k n)) (elim h [ inl s ↦ absurd (both_ways _ n (subst (λ x. r i x ≡ true) s e)) | inr m ↦ in_from r ks i j m e ])
]

in_over : (r : ℕ → ℕ → Bool) (ms is : List ℕ) (i j : ℕ) → In i is → In j ms → r i j ≡ true → In (i, j) (pairs_over r ms is)
unfolding pairs_over
in_over r ms [] i j h m e = absurd h
in_over r ms (k ∷ is) i j (inl s) m e = has_left (λ x. (i, j) ≡ x) (pairs_from r ms k) (pairs_over r ms is) (subst (λ x. In (i, j) (pairs_from r ms x)) s (in_from r ms i j m e))
in_over r ms (k ∷ is) i j (inr h) m e = has_right (λ x. (i, j) ≡ x) (pairs_from r ms k) (pairs_over r ms is) (in_over r ms is i j h m e)

pub pairs_are_before : BeforeIsOfMembers → PairsAreBefore
unfolding joins pairs_of
pairs_are_before within t i j =
    let ms = members t in
    let pairs = pairs_over (before t) ms ms in
    let pair : ℕ × ℕ = (i, j) in
    let test = λ (p : ℕ × ℕ). (i == p.0) && (j == p.1) in
    same_test (list_any test pairs) (before t i j)
    (λ h.
    let found = Has_in (λ (p : ℕ × ℕ). test p ≡ true) pairs (Has_from_any test pairs h) in
    let parts = and_parts (i == found.0.0) (j == found.0.1) found.2 in
    let told : before t found.0.0 found.0.1 ≡ true = Each_at (λ (p : ℕ × ℕ). before t p.0 p.1 ≡ true) pairs found.0 (each_over (λ (p : ℕ × ℕ). before t p.0 p.1 ≡ true) (before t) ms ms (λ a b _ _ e. e)) found.1 in
    subst (λ x. before t x j ≡ true) (sym (eqb-true i found.0.0 parts.0)) (subst (λ y. before t found.0.0 y ≡ true) (sym (eqb-true j found.0.1 parts.1)) told)
    )
    (λ e.
    let w = within t i j e in
    any_from_Has test pairs (Has_weaker (λ (p : ℕ × ℕ). pair ≡ p) (λ (p : ℕ × ℕ). test p ≡ true) pairs (λ p s. subst (λ (q : ℕ × ℕ). test q ≡ true) s (and_from (i == i) (j == j) (eq-eqb i i refl) (eq-eqb j j refl))) (in_over (before t) ms ms i j (In_from_Contains ms i w.0) (In_from_Contains ms j w.1) e))
    )
