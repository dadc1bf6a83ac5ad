-- What is found among the numbers of a range, and what holds of all of them.
use Rattle.std.proofs.Common.{◌≡◌, ℕ, zero, suc, ◌+◌, ◌<◌, ◌≤◌, Bool, true, false, cond, List, [], ◌∷◌, length, map, filter, find, Some, None, refl, sym, ap, ◌∙◌, arith, inl, inr}
use Rattle.std.specs.List.{list_all, range_with_len}
use Rattle.std.proofs.lemmas.Bool.{cases_eq, both_ways, and_parts, and_from}

pub find_in_range : (p : ℕ → Bool) (a n r : ℕ) → a ≤ r → r < a + n → p r ≡ true → ((j : ℕ) → a ≤ j → j < r → p j ≡ false) → find p (range_with_len a n) ≡ Some r
find_in_range p a zero r low high passes before = absurd (omega (arith, low, high))
find_in_range p a (suc n) r low high passes before = elim (cases_eq a r) [
  | inl e ↦ ap (λ b. cond b (Some a) (find p (range_with_len (a + 1) n))) (ap p e ∙ passes) ∙ ap Some e
  | inr d ↦ ap (λ b. cond b (Some a) (find p (range_with_len (a + 1) n))) (before a (omega arith) (omega (arith, low, d)))
      ∙ find_in_range p (a + 1) n r (omega (arith, low, d)) (omega (arith, high)) passes (λ j l h. before j (omega (arith, l)) h)
]

pub find_none_in_range : (p : ℕ → Bool) (a n : ℕ) → ((j : ℕ) → a ≤ j → j < a + n → p j ≡ false) → find p (range_with_len a n) ≡ None
find_none_in_range p a zero fails = refl
find_none_in_range p a (suc n) fails =
    ap (λ b. cond b (Some a) (find p (range_with_len (a + 1) n))) (fails a (omega arith) (omega arith))
    ∙ find_none_in_range p (a + 1) n (λ j l h. fails j (omega (arith, l)) (omega (arith, h)))

all_parts : (t : ℕ → Bool) (b : Bool) (x : ℕ) (xs : List ℕ) → list_all t (cond b (x ∷ xs) xs) ≡ true → (b ≡ true → t x ≡ true) × (list_all t xs ≡ true)
all_parts t true x xs h = let parts = and_parts (t x) (list_all t xs) h in (λ _. parts.0, parts.1)
all_parts t false x xs h = (λ e. absurd (both_ways false refl e), h)

all_from : (t : ℕ → Bool) (b : Bool) (x : ℕ) (xs : List ℕ) → (b ≡ true → t x ≡ true) → list_all t xs ≡ true → list_all t (cond b (x ∷ xs) xs) ≡ true
all_from t true x xs h k = and_from (t x) (list_all t xs) (h refl) k
all_from t false x xs h k = k

pub all_in_range : (t p : ℕ → Bool) (a n : ℕ) → list_all t (filter p (range_with_len a n)) ≡ true → (q : ℕ) → a ≤ q → q < a + n → p q ≡ true → t q ≡ true
all_in_range t p a zero h q low high e = absurd (omega (arith, low, high))
all_in_range t p a (suc n) h q low high e =
    let parts = all_parts t (p a) a (filter p (range_with_len (a + 1) n)) h in
    elim (cases_eq a q) [
      | inl same ↦ ap t (sym same) ∙ parts.0 (ap p same ∙ e)
      | inr other ↦ all_in_range t p (a + 1) n parts.1 q (omega (arith, low, other)) (omega (arith, high)) e
    ]

pub all_in_range_from : (t p : ℕ → Bool) (a n : ℕ) → ((q : ℕ) → a ≤ q → q < a + n → p q ≡ true → t q ≡ true) → list_all t (filter p (range_with_len a n)) ≡ true
all_in_range_from t p a zero h = refl
all_in_range_from t p a (suc n) h =
    all_from t (p a) a (filter p (range_with_len (a + 1) n)) (λ e. h a (omega arith) (omega arith) e)
    (all_in_range_from t p (a + 1) n (λ q low high e. h q (omega (arith, low)) (omega (arith, high)) e))

-- tests that pass together are one
pub same_test : (a b : Bool) → (a ≡ true → b ≡ true) → (b ≡ true → a ≡ true) → a ≡ b
same_test true b f g = sym (f refl)
same_test false true f g = g refl
same_test false false f g = refl

pub length_mapped : {X Y : Type 0} (f : X → Y) (xs : List X) → length (map f xs) ≡ length xs
length_mapped f [] = refl
length_mapped f (x ∷ xs) = ap suc (length_mapped f xs)
