-- Rows of bits, as plain lists of words.
use Rattle.std.proofs.Common.{◌≡◌, ◌≢◌, ℕ, zero, suc, ◌+◌, ◌*◌, ◌/◌, ◌%◌, ◌^◌, ◌<◌, ◌≤◌, max, Bool, true, false, ◌||◌, ◌==◌, List, length, get_or, bit_and, bit_or, slice_set, refl, sym, ap, ◌∙◌, arith, ◌⊎◌, ◌-◌, inl, inr, get_or-set_other, get_or-set_same, ◌&&◌, not, min}
use Rattle.std.specs.Int.{bit_at, trailing_zeros}
use Rattle.std.proofs.Common.{w64}
use Rattle.std.proofs.lemmas.Bool.{eqb-true, eq-eqb, ne_eqb, cases_eq, cases_lt, cases_Bool, both_ways}
use Rattle.std.proofs.lemmas.List.{get_or_past}
use Rattle.std.proofs.lemmas.Nat.{and_le_l}
use Rattle.std.proofs.Math.Nat.{div-add-mod}
use Rattle.std.proofs.lemmas.Nat.Bits.{bit_at-zero, shr_and_one, bit_at_or, bit_at-lt, bit_at_set_same, bit_at_set_other, bit_at_clear_same, bit_at_clear_other, bit_at_and, bit_at-trailing_zeros}
use Rattle.ecf_graph.specs.RowLemmas.{member_past}
use Rattle.ecf_graph.specs.Rows.{is_member}

pub member_same : (a b : List ℕ) → ((k : ℕ) → get_or a k 0 ≡ get_or b k 0) → (i : ℕ) → is_member a i ≡ is_member b i
unfolding is_member
member_same a b e i = ap (λ w. bit_at w (i % 64) == 1) (e (i / 64))

pub member_test : (a : List ℕ) (i w : ℕ) → w ≡ get_or a (i / 64) 0 → (bit_and (w / 2 ^ (i % 64)) 1 == 1) ≡ is_member a i
unfolding is_member
member_test a i w e = ap (λ b. b == 1) (shr_and_one w (i % 64)) ∙ ap (λ x. bit_at x (i % 64) == 1) e

or_false : (x y : Bool) → y ≡ false → (x || y) ≡ x
or_false true y e = refl
or_false false y e = e

or_true : (x y : Bool) → y ≡ true → (x || y) ≡ true
or_true true y e = refl
or_true false y e = e

max_test : (x y : ℕ) → x < 2 → y < 2 → (max x y == 1) ≡ ((x == 1) || (y == 1))
max_test zero zero h k = refl
max_test zero (suc zero) h k = refl
max_test (suc zero) zero h k = refl
max_test (suc zero) (suc zero) h k = refl
max_test x (suc (suc y)) h k = absurd (omega (arith, k))
max_test (suc (suc x)) y h k = absurd (omega (arith, h))

-- a word union with another is_member the members of both
pub member_or : (a b c : List ℕ) (i : ℕ) → get_or c (i / 64) 0 ≡ bit_or (get_or a (i / 64) 0) (get_or b (i / 64) 0) → is_member c i ≡ (is_member a i || is_member b i)
unfolding is_member
member_or a b c i e =
    ap (λ w. bit_at w (i % 64) == 1) e ∙ (ap (λ x. x == 1) (bit_at_or (get_or a (i / 64) 0) (get_or b (i / 64) 0) (i % 64)) ∙
    max_test _ _ (bit_at-lt _ _) (bit_at-lt _ _))

-- the word with one bit more
abbrev with_bit : ℕ → ℕ → ℕ
with_bit w m = bit_or w (1 * 2 ^ m % 18446744073709551616)

bit_set : (w m n : ℕ) → m < 64 → (bit_at (with_bit w m) n == 1) ≡ ((bit_at w n == 1) || (n == m))
bit_set w m n h = elim (cases_eq n m) [
  | inl e ↦ rw e (ap (λ b. b == 1) (bit_at_set_same w64 w m h) ∙ sym (or_true _ _ (eq-eqb m m refl)))
  | inr d ↦ ap (λ b. b == 1) (bit_at_set_other w64 w m h n d) ∙ sym (or_false _ _ (ne_eqb n m d))
]

-- numbers of one word are one where their bits are
same_place : (k i : ℕ) → k / 64 ≡ i / 64 → (k == i) ≡ (k % 64 == i % 64)
same_place k i e = elim (cases_eq (k % 64) (i % 64)) [
  | inl f ↦ eq-eqb k i (sym (div-add-mod k 64) ∙ (rw (e, f) (div-add-mod i 64))) ∙ sym (eq-eqb _ _ f)
  | inr n ↦ ne_eqb k i (λ f. n (ap (λ x. x % 64) f)) ∙ sym (ne_eqb _ _ n)
]

pub member_set : (a : List ℕ) (i k w : ℕ) → i / 64 < length a → w ≡ get_or a (i / 64) 0 → is_member (slice_set a (i / 64) (bit_or w (1 * 2 ^ (i % 64) % 18446744073709551616))) k ≡ (is_member a k || (k == i))
unfolding is_member
member_set a i k w h e = elim (cases_eq (k / 64) (i / 64)) [
  | inl word ↦ (let here : get_or (slice_set a (i / 64) (with_bit w (i % 64))) (k / 64) 0 ≡ with_bit w (i % 64) = rw word (get_or-set_same a (i / 64) (with_bit w (i % 64)) 0 h) in
      ap (λ x. bit_at x (k % 64) == 1) here ∙ (bit_set w (i % 64) (k % 64) (omega arith) ∙ (rw (e, sym word, same_place k i word) refl)))
  | inr other ↦ (let n : (k ≡ i → ⊥) = λ f. other (ap (λ x. x / 64) f) in
      ap (λ x. bit_at x (k % 64) == 1) (get_or-set_other a (i / 64) (k / 64) (with_bit w (i % 64)) 0 other) ∙ sym (or_false _ _ (ne_eqb k i n)))
]

-- words union below k, and the others as they were
pub record Union (first other now : List ℕ) (k : ℕ) : Type 0 where
  pub done : (m : ℕ) → m < k → get_or now m 0 ≡ bit_or (get_or first m 0) (get_or other m 0)
  pub rest : (m : ℕ) → k ≤ m → get_or now m 0 ≡ get_or first m 0

pub Union-next : (first other now : List ℕ) (k v w : ℕ) → k < length now → v ≡ get_or now k 0 → w ≡ get_or other k 0 → Union first other now k → Union first other (slice_set now k (bit_or v w)) (k + 1)
Union-next first other now k v w h e f j = record {
  done = λ m l. elim (cases_eq m k) [
    | inl same ↦ rw same (get_or-set_same now k (bit_or v w) 0 h ∙ (ap (λ x. bit_or x w) (e ∙ j.rest k (omega arith)) ∙ ap (λ x. bit_or (get_or first k 0) x) f))
    | inr other_one ↦ get_or-set_other now k m (bit_or v w) 0 other_one ∙ j.done m (omega (arith, l, other_one))
  ];
  rest = λ m l. (let n : m ≢ k = omega (arith, l) in get_or-set_other now k m (bit_or v w) 0 n ∙ j.rest m (omega (arith, l)));
}

-- words up to the end of one of the two, where the first has room for all members of the other
pub Union-member : (first other now : List ℕ) (i k : ℕ) → k ≡ min (length first) (length other) → (is_member other i ≡ true → i / 64 < length first) → Union first other now k → is_member now i ≡ (is_member first i || is_member other i)
unfolding is_member
Union-member first other now i k e room j = elim (cases_lt (i / 64) k) [
  | inl l ↦ member_or first other now i (j.done (i / 64) l)
  | inr g ↦ ap (λ x. bit_at x (i % 64) == 1) (j.rest (i / 64) g) ∙ sym (or_false _ _ (none g))
]
  where
    none : k ≤ i / 64 → is_member other i ≡ false
    none g = elim (cases_lt (i / 64) (length other)) [
      | inl l ↦ elim (cases_Bool (is_member other i)) [
        | inl y ↦ (let r : i / 64 < length first = room y in absurd (omega (arith, g, e, l, r)))
        | inr n ↦ n
      ]
      | inr past ↦ member_past other i past
    ]

-- a member stands in one of the words
pub member_within : (a : List ℕ) (i : ℕ) → is_member a i ≡ true → i / 64 < length a
member_within a i h = elim (cases_lt (i / 64) (length a)) [ inl l ↦ l | inr g ↦ absurd (both_ways _ (member_past a i g) h) ]

-- words that were filled up with 0
pub filled : (old new : List ℕ) (n most : ℕ) → length old ≡ n → length new ≡ most → n ≤ most → ((k d : ℕ) → k < most → k < n → get_or new k d ≡ get_or old k d) → ((k d : ℕ) → n ≤ k → k < most → get_or new k d ≡ 0) → (k : ℕ) → get_or new k 0 ≡ get_or old k 0
filled old new n most size len less same zero_there k = elim (cases_lt k n) [
  | inl l ↦ same k 0 (omega (arith, l, less)) l
  | inr g ↦ elim (cases_lt k most) [
    | inl l ↦ zero_there k 0 g l ∙ sym (get_or_past old k 0 (omega (arith, size, g)))
    | inr m ↦ get_or_past new k 0 (omega (arith, len, m)) ∙ sym (get_or_past old k 0 (omega (arith, size, g)))
  ]
]

-- a word without one bit
abbrev without_bit : ℕ → ℕ → ℕ
without_bit w m = bit_and w (18446744073709551615 - 1 * 2 ^ m % 18446744073709551616)

bit_clear : (w m n : ℕ) → m < 64 → n < 64 → (bit_at (without_bit w m) n == 1) ≡ ((bit_at w n == 1) && not (n == m))
bit_clear w m n h l = elim (cases_eq n m) [
  | inl e ↦ rw e (ap (λ b. b == 1) (bit_at_clear_same w64 w m h) ∙ sym (none (bit_at w m == 1) (ap not (eq-eqb m m refl))))
  | inr d ↦ ap (λ b. b == 1) (bit_at_clear_other w64 w m h n l d) ∙ sym (all (bit_at w n == 1) (ap not (ne_eqb n m d)))
]
  where
    none : (x : Bool) {y : Bool} → y ≡ false → (x && y) ≡ false
    none true e = e
    none false e = refl

    all : (x : Bool) {y : Bool} → y ≡ true → (x && y) ≡ x
    all true e = e
    all false e = refl

and_true : (x y : Bool) → y ≡ true → (x && y) ≡ x
and_true true y e = e
and_true false y e = refl

pub member_clear : (a : List ℕ) (i k w : ℕ) → i / 64 < length a → w ≡ get_or a (i / 64) 0 → is_member (slice_set a (i / 64) (bit_and w (18446744073709551615 - 1 * 2 ^ (i % 64) % 18446744073709551616))) k ≡ (is_member a k && not (k == i))
unfolding is_member
member_clear a i k w h e = elim (cases_eq (k / 64) (i / 64)) [
  | inl word ↦ (let here : get_or (slice_set a (i / 64) (without_bit w (i % 64))) (k / 64) 0 ≡ without_bit w (i % 64) = rw word (get_or-set_same a (i / 64) (without_bit w (i % 64)) 0 h) in
      ap (λ x. bit_at x (k % 64) == 1) here ∙ (bit_clear w (i % 64) (k % 64) (omega arith) (omega arith) ∙ (rw (e, sym word, same_place k i word) refl)))
  | inr other ↦ (let n : (k ≡ i → ⊥) = λ f. other (ap (λ x. x / 64) f) in
      ap (λ x. bit_at x (k % 64) == 1) (get_or-set_other a (i / 64) (k / 64) (without_bit w (i % 64)) 0 other) ∙ sym (and_true _ _ (ap not (ne_eqb k i n))))
]

pub member_clear_past : (a : List ℕ) (i k : ℕ) → length a ≤ i / 64 → is_member a k ≡ (is_member a k && not (k == i))
member_clear_past a i k h = elim (cases_eq k i) [
  | inl e ↦ (let f : is_member a k ≡ false = member_past a k (omega (arith, h, e)) in rw f refl)
  | inr n ↦ sym (and_true _ _ (ap not (ne_eqb k i n)))
]

member_bit : (a : List ℕ) (i : ℕ) → is_member a i ≡ true → bit_at (get_or a (i / 64) 0) (i % 64) ≡ 1
unfolding is_member
member_bit a i h = eqb-true _ 1 h

no_bit : (x y m : ℕ) → bit_and x y ≡ 0 → bit_at x m ≡ 1 → bit_at y m ≡ 1 → ⊥
no_bit x y m z p q =
    let bits : bit_at (bit_and x y) m ≡ min (bit_at x m) (bit_at y m) = bit_at_and x y m in
    let none : bit_at (bit_and x y) m ≡ 0 = ap (λ n. bit_at n m) z ∙ bit_at-zero m in
    omega (arith, bits, none, p, q)

pos : (n : ℕ) → (n ≡ 0 → ⊥) → 0 < n
pos n h = omega (arith, h)

below : (n x : ℕ) → n ≤ x → x < 2 ^ 64 → n < 2 ^ 64
below n x h l = omega (arith, h, l)

at_word : (k m : ℕ) → m < 64 → (64 * k + m) / 64 ≡ k
at_word k m h = omega (arith, h)

at_place : (k m : ℕ) → m < 64 → (64 * k + m) % 64 ≡ m
at_place k m h = omega (arith, h)

-- words with a bit in common
pub intersects_from : (a b : List ℕ) (k x y : ℕ) → x ≡ get_or a k 0 → y ≡ get_or b k 0 → x < 2 ^ 64 → (bit_and x y ≡ 0 → ⊥) → (i : ℕ) × (is_member a i ≡ true) × (is_member b i ≡ true)
unfolding is_member
intersects_from a b k x y e f small n =
    let le : bit_and x y ≤ x = and_le_l x y in
    let t = bit_at-trailing_zeros w64 (bit_and x y) (pos (bit_and x y) n) (below (bit_and x y) x le small) in
    let m = trailing_zeros w64 (bit_and x y) in
    let bits : bit_at (bit_and x y) m ≡ min (bit_at x m) (bit_at y m) = bit_at_and x y m in
    let one : bit_at (bit_and x y) m ≡ 1 = t.1 in
    let short : m < 64 = t.0 in
    let word : (64 * k + m) / 64 ≡ k = at_word k m short in
    let place : (64 * k + m) % 64 ≡ m = at_place k m short in
    let x_has : bit_at x m ≡ 1 = let l = bit_at-lt x m in omega (arith, bits, one, l) in
    let y_has : bit_at y m ≡ 1 = let l = bit_at-lt y m in omega (arith, bits, one, l) in
    (64 * k + m, rw (word, place, sym e, x_has) refl, rw (word, place, sym f, y_has) refl)

pub intersects_none : (a b : List ℕ) (count : ℕ) → ((length a ≤ count) ⊎ (length b ≤ count)) → ((m : ℕ) → m < count → bit_and (get_or a m 0) (get_or b m 0) ≡ 0) → (i : ℕ) → is_member a i ≡ true → is_member b i ≡ true → ⊥
intersects_none a b count past none i h k = elim (cases_lt (i / 64) count) [
  | inl l ↦ no_bit (get_or a (i / 64) 0) (get_or b (i / 64) 0) (i % 64) (none (i / 64) l) (member_bit a i h) (member_bit b i k)
  | inr g ↦ elim past [ inl p ↦ both_ways _ (member_past a i (omega (arith, g, p))) h | inr p ↦ both_ways _ (member_past b i (omega (arith, g, p))) k ]
]
