-- Words of bits: numbers put in and taken out, and the least of a word.
use Rattle.std.proofs.Common.{◌≡◌, ◌≢◌, ℕ, ◌+◌, ◌*◌, ◌/◌, ◌%◌, ◌^◌, ◌<◌, ◌≤◌, Bool, true, false, ◌||◌, ◌&&◌, not, ◌==◌, List, [], length, get_or, bit_and, bit_or, slice_set, refl, sym, ap, ◌∙◌, arith, ◌⊎◌, ◌-◌, inl, inr, get_or-set_other, get_or-set_same, length-set, w64, zero-le}
use Rattle.std.specs.Int.{bit_at, trailing_zeros}
use Rattle.std.proofs.lemmas.Bool.{eq-eqb, ne_eqb, cases_eq, cases_lt, both_ways, not_from_false}
use Rattle.std.proofs.lemmas.List.{get_or_past}
use Rattle.std.proofs.Math.Nat.{div-add-mod}
use Rattle.std.proofs.lemmas.Nat.Bits.{bit_at-zero, bit_at_set_same, bit_at_set_other, bit_at_clear_same, bit_at_clear_other, bit_at-trailing_zeros}
use Rattle.ecf_rows.specs.RowSet.{is_member, is_used, PutIn, TookOut, Widened, IsFirstOf}

pub member_past : (a : List ℕ) (i : ℕ) → length a ≤ i / 64 → is_member a i ≡ false
unfolding is_member
member_past a i h = ap (λ w. bit_at w (i % 64) == 1) (get_or_past a (i / 64) 0 h) ∙ ap (λ b. b == 1) (bit_at-zero (i % 64))

pub member_none : (i : ℕ) → is_member [] i ≡ false
member_none i = member_past [] i zero-le

pub used_past : (a : List ℕ) (k : ℕ) → length a ≤ k → is_used a k ≡ false
unfolding is_used
used_past a k h = ap (λ w. not (w == 0)) (get_or_past a k 0 h)

pub used_none : (k : ℕ) → is_used [] k ≡ false
used_none k = used_past [] k zero-le

-- where no word of a number is used, the number is no member
pub unused : (a : List ℕ) (i : ℕ) → is_used a (i / 64) ≡ false → is_member a i ≡ false
unfolding is_used is_member
unused a i h = elim (cases_eq (get_or a (i / 64) 0) 0) [
  | inl e ↦ ap (λ w. bit_at w (i % 64) == 1) e ∙ ap (λ b. b == 1) (bit_at-zero (i % 64))
  | inr n ↦ absurd (both_ways _ h (not_from_false _ (ne_eqb _ 0 n)))
]

pub or_false : (x y : Bool) → y ≡ false → (x || y) ≡ x
or_false true y e = refl
or_false false y e = e

pub or_true : (x y : Bool) → y ≡ true → (x || y) ≡ true
or_true true y e = refl
or_true false y e = e

pub and_true : (x y : Bool) → y ≡ true → (x && y) ≡ x
and_true true y e = e
and_true false y e = refl

pub and_false : (x y : Bool) → y ≡ false → (x && y) ≡ false
and_false true y e = e
and_false false y e = refl

-- the word with one bit more
abbrev pub with_bit : ℕ → ℕ → ℕ
with_bit w m = bit_or w (1 * 2 ^ m % 18446744073709551616)

bit_set : (w m n : ℕ) → m < 64 → (bit_at (with_bit w m) n == 1) ≡ ((bit_at w n == 1) || (n == m))
bit_set w m n h = elim (cases_eq n m) [
  | inl e ↦ rw e (ap (λ b. b == 1) (bit_at_set_same w64 w m h) ∙ sym (or_true _ _ (eq-eqb m m refl)))
  | inr d ↦ ap (λ b. b == 1) (bit_at_set_other w64 w m h n d) ∙ sym (or_false _ _ (ne_eqb n m d))
]

-- numbers of one word are one where their bits are
same_place : (k i : ℕ) → k / 64 ≡ i / 64 → (k == i) ≡ (k % 64 == i % 64)
same_place k i e = elim (cases_eq (k % 64) (i % 64)) [
  | inl f ↦ eq-eqb k i (sym (div-add-mod k 64) ∙ (rw (e, f) (div-add-mod i 64))) ∙ sym (eq-eqb _ _ f)
  | inr n ↦ ne_eqb k i (λ f. n (ap (λ x. x % 64) f)) ∙ sym (ne_eqb _ _ n)
]

member_set : (a : List ℕ) (i k w : ℕ) → i / 64 < length a → w ≡ get_or a (i / 64) 0 → is_member (slice_set a (i / 64) (with_bit w (i % 64))) k ≡ (is_member a k || (k == i))
unfolding is_member
member_set a i k w h e = elim (cases_eq (k / 64) (i / 64)) [
  | inl word ↦ (let here : get_or (slice_set a (i / 64) (with_bit w (i % 64))) (k / 64) 0 ≡ with_bit w (i % 64) = rw word (get_or-set_same a (i / 64) (with_bit w (i % 64)) 0 h) in
      ap (λ x. bit_at x (k % 64) == 1) here ∙ (bit_set w (i % 64) (k % 64) (omega arith) ∙ (rw (e, sym word, same_place k i word) refl)))
  | inr other ↦ (let n : (k ≡ i → ⊥) = λ f. other (ap (λ x. x / 64) f) in
      ap (λ x. bit_at x (k % 64) == 1) (get_or-set_other a (i / 64) (k / 64) (with_bit w (i % 64)) 0 other) ∙ sym (or_false _ _ (ne_eqb k i n)))
]

-- a word with a bit isn't 0
has_bit : (w m : ℕ) → bit_at w m ≡ 1 → w ≢ 0
has_bit w m one e = (let none : bit_at w m ≡ 0 = ap (λ x. bit_at x m) e ∙ bit_at-zero m in omega (arith, one, none))

used_set : (a : List ℕ) (i k w : ℕ) → i / 64 < length a → is_used (slice_set a (i / 64) (with_bit w (i % 64))) k ≡ (is_used a k || (k == i / 64))
unfolding is_used
used_set a i k w h = elim (cases_eq k (i / 64)) [
  | inl e ↦ (let here : get_or (slice_set a (i / 64) (with_bit w (i % 64))) k 0 ≡ with_bit w (i % 64) = rw e (get_or-set_same a (i / 64) (with_bit w (i % 64)) 0 h) in
      ap (λ x. not (x == 0)) here ∙ not_from_false _ (ne_eqb _ 0 (has_bit _ (i % 64) (bit_at_set_same w64 w (i % 64) (omega arith)))) ∙ sym (or_true _ _ (eq-eqb k (i / 64) e)))
  | inr n ↦ ap (λ x. not (x == 0)) (get_or-set_other a (i / 64) k (with_bit w (i % 64)) 0 n) ∙ sym (or_false _ _ (ne_eqb k (i / 64) n))
]

pub put_in : (a : List ℕ) (i w : ℕ) → i / 64 < length a → w ≡ get_or a (i / 64) 0 → PutIn a (slice_set a (i / 64) (bit_or w (1 * 2 ^ (i % 64) % 18446744073709551616))) i
put_in a i w h e = record {
  members = λ k. member_set a i k w h e;
  used = λ k. used_set a i k w h;
  as_many = length-set a (i / 64) _;
}

-- a word without one bit
abbrev pub without_bit : ℕ → ℕ → ℕ
without_bit w m = bit_and w (18446744073709551615 - 1 * 2 ^ m % 18446744073709551616)

bit_clear : (w m n : ℕ) → m < 64 → n < 64 → (bit_at (without_bit w m) n == 1) ≡ ((bit_at w n == 1) && not (n == m))
bit_clear w m n h l = elim (cases_eq n m) [
  | inl e ↦ rw e (ap (λ b. b == 1) (bit_at_clear_same w64 w m h) ∙ sym (and_false (bit_at w m == 1) _ (ap not (eq-eqb m m refl))))
  | inr d ↦ ap (λ b. b == 1) (bit_at_clear_other w64 w m h n l d) ∙ sym (and_true (bit_at w n == 1) _ (ap not (ne_eqb n m d)))
]

member_clear : (a : List ℕ) (i k w : ℕ) → i / 64 < length a → w ≡ get_or a (i / 64) 0 → is_member (slice_set a (i / 64) (without_bit w (i % 64))) k ≡ (is_member a k && not (k == i))
unfolding is_member
member_clear a i k w h e = elim (cases_eq (k / 64) (i / 64)) [
  | inl word ↦ (let here : get_or (slice_set a (i / 64) (without_bit w (i % 64))) (k / 64) 0 ≡ without_bit w (i % 64) = rw word (get_or-set_same a (i / 64) (without_bit w (i % 64)) 0 h) in
      ap (λ x. bit_at x (k % 64) == 1) here ∙ (bit_clear w (i % 64) (k % 64) (omega arith) (omega arith) ∙ (rw (e, sym word, same_place k i word) refl)))
  | inr other ↦ (let n : (k ≡ i → ⊥) = λ f. other (ap (λ x. x / 64) f) in
      ap (λ x. bit_at x (k % 64) == 1) (get_or-set_other a (i / 64) (k / 64) (without_bit w (i % 64)) 0 other) ∙ sym (and_true _ _ (ap not (ne_eqb k i n))))
]

-- a word is used after a bit was taken out exactly where it isn't 0
used_clear : (a : List ℕ) (i k w v : ℕ) → i / 64 < length a → w ≡ get_or a (i / 64) 0 → v ≡ without_bit w (i % 64) → is_used (slice_set a (i / 64) (without_bit w (i % 64))) k ≡ (is_used a k && not ((v == 0) && (k == i / 64)))
unfolding is_used
used_clear a i k w v h e f = elim (cases_eq k (i / 64)) [
  | inl g ↦ (let here : get_or (slice_set a (i / 64) (without_bit w (i % 64))) k 0 ≡ v = rw (g, f) (get_or-set_same a (i / 64) (without_bit w (i % 64)) 0 h) in
      ap (λ x. not (x == 0)) here ∙ at_word (cases_eq v 0) g)
  | inr n ↦ ap (λ x. not (x == 0)) (get_or-set_other a (i / 64) k (without_bit w (i % 64)) 0 n) ∙ sym (and_true _ _ (ap not (and_false (v == 0) _ (ne_eqb k (i / 64) n))))
]
  where
    at_word : (v ≡ 0) ⊎ (v ≢ 0) → k ≡ i / 64 → not (v == 0) ≡ (not (get_or a k 0 == 0) && not ((v == 0) && (k == i / 64)))
    at_word (inl z) g = ap not (eq-eqb v 0 z) ∙ sym (and_false _ _ (ap not (ap (λ b. b && (k == i / 64)) (eq-eqb v 0 z) ∙ eq-eqb k (i / 64) g)))
    at_word (inr n) g =
        let old : get_or a k 0 ≢ 0 = λ z. n (f ∙ ap (λ x. without_bit x (i % 64)) (e ∙ ap (λ x. get_or a x 0) (sym g) ∙ z)) in
        ap not (ne_eqb v 0 n) ∙ sym (and_true _ _ (ap not (ap (λ b. b && (k == i / 64)) (ne_eqb v 0 n))) ∙ ap not (ne_eqb (get_or a k 0) 0 old))

pub took_out : (a : List ℕ) (i w v : ℕ) (goes : Bool) → goes ≡ true → i / 64 < length a → w ≡ get_or a (i / 64) 0 → v ≡ without_bit w (i % 64) → TookOut a (slice_set a (i / 64) (bit_and w (18446744073709551615 - 1 * 2 ^ (i % 64) % 18446744073709551616))) i goes (v == 0)
took_out a i w v goes t h e f = record {
  members = λ k. member_clear a i k w h e ∙ ap (λ b. is_member a k && not (b && (k == i))) (sym t);
  used = λ k. used_clear a i k w v h e f;
  as_many = length-set a (i / 64) _;
}

-- nothing is taken out where nothing is to be, or past the end
pub stayed : (a : List ℕ) (i : ℕ) (goes : Bool) → (goes ≡ false) ⊎ (length a ≤ i / 64) → TookOut a a i goes false
stayed a i goes (inl e) = record {
  members = λ k. sym (and_true _ _ (ap (λ b. not (b && (k == i))) e));
  used = λ k. sym (and_true _ _ refl);
  as_many = refl;
}
stayed a i goes (inr past) = record {
  members = λ k. elim (cases_eq k i) [
    | inl e ↦ (let none : is_member a k ≡ false = member_past a k (omega (arith, past, e)) in none ∙ sym (ap (λ b. b && not (goes && (k == i))) none))
    | inr n ↦ sym (and_true _ _ (ap not (and_false goes _ (ne_eqb k i n))))
  ];
  used = λ k. sym (and_true _ _ refl);
  as_many = refl;
}

-- words that were filled up with 0
pub filled : (old new : List ℕ) (n most : ℕ) → length old ≡ n → length new ≡ most → n ≤ most → ((k d : ℕ) → k < most → k < n → get_or new k d ≡ get_or old k d) → ((k d : ℕ) → n ≤ k → k < most → get_or new k d ≡ 0) → Widened old new
unfolding is_member is_used
filled old new n most size len less same zero_there = record {
  members = λ i. ap (λ w. bit_at w (i % 64) == 1) (word (i / 64));
  used = λ k. ap (λ w. not (w == 0)) (word k);
  longer = omega (arith, size, len, less);
}
  where
    word : (k : ℕ) → get_or new k 0 ≡ get_or old k 0
    word k = elim (cases_lt k n) [
      | inl l ↦ same k 0 (omega (arith, l, less)) l
      | inr g ↦ elim (cases_lt k most) [
        | inl l ↦ zero_there k 0 g l ∙ sym (get_or_past old k 0 (omega (arith, size, g)))
        | inr m ↦ get_or_past new k 0 (omega (arith, len, m)) ∙ sym (get_or_past old k 0 (omega (arith, size, g)))
      ]
    ]

at_word : (k m : ℕ) → m < 64 → (64 * k + m) / 64 ≡ k
at_word k m h = omega (arith, h)

at_place : (k m : ℕ) → m < 64 → (64 * k + m) % 64 ≡ m
at_place k m h = omega (arith, h)

-- the lowest bit of a word is its least member
pub lowest : (a : List ℕ) (k w : ℕ) → w ≡ get_or a k 0 → w < 2 ^ 64 → w ≢ 0 → IsFirstOf a k (64 * k + trailing_zeros w64 w)
unfolding is_member
lowest a k w e small n =
    let t = bit_at-trailing_zeros w64 w (omega (arith, n)) small in
    let short : trailing_zeros w64 w < 64 = t.0 in
    let word : (64 * k + trailing_zeros w64 w) / 64 ≡ k = at_word k (trailing_zeros w64 w) short in
    record {
      word = word;
      member = ap (λ x. bit_at x ((64 * k + trailing_zeros w64 w) % 64) == 1) (ap (λ x. get_or a x 0) word ∙ sym e) ∙ ap (λ m. bit_at w m == 1) (at_place k (trailing_zeros w64 w) short) ∙ eq-eqb _ 1 t.1;
      least = λ j l f. (let less : j % 64 < trailing_zeros w64 w = low j l f in
          ap (λ x. bit_at x (j % 64) == 1) (ap (λ x. get_or a x 0) f ∙ sym e) ∙ ap (λ b. b == 1) (t.2 (j % 64) less));
    }
  where
    low : (j : ℕ) → j < 64 * k + trailing_zeros w64 w → j / 64 ≡ k → j % 64 < trailing_zeros w64 w
    low j l f = omega (arith, l, f)

-- a word of 0 has no members
pub empty_word : (a : List ℕ) (k : ℕ) → (k < length a → get_or a k 0 ≡ 0) → is_used a k ≡ false
unfolding is_used
empty_word a k h = elim (cases_lt k (length a)) [
  | inl l ↦ ap not (eq-eqb _ 0 (h l))
  | inr g ↦ ap (λ w. not (w == 0)) (get_or_past a k 0 g)
]
