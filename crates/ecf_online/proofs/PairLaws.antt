-- The pairs that a step adds, as a list and as a relation.
use Rattle.std.proofs.Common.{◌≡◌, ◌≢◌, ℕ, zero, suc, ◌+◌, ◌<◌, ◌≤◌, Bool, true, false, not, ◌&&◌, ◌||◌, ◌==◌, if◌then◌else◌, List, [], ◌∷◌, ◌++◌, length, take, get_or, Option, Some, None, option_to_list, refl, sym, ap, ◌∙◌, subst, arith, inl, inr, ◌-◌}
use Rattle.std.specs.List.{list_any}
use Rattle.std.proofs.lemmas.Bool.{cases_Bool, cases_eq, eq-eqb, eqb-true, ne_eqb}
use Rattle.std.proofs.lemmas.List.{append-nil, get_or-append_right, length-append}
use Rattle.std.proofs.lemmas.List.Folds.{list_any-append}
use Rattle.ecf_graph.specs.Pairs.{joins}
use Rattle.ecf_graph.specs.Paths.{with_pair}
use Rattle.ecf_precedence.specs.Newest.{is_writer}
use Rattle.ecf_online.specs.Closure.{IsReady, IsReadyPair}
use Rattle.ecf_online.specs.Pairs.{pairs_to, step_pairs}
use Rattle.ecf_online.proofs.ClosureLaws.{or_none}
use Rattle.ecf_online.proofs.FirstLaws.{take_next}

-- one pair more
pub joins_next : (pairs : List (ℕ × ℕ)) (k : ℕ) (d : ℕ × ℕ) → k < length pairs → (a b : ℕ) → joins (take (k + 1) pairs) a b ≡ with_pair (joins (take k pairs)) (get_or pairs k d).0 (get_or pairs k d).1 a b
unfolding joins with_pair
joins_next pairs k d h a b =
    let test : ℕ × ℕ → Bool = λ p. (a == p.0) && (b == p.1) in
    ap (λ l. list_any test l) (take_next pairs k d h) ∙ (list_any-append test (take k pairs) (get_or pairs k d ∷ []) ∙ ap (λ x. list_any test (take k pairs) || x) (or_none (test (get_or pairs k d))))

pub joins_append : (xs ys : List (ℕ × ℕ)) (a b : ℕ) → joins (xs ++ ys) a b ≡ (joins xs a b || joins ys a b)
unfolding joins
joins_append xs ys a b = list_any-append (λ p. (a == p.0) && (b == p.1)) xs ys

pub pairs_none : (j : ℕ) → pairs_to j [] ≡ []
unfolding pairs_to
pairs_none j = refl

-- a read adds the pair of the writer alone
pub pairs_of_read : (w : Option ℕ) (rs : List ℕ) (j : ℕ) (write : Bool) → write ≡ false → step_pairs w rs j write ≡ pairs_to j (option_to_list w)
pairs_of_read w rs j write e =
    ap (λ b. pairs_to j (option_to_list w) ++ pairs_to j (if b then rs else [])) e ∙
    (ap (λ l. pairs_to j (option_to_list w) ++ l) (pairs_none j) ∙ append-nil (pairs_to j (option_to_list w)))

-- a list goes on with the pair of its first
pub pairs_to_cons : (j i : ℕ) (is : List ℕ) → pairs_to j (i ∷ is) ≡ pairs_to j (i ∷ []) ++ pairs_to j is
unfolding pairs_to
pairs_to_cons j i is = elim (cases_Bool (i == j)) [ inl e ↦ rw e refl | inr e ↦ rw e refl ]

pub pairs_to_same : (i j : ℕ) → i ≡ j → pairs_to j (i ∷ []) ≡ []
unfolding pairs_to
pairs_to_same i j e = rw (eq-eqb i j e) refl

pub pairs_to_apart : (i j : ℕ) → i ≢ j → pairs_to j (i ∷ []) ≡ (i, j) ∷ []
unfolding pairs_to
pairs_to_apart i j n = rw (ne_eqb i j n) refl

and_none : (x y : Bool) → false ≡ (x && (y && false))
and_none true true = refl
and_none true false = refl
and_none false y = refl

-- the pairs to j join those of the list, but j, to j
pub joins_to : (j : ℕ) (l : List ℕ) (a b : ℕ) → joins (pairs_to j l) a b ≡ ((j == b) && (not (a == j) && list_any (λ x. x == a) l))
unfolding joins pairs_to
joins_to j [] a b = and_none (j == b) (not (a == j))
joins_to j (i ∷ is) a b = elim (cases_Bool (i == j)) [
  | inl e ↦ ap (λ x. list_any (λ p. (a == p.0) && (b == p.1)) (if x then pairs_to j is else (i, j) ∷ pairs_to j is)) e ∙ (joins_to j is a b ∙ same (eqb-true i j e))
  | inr e ↦ ap (λ x. list_any (λ p. (a == p.0) && (b == p.1)) (if x then pairs_to j is else (i, j) ∷ pairs_to j is)) e ∙ (ap (λ x. ((a == i) && (b == j)) || x) (joins_to j is a b) ∙ apart e)
]
  where
    drop_first : (x y l : Bool) → (x && (y && l)) ≡ (x && (y && (false || l)))
    drop_first x y l = refl

    drop_all : (x z l : Bool) → (x && (false && l)) ≡ (x && (false && (z || l)))
    drop_all x z l = refl

    same : i ≡ j → ((j == b) && (not (a == j) && list_any (λ x. x == a) is)) ≡ ((j == b) && (not (a == j) && ((i == a) || list_any (λ x. x == a) is)))
    same f = elim (cases_eq i a) [
      | inl g ↦ (let n : not (a == j) ≡ false = ap not (eq-eqb a j (sym g ∙ f)) in rw n refl)
      | inr g ↦ ap (λ x. (j == b) && (not (a == j) && (x || list_any (λ x. x == a) is))) (sym (ne_eqb i a g))
    ]

    first : (y l : Bool) → (y || (y && (true && l))) ≡ (y && true)
    first true l = refl
    first false l = refl

    apart : (i == j) ≡ false → (((a == i) && (b == j)) || ((j == b) && (not (a == j) && list_any (λ x. x == a) is))) ≡ ((j == b) && (not (a == j) && ((i == a) || list_any (λ x. x == a) is)))
    apart e = elim (cases_eq i a) [
      | inl g ↦
          let ai : (a == i) ≡ true = eq-eqb a i (sym g) in
          let ia : (i == a) ≡ true = eq-eqb i a g in
          let aj : not (a == j) ≡ true = ap not (ap (λ x. x == j) (sym g) ∙ e) in
          let bj : (b == j) ≡ (j == b) = swap b j in
          rw (ai, ia, aj, bj) (first (j == b) (list_any (λ x. x == a) is))
      | inr g ↦
          let ai : (a == i) ≡ false = ne_eqb a i (λ f. g (sym f)) in
          let ia : (i == a) ≡ false = ne_eqb i a g in
          rw (ai, ia) refl
    ]
      where
        swap : (x y : ℕ) → (x == y) ≡ (y == x)
        swap x y = elim (cases_eq x y) [ inl f ↦ eq-eqb x y f ∙ sym (eq-eqb y x (sym f)) | inr f ↦ ne_eqb x y f ∙ sym (ne_eqb y x (λ g. f (sym g))) ]

writer_any : (w : Option ℕ) (a : ℕ) → list_any (λ x. x == a) (option_to_list w) ≡ is_writer w a
unfolding is_writer
writer_any None a = refl
writer_any (Some i) a = or_none (i == a)

reader_any : (rs : List ℕ) (write : Bool) (a : ℕ) → list_any (λ x. x == a) (if write then rs else []) ≡ (write && list_any (λ x. x == a) rs)
reader_any rs true a = refl
reader_any rs false a = refl

gathered : (p e n s t : Bool) → (p || ((e && (n && s)) || (e && (n && t)))) ≡ ((e && (n && (s || t))) || p)
gathered true true true true t = refl
gathered true true true false true = refl
gathered true true true false false = refl
gathered true true false s t = refl
gathered true false n s t = refl
gathered false true true true t = refl
gathered false true true false true = refl
gathered false true true false false = refl
gathered false true false s t = refl
gathered false false n s t = refl

-- the pairs with those of a step
pub joins_step : (pairs : List (ℕ × ℕ)) (w : Option ℕ) (rs : List ℕ) (j : ℕ) (write : Bool) (a b : ℕ) →
    joins (pairs ++ step_pairs w rs j write) a b ≡ (((j == b) && (not (a == j) && (is_writer w a || (write && list_any (λ x. x == a) rs)))) || joins pairs a b)
joins_step pairs w rs j write a b =
    let from_writer : joins (pairs_to j (option_to_list w)) a b ≡ ((j == b) && (not (a == j) && is_writer w a)) = joins_to j (option_to_list w) a b ∙ ap (λ x. (j == b) && (not (a == j) && x)) (writer_any w a) in
    let from_readers : joins (pairs_to j (if write then rs else [])) a b ≡ ((j == b) && (not (a == j) && (write && list_any (λ x. x == a) rs))) = joins_to j (if write then rs else []) a b ∙ ap (λ x. (j == b) && (not (a == j) && x)) (reader_any rs write a) in
    joins_append pairs (step_pairs w rs j write) a b ∙ (ap (λ x. joins pairs a b || x) (joins_append (pairs_to j (option_to_list w)) (pairs_to j (if write then rs else [])) a b) ∙
    (ap (λ x. joins pairs a b || (x || joins (pairs_to j (if write then rs else [])) a b)) from_writer ∙
    (ap (λ x. joins pairs a b || (((j == b) && (not (a == j) && is_writer w a)) || x)) from_readers ∙
    gathered (joins pairs a b) (j == b) (not (a == j)) (is_writer w a) (write && list_any (λ x. x == a) rs))))

-- a fact of each of a list
abbrev pub Each : {X : Type 0} → (X → Type 0) → List X → Type 0
Each P [] = Unit {0}
Each P (x ∷ xs) = P x × Each P xs

each_append : {X : Type 0} (P : X → Type 0) (xs ys : List X) → Each P xs → Each P ys → Each P (xs ++ ys)
each_append P [] ys p q = q
each_append P (x ∷ xs) ys p q = (p.0, each_append P xs ys p.1 q)

each_at : {X : Type 0} (P : X → Type 0) (xs : List X) (k : ℕ) (d : X) → Each P xs → k < length xs → P (get_or xs k d)
each_at P [] k d p h = absurd (omega (arith, h))
each_at P (x ∷ xs) zero d p h = p.0
each_at P (x ∷ xs) (suc k) d p h = each_at P xs k d p.1 (omega (arith, h))

each_to : (rows : List (List ℕ)) (j : ℕ) (l : List ℕ) → IsReady rows j → Each (IsReady rows) l → Each (IsReadyPair rows) (pairs_to j l)
unfolding pairs_to
each_to rows j [] h p = tt
each_to rows j (i ∷ is) h p = elim (cases_Bool (i == j)) [
  | inl e ↦ rw e (each_to rows j is h p.1)
  | inr e ↦ rw e ((p.0, h), each_to rows j is h p.1)
]

-- both ends of each new pair have rows with words
pub new_ready : (rows : List (List ℕ)) (pairs : List (ℕ × ℕ)) (w : Option ℕ) (rs : List ℕ) (j : ℕ) (write : Bool) → IsReady rows j → ((i : ℕ) → w ≡ Some i → IsReady rows i) → Each (IsReady rows) rs →
    (k : ℕ) (d : ℕ × ℕ) → length pairs ≤ k → k < length (pairs ++ step_pairs w rs j write) → IsReadyPair rows (get_or (pairs ++ step_pairs w rs j write) k d)
new_ready rows pairs w rs j write h of_writer of_readers k d from below =
    subst (λ p. IsReadyPair rows p) (sym (get_or-append_right pairs (step_pairs w rs j write) (length pairs) k d refl from))
    (each_at (IsReadyPair rows) (step_pairs w rs j write) (k - length pairs) d
    (each_append (IsReadyPair rows) (pairs_to j (option_to_list w)) _ (each_to rows j (option_to_list w) h (writers w of_writer)) (each_to rows j (if write then rs else []) h (readers write)))
    (let e = length-append pairs (step_pairs w rs j write) in omega (arith, e, from, below)))
  where
    writers : (o : Option ℕ) → ((i : ℕ) → o ≡ Some i → IsReady rows i) → Each (IsReady rows) (option_to_list o)
    writers None f = tt
    writers (Some i) f = (f i refl, tt)

    readers : (x : Bool) → Each (IsReady rows) (if x then rs else [])
    readers true = of_readers
    readers false = tt
