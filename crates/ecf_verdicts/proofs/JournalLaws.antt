-- Legal journals and their first parts.
use Rattle.std.proofs.Common.{◌≡◌, ℕ, suc, zero, ◌+◌, ◌<◌, ◌≤◌, ◌≢◌, Bool, true, false, cond, ◌==◌, List, [], ◌∷◌, ◌++◌, length, take, drop, IsPermutation, take-append-drop, inl, inr, refl, sym, ap, ◌∙◌, subst, arith, filter_map, slice_get, Some, add-one}
use Rattle.std.specs.List.{range_with_len, cons_option}
use Rattle.std.proofs.lemmas.Bool.{cases_eq, eqb-true, eq-eqb}
use Rattle.std.proofs.lemmas.List.{take_at}
use Rattle.std.proofs.lemmas.List.Elements.{filter-append}
use Rattle.std.proofs.lemmas.List.Sorted.{Contains-permutation, IsPermutation-refl, IsPermutation-sym, IsPermutation-trans, IsPermutation-cons, IsPermutation-middle}
use Rattle.ecf_lang.specs.declared.tx.Tx.{Tx}
use Rattle.ecf_verdicts.specs.Journals.{along, places, submitter_at, of_submitter}
use Rattle.ecf_verdicts.specs.SerialLaws.{FirstPartsLegal, LegalWhenWhole, AlongPlaces, AlongEach}
use Rattle.ecf_verdicts.specs.ListLemmas.{Each, In, Pairs, Each_from, Each_at, Each_weaker, Each_from_all, All_from_Each, Pairs_at, Pairs_from_at, In_filter, In_filter_from, Contains_from_In, In_from_Contains}
use Rattle.ecf_verdicts.specs.RisingLemmas.{Rising, filter_rises}

-- the range
range_low : (a n x : ℕ) → In x (range_with_len a n) → a ≤ x
range_low a zero x h = absurd h
range_low a (suc n) x (inl e) = omega (arith, e)
range_low a (suc n) x (inr h) = omega (arith, range_low (a + 1) n x h)

range_high : (a n x : ℕ) → In x (range_with_len a n) → x < a + n
range_high a zero x h = absurd h
range_high a (suc n) x (inl e) = omega (arith, e)
range_high a (suc n) x (inr h) = omega (arith, range_high (a + 1) n x h)

in_range : (a n x : ℕ) → a ≤ x → x < a + n → In x (range_with_len a n)
in_range a zero x h k = absurd (omega arith)
in_range a (suc n) x h k = elim (cases_eq x a) [ inl e ↦ inl e | inr e ↦ inr (in_range (a + 1) n x (omega arith) (omega arith)) ]

range_rises : (a n : ℕ) → Rising (range_with_len a n)
range_rises a zero = tt
range_rises a (suc n) = (Each_from (λ y. a < y) (range_with_len (a + 1) n) (λ y h. omega (arith, range_low (a + 1) n y h)), range_rises (a + 1) n)

length_range : (a n : ℕ) → length (range_with_len a n) ≡ n
length_range a zero = refl
length_range a (suc n) = ap suc (length_range (a + 1) n)

-- two rising lists with the same numbers are one
same_rising : (xs ys : List ℕ) → Rising xs → Rising ys → ((z : ℕ) → In z xs → In z ys) → ((z : ℕ) → In z ys → In z xs) → xs ≡ ys
same_rising [] [] r s f g = refl
same_rising [] (y ∷ ys) r s f g = absurd (g y (inl refl))
same_rising (x ∷ xs) [] r s f g = absurd (f x (inl refl))
same_rising (x ∷ xs) (y ∷ ys) r s f g =
    let same : x ≡ y = elim (f x (inl refl)) [
      | inl e ↦ e
      | inr h ↦ elim (g y (inl refl)) [
        | inl e ↦ sym e
        | inr k ↦ absurd (omega (arith, Each_at (λ z. y < z) ys x s.0 h, Each_at (λ z. x < z) xs y r.0 k))
      ]
    ] in
    let rest : xs ≡ ys = same_rising xs ys r.1 s.1
    (λ z h. elim (f z (inr h)) [ inl e ↦ absurd (omega (arith, Each_at (λ w. x < w) xs z r.0 h, e, same)) | inr k ↦ k ])
    (λ z h. elim (g z (inr h)) [ inl e ↦ absurd (omega (arith, Each_at (λ w. y < w) ys z s.0 h, e, same)) | inr k ↦ k ]) in
    ap (λ w. w ∷ xs) same ∙ ap (λ l. y ∷ l) rest

of_rises : (txs : List Tx) (s : ℕ) (js : List ℕ) → Pairs (λ p q. submitter_at txs p ≡ submitter_at txs q → p < q) js → Rising (of_submitter txs s js)
of_rises txs s [] h = tt
of_rises txs s (j ∷ js) h = go (submitter_at txs j == s) refl (of_rises txs s js h.1)
  where
    go : (b : Bool) → (submitter_at txs j == s) ≡ b → Rising (of_submitter txs s js) → Rising (cond b (j ∷ of_submitter txs s js) (of_submitter txs s js))
    go true e deep = (Each_from (λ q. j < q) (of_submitter txs s js) (λ q i. (let r = In_filter (λ p. submitter_at txs p == s) js q i in Each_at (λ q. submitter_at txs j ≡ submitter_at txs q → j < q) js q h.0 r.0 (eqb-true _ _ e ∙ sym (eqb-true _ _ r.1)))), deep)
    go false e deep = deep

pub first_parts_legal : FirstPartsLegal
first_parts_legal txs journal legal n = record {
  known = All_from_Each (λ p. p < length txs) (take n journal) (Each_from (λ p. p < length txs) (take n journal) (λ p i. omega (arith, range_high 0 (length txs) p (from_journal p (In_take p i)))));
  first_ones = λ s. first s;
}
  where
    from_journal : (p : ℕ) → In p journal → In p (range_with_len 0 (length txs))
    from_journal p i = In_from_Contains (places txs) p (Contains-permutation journal (places txs) p (IsPermutation-sym (places txs) journal legal.each_once) (Contains_from_In journal p i))

    to_journal : (p : ℕ) → In p (range_with_len 0 (length txs)) → In p journal
    to_journal p i = In_from_Contains journal p (Contains-permutation (places txs) journal p legal.each_once (Contains_from_In (places txs) p i))

    in_left : (p : ℕ) (xs ys : List ℕ) → In p xs → In p (xs ++ ys)
    in_left p [] ys i = absurd i
    in_left p (x ∷ xs) ys (inl e) = inl e
    in_left p (x ∷ xs) ys (inr i) = inr (in_left p xs ys i)

    In_take : (p : ℕ) → In p (take n journal) → In p journal
    In_take p i = subst (λ l. In p l) (take-append-drop n journal) (in_left p (take n journal) (drop n journal) i)

    whole : (s : ℕ) → of_submitter txs s journal ≡ of_submitter txs s (places txs)
    whole s = same_rising (of_submitter txs s journal) (of_submitter txs s (places txs))
        (of_rises txs s journal (Pairs_from_at _ journal legal.submitters_in_order))
        (filter_rises (λ p. submitter_at txs p == s) (places txs) (range_rises 0 (length txs)))
        (λ p i. (let r = In_filter (λ p. submitter_at txs p == s) journal p i in In_filter_from (λ p. submitter_at txs p == s) (places txs) p (from_journal p r.0) r.1))
        (λ p i. (let r = In_filter (λ p. submitter_at txs p == s) (places txs) p i in In_filter_from (λ p. submitter_at txs p == s) journal p (to_journal p r.0) r.1))

    first : (s : ℕ) → of_submitter txs s (take n journal) ≡ take (length (of_submitter txs s (take n journal))) (of_submitter txs s (places txs))
    first s =
        let parts : of_submitter txs s journal ≡ of_submitter txs s (take n journal) ++ of_submitter txs s (drop n journal) = ap (λ l. of_submitter txs s l) (sym (take-append-drop n journal)) ∙ filter-append (λ p. submitter_at txs p == s) (take n journal) (drop n journal) in
        sym (take_at (of_submitter txs s (take n journal)) (of_submitter txs s (drop n journal)) (length (of_submitter txs s (take n journal))) refl)
        ∙ ap (λ l. take (length (of_submitter txs s (take n journal))) l) (sym parts ∙ whole s)

take_rises : (n : ℕ) (xs : List ℕ) → Rising xs → Rising (take n xs)
take_rises zero xs r = tt
take_rises (suc n) [] r = tt
take_rises (suc n) (x ∷ xs) r = (Each_take n xs r.0, take_rises n xs r.1)
  where
    Each_take : (n : ℕ) (ys : List ℕ) → Each (λ y. x < y) ys → Each (λ y. x < y) (take n ys)
    Each_take zero ys h = tt
    Each_take (suc n) [] h = tt
    Each_take (suc n) (y ∷ ys) h = (h.0, Each_take n ys h.1)

turns_from : (txs : List Tx) (js : List ℕ) → ((s : ℕ) → Rising (of_submitter txs s js)) → Pairs (λ p q. submitter_at txs p ≡ submitter_at txs q → p < q) js
turns_from txs [] h = tt
turns_from txs (j ∷ js) h = (Each_from _ js (λ q i e. above q i (sym e)), turns_from txs js (λ s. tail s (submitter_at txs j == s) refl (h s)))
  where
    tail : (s : ℕ) (b : Bool) → (submitter_at txs j == s) ≡ b → Rising (cond b (j ∷ of_submitter txs s js) (of_submitter txs s js)) → Rising (of_submitter txs s js)
    tail s true e r = r.1
    tail s false e r = r

    above : (q : ℕ) → In q js → submitter_at txs q ≡ submitter_at txs j → j < q
    above q i e =
        let s = submitter_at txs j in
        let r : Rising (j ∷ of_submitter txs s js) = subst (λ b. Rising (cond b (j ∷ of_submitter txs s js) (of_submitter txs s js))) (eq-eqb s s refl) (h s) in
        Each_at (λ z. j < z) (of_submitter txs s js) q r.0 (In_filter_from (λ p. submitter_at txs p == s) js q i (eq-eqb _ _ e))

distinct_turns : (txs : List Tx) (js : List ℕ) → Pairs (λ p q. submitter_at txs p ≡ submitter_at txs q → p < q) js → Pairs (λ p q. p ≢ q) js
distinct_turns txs [] h = tt
distinct_turns txs (j ∷ js) h = (Each_weaker _ _ js (λ q less e. absurd (omega (arith, less (ap (submitter_at txs) e), e))) h.0, distinct_turns txs js h.1)

-- the list cut at one of it
cut_at : (x : ℕ) (xs : List ℕ) → In x xs → (front : List ℕ) × (back : List ℕ) × (xs ≡ front ++ x ∷ back)
cut_at x [] h = absurd h
cut_at x (y ∷ ys) (inl e) = ([], ys, ap (λ z. z ∷ ys) (sym e))
cut_at x (y ∷ ys) (inr h) = let r = cut_at x ys h in (y ∷ r.0, r.1, ap (λ l. y ∷ l) r.2)

in_cut : (z x : ℕ) (front back : List ℕ) → In z (front ++ x ∷ back) → (z ≡ x → ⊥) → In z (front ++ back)
in_cut z x [] back (inl e) n = absurd (n e)
in_cut z x [] back (inr i) n = i
in_cut z x (y ∷ front) back (inl e) n = inl e
in_cut z x (y ∷ front) back (inr i) n = inr (in_cut z x front back i n)

long_cut : (x : ℕ) (front back : List ℕ) → length (front ++ x ∷ back) ≡ suc (length (front ++ back))
long_cut x [] back = refl
long_cut x (y ∷ front) back = ap suc (long_cut x front back)

-- distinct numbers of a list that are as many as it has are the list in another order
permuted : (xs ys : List ℕ) → Pairs (λ p q. p ≢ q) xs → Each (λ x. In x ys) xs → length xs ≡ length ys → IsPermutation xs ys
permuted [] [] d h e = IsPermutation-refl []
permuted [] (y ∷ ys) d h e = absurd (omega (arith, e))
permuted (x ∷ xs) ys d h e =
    let c = cut_at x ys h.0 in
    let less = permuted xs (c.0 ++ c.1) d.1 (Each_from (λ z. In z (c.0 ++ c.1)) xs (λ z i. in_cut z x c.0 c.1 (subst (λ l. In z l) c.2 (Each_at (λ w. In w ys) xs z h.1 i)) (λ f. Each_at (λ q. x ≢ q) xs z d.0 i (sym f)))) (omega (arith, e, ap (λ l. length l) c.2, long_cut x c.0 c.1)) in
    subst (λ l. IsPermutation (x ∷ xs) l) (sym c.2) (IsPermutation-trans (x ∷ xs) (x ∷ (c.0 ++ c.1)) (c.0 ++ x ∷ c.1) (IsPermutation-cons x xs (c.0 ++ c.1) less) (IsPermutation-sym (c.0 ++ x ∷ c.1) (x ∷ (c.0 ++ c.1)) (IsPermutation-middle c.0 x c.1)))

pub legal_when_whole : LegalWhenWhole
legal_when_whole txs journal so_far long =
    let rises : ((s : ℕ) → Rising (of_submitter txs s journal)) = λ s. subst Rising (sym (so_far.first_ones s)) (take_rises (length (of_submitter txs s journal)) (of_submitter txs s (places txs)) (filter_rises (λ p. submitter_at txs p == s) (places txs) (range_rises 0 (length txs)))) in
    let turns = turns_from txs journal rises in
    let known = Each_from_all (λ p. p < length txs) journal so_far.known in
    record {
      each_once = IsPermutation-sym journal (places txs) (permuted journal (places txs) (distinct_turns txs journal turns) (Each_weaker _ _ journal (λ p l. in_range 0 (length txs) p (omega arith) (omega arith)) known) (long ∙ sym (length_range 0 (length txs))));
      submitters_in_order = Pairs_at (λ p q. submitter_at txs p ≡ submitter_at txs q → p < q) journal turns;
    }

-- the transactions at places
along_tail : (x : Tx) (xs : List Tx) (a n : ℕ) → filter_map (λ p. slice_get (x ∷ xs) p) (range_with_len (suc a) n) ≡ filter_map (λ p. slice_get xs p) (range_with_len a n)
along_tail x xs a zero = refl
along_tail x xs a (suc n) = rw (add-one (suc a), add-one a) (ap (λ l. cons_option (slice_get xs a) l) (along_tail x xs (suc a) n))

pub along_places : AlongPlaces
along_places [] = refl
along_places (x ∷ xs) = ap (λ l. x ∷ l) (along_tail x xs 0 (length xs) ∙ along_places xs)

read_there : (xs : List Tx) (p : ℕ) → p < length xs → (x : Tx) × (slice_get xs p ≡ Some x)
read_there [] p h = absurd (omega arith)
read_there (x ∷ xs) zero h = (x, refl)
read_there (x ∷ xs) (suc p) h = read_there xs p (omega arith)

along_known : (txs : List Tx) (js : List ℕ) → Each (λ p. p < length txs) js → length (along txs js) ≡ length js
along_known txs [] h = refl
along_known txs (j ∷ js) h = let r = read_there txs j h.0 in rw r.1 (ap suc (along_known txs js h.1))

pub along_each : AlongEach
along_each txs journal legal = along_known txs journal (Each_from_all (λ p. p < length txs) journal legal.known)
