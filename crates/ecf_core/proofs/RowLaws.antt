-- Rows and journal of a book agree, whatever legal entries come.
use Rattle.std.proofs.Common.{◌≡◌, ℕ, suc, zero, ◌<◌, ◌≢◌, Bool, true, false, cond, not, ◌==◌, List, [], ◌∷◌, ◌++◌, length, take, map, Some, filter, get_or, append_assoc, length-set, inl, inr, refl, sym, ap, ◌∙◌, subst, arith}
use Rattle.std.specs.Prelude.{slice_get, slice_set}
use Rattle.std.specs.List.{range_with_len, list_all}
use Rattle.std.proofs.lemmas.Bool.{cases_eq, eqb-true, eq-eqb}
use Rattle.std.proofs.lemmas.List.{get_or-set_same, get_or-set_other, take_at, append-nil, length_push}
use Rattle.std.proofs.lemmas.List.Elements.{filter-append}
use Rattle.ecf_lang.specs.declared.tx.Tx.{Tx}
use Rattle.ecf_verdicts.specs.Journals.{IsLegalSoFar, places, submitter_at, of_submitter}
use Rattle.ecf_verdicts.specs.ListLemmas.{Each, In, Each_from, Each_at, Each_weaker, In_filter, In_filter_from, All_from_Each}
use Rattle.ecf_verdicts.specs.RisingLemmas.{Rising, filter_rises}
use Rattle.ecf_core.specs.declared.book.RowState.{RowState}
use Rattle.ecf_core.specs.declared.book.RowState.TheVariants as row
use Rattle.ecf_core.specs.declared.book.LogWhat.{LogWhat}
use Rattle.ecf_core.specs.declared.book.LogWhat.TheVariants as log
use Rattle.ecf_core.specs.Book.{Opening, Book, row_at, is_claimed, is_done, stales_under, earlier_rows, has_claim_left, may_be_claimed, as_claimed, as_stale, as_freed, after_change}
use Rattle.ecf_core.specs.Legal.{IsLegalChange}
use Rattle.ecf_core.proofs.ListLaws.{range_high, in_range, range_rises, false_not_true, In_right, In_either, Each_more, rises_right, and_left, and_right, not_true, not_false, each_all, found_in, found_first, get_left, get_last, none_not_some}

-- the state at a place of some rows
abbrev pub state : List RowState → ℕ → RowState
state rows r = get_or rows r (row.Free 0)

abbrev pub Done : List RowState → ℕ → Type 0
Done rows r = is_done (state rows r) ≡ true

abbrev pub Open : List RowState → ℕ → Type 0
Open rows r = is_done (state rows r) ≡ false

-- of a submitter, what was placed and then what is open
pub record Split (txs : List Tx) (rows : List RowState) (journal : List ℕ) (s : ℕ) : Type 0 where
  pub rest : List ℕ
  pub parts : of_submitter txs s (places txs) ≡ of_submitter txs s journal ++ rest
  pub opens : Each (Open rows) rest

-- rows and journal agree
pub record Agree (txs : List Tx) (rows : List RowState) (journal : List ℕ) : Type 0 where
  pub as_many : length rows ≡ length txs
  pub split : (s : ℕ) → Split txs rows journal s
  pub dones : Each (Done rows) journal
  pub known : Each (λ r. r < length txs) journal
  pub turns : (r : ℕ) → is_claimed (state rows r) ≡ true → Each (Done rows) (earlier_rows txs r)
  pub counted : length (filter is_done rows) ≡ length journal
  pub numbers : (r n : ℕ) → state rows r ≡ row.Done n → (m : ℕ) × (n ≡ suc m) × (slice_get journal m ≡ Some r)

pub so_far : (txs : List Tx) (rows : List RowState) (journal : List ℕ) → Agree txs rows journal → IsLegalSoFar txs journal
so_far txs rows journal agree = record {
  known = All_from_Each (λ p. p < length txs) journal agree.known;
  first_ones = λ s. (let split = agree.split s in sym (take_at (of_submitter txs s journal) split.rest (length (of_submitter txs s journal)) refl) ∙ ap (λ l. take (length (of_submitter txs s journal)) l) (sym split.parts));
}

pub state_map : (txs : List Tx) (r : ℕ) → state (map (λ _. row.Free 0) txs) r ≡ row.Free 0
state_map [] r = refl
state_map (t ∷ txs) zero = refl
state_map (t ∷ txs) (suc r) = state_map txs r

length_rows : (txs : List Tx) → length (map (λ _. row.Free 0) txs) ≡ length txs
length_rows [] = refl
length_rows (t ∷ txs) = ap suc (length_rows txs)

no_done : (txs : List Tx) → length (filter is_done (map (λ _. row.Free 0) txs)) ≡ 0
no_done [] = refl
no_done (t ∷ txs) = no_done txs

-- how many are Done, after a row that wasn't gets another state
count_same : (rows : List RowState) (r : ℕ) (x : RowState) → Open rows r → is_done x ≡ false → length (filter is_done (slice_set rows r x)) ≡ length (filter is_done rows)
count_same [] r x e f = refl
count_same (y ∷ rows) zero x e f = ap (λ b. length (cond b (x ∷ filter is_done rows) (filter is_done rows))) f ∙ sym (ap (λ b. length (cond b (y ∷ filter is_done rows) (filter is_done rows))) e)
count_same (y ∷ rows) (suc r) x e f = go (is_done y) (count_same rows r x e f)
  where
    go : (b : Bool) → length (filter is_done (slice_set rows r x)) ≡ length (filter is_done rows) → length (cond b (y ∷ filter is_done (slice_set rows r x)) (filter is_done (slice_set rows r x))) ≡ length (cond b (y ∷ filter is_done rows) (filter is_done rows))
    go true deep = ap suc deep
    go false deep = deep

count_more : (rows : List RowState) (r : ℕ) (x : RowState) → r < length rows → Open rows r → is_done x ≡ true → length (filter is_done (slice_set rows r x)) ≡ suc (length (filter is_done rows))
count_more [] r x l e f = absurd (omega arith)
count_more (y ∷ rows) zero x l e f = ap (λ b. length (cond b (x ∷ filter is_done rows) (filter is_done rows))) f ∙ sym (ap (λ b. suc (length (cond b (y ∷ filter is_done rows) (filter is_done rows)))) e)
count_more (y ∷ rows) (suc r) x l e f = go (is_done y) (count_more rows r x (omega arith) e f)
  where
    go : (b : Bool) → length (filter is_done (slice_set rows r x)) ≡ suc (length (filter is_done rows)) → length (cond b (y ∷ filter is_done (slice_set rows r x)) (filter is_done (slice_set rows r x))) ≡ suc (length (cond b (y ∷ filter is_done rows) (filter is_done rows)))
    go true deep = ap suc deep
    go false deep = deep

pub count_all : (rows : List RowState) → Each (λ x. is_done x ≡ true) rows → length (filter is_done rows) ≡ length rows
count_all [] h = refl
count_all (x ∷ rows) h = ap (λ b. length (cond b (x ∷ filter is_done rows) (filter is_done rows))) h.0 ∙ ap suc (count_all rows h.1)

pub at_first : (txs : List Tx) → Agree txs (map (λ _. row.Free 0) txs) []
at_first txs = record {
  as_many = length_rows txs;
  split = λ s. record { rest = of_submitter txs s (places txs); parts = refl; opens = Each_from (Open _) (of_submitter txs s (places txs)) (λ r i. ap is_done (state_map txs r)) };
  dones = tt;
  known = tt;
  turns = λ r e. false_not_true (ap is_claimed (state_map txs r)) e;
  counted = no_done txs;
  numbers = λ r n e. false_not_true refl (ap is_done (sym (state_map txs r) ∙ e));
}

-- a row that isn't Done gets another state that isn't
pub moved : (txs : List Tx) (rows : List RowState) (journal : List ℕ) (r : ℕ) (x : RowState) → Agree txs rows journal → r < length rows → Open rows r → is_done x ≡ false → (is_claimed x ≡ true → Each (Done rows) (earlier_rows txs r)) → Agree txs (slice_set rows r x) journal
moved txs rows journal r x agree inside is_open stays turn = record {
  as_many = length-set rows r x ∙ agree.as_many;
  split = λ s. (let split = agree.split s in record { rest = split.rest; parts = split.parts; opens = Each_weaker _ _ split.rest (λ q e. same q ∙ e) split.opens });
  dones = dones journal agree.dones;
  known = agree.known;
  turns = λ q e. dones (earlier_rows txs q) (elim (cases_eq q r) [
    | inl f ↦ subst (λ z. Each (Done rows) (earlier_rows txs z)) (sym f) (turn (ap is_claimed (sym (here q f)) ∙ e))
    | inr f ↦ agree.turns q (ap is_claimed (sym (there q f)) ∙ e)
  ]);
  counted = count_same rows r x is_open stays ∙ agree.counted;
  numbers = λ q n e. elim (cases_eq q r) [
    | inl f ↦ false_not_true stays (ap is_done (sym (here q f) ∙ e))
    | inr f ↦ agree.numbers q n (sym (there q f) ∙ e)
  ];
}
  where
    here : (q : ℕ) → q ≡ r → state (slice_set rows r x) q ≡ x
    here q f = ap (λ z. state (slice_set rows r x) z) f ∙ get_or-set_same rows r x (row.Free 0) inside

    there : (q : ℕ) → q ≢ r → state (slice_set rows r x) q ≡ state rows q
    there q f = get_or-set_other rows r q x (row.Free 0) f

    same : (q : ℕ) → is_done (state (slice_set rows r x) q) ≡ is_done (state rows q)
    same q = elim (cases_eq q r) [
      | inl f ↦ ap is_done (here q f) ∙ stays ∙ sym is_open ∙ ap (λ z. is_done (state rows z)) (sym f)
      | inr f ↦ ap is_done (there q f)
    ]

    dones : (qs : List ℕ) → Each (Done rows) qs → Each (Done (slice_set rows r x)) qs
    dones qs h = Each_weaker _ _ qs (λ q e. same q ∙ e) h

-- a row is placed whose submitter's earlier ones are Done
pub put_down : (txs : List Tx) (rows : List RowState) (journal : List ℕ) (r : ℕ) → Agree txs rows journal → r < length rows → Open rows r → Each (Done rows) (earlier_rows txs r) → Agree txs (slice_set rows r (row.Done (suc (length journal)))) (journal ++ r ∷ [])
put_down txs rows journal r agree inside is_open turn = record {
  as_many = length-set rows r _ ∙ agree.as_many;
  split = λ s. new s (submitter_at txs r == s) refl (agree.split s);
  dones = Each_more _ journal r (dones journal agree.dones) (ap is_done (here r refl));
  known = Each_more _ journal r agree.known (omega (arith, inside, agree.as_many));
  turns = λ q e. dones (earlier_rows txs q) (elim (cases_eq q r) [
    | inl f ↦ false_not_true (ap is_claimed (here q f)) e
    | inr f ↦ agree.turns q (ap is_claimed (sym (there q f)) ∙ e)
  ]);
  counted = count_more rows r (row.Done (suc (length journal))) inside is_open refl ∙ omega (arith, agree.counted, length_push journal r);
  numbers = λ q n e. elim (cases_eq q r) [
    | inl f ↦ (length journal, done_same n (suc (length journal)) (sym e ∙ here q f), get_last journal r ∙ ap Some (sym f))
    | inr f ↦ let old = agree.numbers q n (sym (there q f) ∙ e) in (old.0, old.1, get_left journal (r ∷ []) old.0 q old.2)
  ];
}
  where
    now : List RowState
    now = slice_set rows r (row.Done (suc (length journal)))

    done_same : (a b : ℕ) → row.Done a ≡ row.Done b → a ≡ b
    done_same a b e = ap number e
      where
        number : RowState → ℕ
        number (row.Free c) = 0
        number (row.Claimed t c s) = 0
        number (row.Done n) = n

    here : (q : ℕ) → q ≡ r → state (slice_set rows r (row.Done (suc (length journal)))) q ≡ row.Done (suc (length journal))
    here q f = ap (λ z. state (slice_set rows r (row.Done (suc (length journal)))) z) f ∙ get_or-set_same rows r (row.Done (suc (length journal))) (row.Free 0) inside

    there : (q : ℕ) → q ≢ r → state (slice_set rows r (row.Done (suc (length journal)))) q ≡ state rows q
    there q f = get_or-set_other rows r q (row.Done (suc (length journal))) (row.Free 0) f

    dones : (qs : List ℕ) → Each (Done rows) qs → Each (Done (slice_set rows r (row.Done (suc (length journal))))) qs
    dones qs h = Each_weaker _ _ qs (λ q e. elim (cases_eq q r) [ inl f ↦ ap is_done (here q f) | inr f ↦ ap is_done (there q f) ∙ e ]) h

    -- still open
    opens : (qs : List ℕ) → Each (Open rows) qs → ((q : ℕ) → In q qs → q ≢ r) → Each (Open (slice_set rows r (row.Done (suc (length journal))))) qs
    opens qs h other = Each_from _ qs (λ q i. ap is_done (there q (other q i)) ∙ Each_at (Open rows) qs q h i)

    of_this : (s q : ℕ) → In q (of_submitter txs s (places txs)) → (submitter_at txs q == s) ≡ true
    of_this s q i = (In_filter (λ p. submitter_at txs p == s) (places txs) q i).1

    adds : (s : ℕ) → of_submitter txs s (journal ++ r ∷ []) ≡ of_submitter txs s journal ++ of_submitter txs s (r ∷ [])
    adds s = filter-append (λ p. submitter_at txs p == s) journal (r ∷ [])

    split_off : (s : ℕ) (rest : List ℕ) → (submitter_at txs r == s) ≡ true → of_submitter txs s (places txs) ≡ of_submitter txs s journal ++ rest → Each (Open rows) rest → In r rest → (rest' : List ℕ) × (rest ≡ r ∷ rest')
    split_off s [] e parts h i = absurd i
    split_off s (x ∷ xs) e parts h (inl f) = (xs, ap (λ z. z ∷ xs) (sym f))
    split_off s (x ∷ xs) e parts h (inr i) =
        let rises = rises_right (of_submitter txs s journal) (x ∷ xs) (subst Rising parts (filter_rises (λ p. submitter_at txs p == s) (places txs) (range_rises 0 (length txs)))) in
        let below : x < r = Each_at (λ z. x < z) xs r rises.0 i in
        let from : In x (of_submitter txs s (places txs)) = subst (λ l. In x l) (sym parts) (In_right x (of_submitter txs s journal) (x ∷ xs) (inl refl)) in
        let before : In x (earlier_rows txs r) = In_filter_from (λ p. submitter_at txs p == submitter_at txs r) (range_with_len 0 r) x (in_range 0 r x (omega arith) (omega (arith, below))) (eq-eqb _ _ (eqb-true _ _ (of_this s x from) ∙ sym (eqb-true _ _ e))) in
        false_not_true h.0 (Each_at (Done rows) (earlier_rows txs r) x turn before)

    new : (s : ℕ) (b : Bool) → (submitter_at txs r == s) ≡ b → Split txs rows journal s → Split txs (slice_set rows r (row.Done (suc (length journal)))) (journal ++ r ∷ []) s
    new s false e split = record {
      rest = split.rest;
      parts = split.parts ∙ ap (λ l. l ++ split.rest) (sym (append-nil (of_submitter txs s journal)) ∙ ap (λ b. of_submitter txs s journal ++ cond b (r ∷ []) []) (sym e) ∙ sym (adds s));
      opens = opens split.rest split.opens (λ q i f. false_not_true (ap (λ z. submitter_at txs z == s) f ∙ e) (of_this s q (subst (λ l. In q l) (sym split.parts) (In_right q (of_submitter txs s journal) split.rest i))));
    }
    new s true e split =
        let listed : In r (of_submitter txs s (places txs)) = In_filter_from (λ p. submitter_at txs p == s) (places txs) r (in_range 0 (length txs) r (omega arith) (omega (arith, inside, agree.as_many))) e in
        let waits : In r split.rest = elim (In_either r (of_submitter txs s journal) split.rest (subst (λ l. In r l) split.parts listed)) [
          | inl i ↦ false_not_true is_open (Each_at (Done rows) journal r agree.dones (In_filter (λ p. submitter_at txs p == s) journal r i).0)
          | inr i ↦ i
        ] in
        let off = split_off s split.rest e split.parts split.opens waits in
        let rises = rises_right (of_submitter txs s journal) (r ∷ off.0) (subst Rising (split.parts ∙ ap (λ l. of_submitter txs s journal ++ l) off.1) (filter_rises (λ p. submitter_at txs p == s) (places txs) (range_rises 0 (length txs)))) in
        let left : Each (Open rows) (r ∷ off.0) = subst (Each (Open rows)) off.1 split.opens in
        record {
          rest = off.0;
          parts = split.parts ∙ ap (λ l. of_submitter txs s journal ++ l) off.1 ∙ sym (append_assoc (of_submitter txs s journal) (r ∷ []) off.0) ∙ ap (λ l. l ++ off.0) (ap (λ b. of_submitter txs s journal ++ cond b (r ∷ []) []) (sym e) ∙ sym (adds s));
          opens = opens off.0 left.1 (λ q i f. (let above : r < q = Each_at (λ z. r < z) off.0 q rises.0 i in absurd (omega (arith, above, f))));
        }

-- what a row's state says of it
free_is_open : (x : RowState) → has_claim_left x ≡ true → is_done x ≡ false
free_is_open (row.Free c) e = refl
free_is_open (row.Claimed t c s) e = refl
free_is_open (row.Done n) e = sym e

claimed_open : (t : ℕ) (x : RowState) → is_done x ≡ false → is_done (as_claimed t x) ≡ false
claimed_open t (row.Free c) e = refl
claimed_open t (row.Claimed u c s) e = refl
claimed_open t (row.Done n) e = e

staler_open : (x : RowState) → is_done x ≡ false → is_done (as_stale x) ≡ false
staler_open (row.Free c) e = refl
staler_open (row.Claimed t c s) e = refl
staler_open (row.Done n) e = e

freed_open : (x : RowState) → is_done x ≡ false → is_done (as_freed x) ≡ false
freed_open (row.Free c) e = refl
freed_open (row.Claimed t c s) e = refl
freed_open (row.Done n) e = e

freed_unclaimed : (x : RowState) → is_claimed (as_freed x) ≡ false
freed_unclaimed (row.Free c) = refl
freed_unclaimed (row.Claimed t c s) = refl
freed_unclaimed (row.Done n) = refl

pub held_open : (t : ℕ) (x : RowState) (n : ℕ) → stales_under t x ≡ Some n → is_done x ≡ false
held_open t (row.Free c) n e = refl
held_open t (row.Claimed u c s) n e = refl
held_open t (row.Done m) n e = none_not_some e

pub held_claimed : (t : ℕ) (x : RowState) (n : ℕ) → stales_under t x ≡ Some n → is_claimed x ≡ true
held_claimed t (row.Free c) n e = none_not_some e
held_claimed t (row.Claimed u c s) n e = refl
held_claimed t (row.Done m) n e = none_not_some e

pub claimed_inside : (rows : List RowState) (r : ℕ) → is_claimed (state rows r) ≡ true → r < length rows
claimed_inside [] r e = false_not_true refl e
claimed_inside (x ∷ rows) zero e = omega arith
claimed_inside (x ∷ rows) (suc r) e = omega (arith, claimed_inside rows r e)

held_down : (o : Opening) (b : Book) (r ticket n : ℕ) → Agree o.txs b.rows b.journal → stales_under ticket (row_at b r) ≡ Some n → Agree o.txs (slice_set b.rows r (row.Done (suc (length b.journal)))) (b.journal ++ r ∷ [])
held_down o b r ticket n agree held =
    let is_held = held_claimed ticket (row_at b r) n held in
    put_down o.txs b.rows b.journal r agree (claimed_inside b.rows r is_held) (held_open ticket (row_at b r) n held) (agree.turns r is_held)

held_staler : (o : Opening) (b : Book) (r ticket n : ℕ) → Agree o.txs b.rows b.journal → stales_under ticket (row_at b r) ≡ Some n → Agree o.txs (slice_set b.rows r (as_stale (row_at b r))) b.journal
held_staler o b r ticket n agree held =
    let is_held = held_claimed ticket (row_at b r) n held in
    let is_open = held_open ticket (row_at b r) n held in
    moved o.txs b.rows b.journal r (as_stale (row_at b r)) agree (claimed_inside b.rows r is_held) is_open (staler_open (row_at b r) is_open) (λ _. agree.turns r is_held)

-- a legal entry keeps rows and journal in agreement
pub agree_step : (o : Opening) (b : Book) (r ticket : ℕ) (what : LogWhat) → Agree o.txs b.rows b.journal → IsLegalChange o b r ticket what → Agree o.txs (after_change o b r ticket what).rows (after_change o b r ticket what).journal
agree_step o b r ticket log.Claimed agree legal =
    let r_in = found_in (may_be_claimed o b) (places o.txs) r legal.0 in
    let free = and_left (has_claim_left (row_at b r)) (list_all (λ q. is_done (row_at b q)) (earlier_rows o.txs r)) r_in.1 in
    let dones = each_all (λ q. is_done (row_at b q)) (earlier_rows o.txs r) (and_right (has_claim_left (row_at b r)) (list_all (λ q. is_done (row_at b q)) (earlier_rows o.txs r)) r_in.1) in
    let inside : r < length b.rows = omega (arith, agree.as_many, range_high 0 (length o.txs) r r_in.0) in
    moved o.txs b.rows b.journal r (as_claimed ticket (row_at b r)) agree inside (free_is_open (row_at b r) free) (claimed_open ticket (row_at b r) (free_is_open (row_at b r) free)) (λ _. dones)
agree_step o b r ticket (log.Placed seq) agree legal = held_down o b r ticket legal.0.0 agree legal.0.1
agree_step o b r ticket (log.Stale cell was now) agree legal = held_staler o b r ticket legal.0.0 agree legal.0.1
agree_step o b r ticket (log.LastStale cell was now) agree legal = held_staler o b r ticket legal.0.0 agree legal.0.1
agree_step o b r ticket (log.Here seq) agree legal = held_down o b r ticket legal.0.0 agree legal.0.1
agree_step o b r ticket log.Freed agree legal =
    let is_open = held_open ticket (row_at b r) legal.0 legal.1 in
    moved o.txs b.rows b.journal r (as_freed (row_at b r)) agree (claimed_inside b.rows r (held_claimed ticket (row_at b r) legal.0 legal.1)) is_open (freed_open (row_at b r) is_open) (λ e. false_not_true (freed_unclaimed (row_at b r)) e)
agree_step o b r ticket (log.Finished seq) agree legal =
    let r_in = found_in (λ q. not (is_done (row_at b q))) (places o.txs) r legal.1 in
    let inside : r < length b.rows = omega (arith, agree.as_many, range_high 0 (length o.txs) r r_in.0) in
    let dones : Each (Done b.rows) (earlier_rows o.txs r) = Each_from (Done b.rows) (earlier_rows o.txs r) (λ q i. not_false _ (found_first (λ q. not (is_done (row_at b q))) 0 (length o.txs) r legal.1 q (omega arith) (omega (arith, range_high 0 r q (In_filter (λ p. submitter_at o.txs p == submitter_at o.txs r) (range_with_len 0 r) q i).0)))) in
    put_down o.txs b.rows b.journal r agree inside (not_true _ r_in.1) dones
agree_step o b r ticket (log.Off k) agree legal = agree
