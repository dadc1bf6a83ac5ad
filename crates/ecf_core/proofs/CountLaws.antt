-- How many entries a row has, how many of them are stale under a ticket, and which tickets are given.
use Rattle.std.proofs.Common.{◌≡◌, ℕ, suc, zero, ◌+◌, ◌*◌, ◌<◌, ◌≤◌, ◌≢◌, Bool, true, false, cond, not, ◌&&◌, ◌==◌, List, [], ◌∷◌, ◌++◌, length, map, Some, None, inl, inr, refl, sym, ap, ◌∙◌, subst, arith}
use Rattle.std.specs.Prelude.{slice_set, filter, nat_lt}
use Rattle.std.specs.List.{range_with_len, list_all}
use Rattle.std.proofs.lemmas.Bool.{cases_eq, eqb-true, eq-eqb, ltb-true}
use Rattle.std.proofs.lemmas.List.{get_or-set_same, get_or-set_other, length_push, append-nil, map-append}
use Rattle.std.proofs.lemmas.List.Elements.{filter-append}
use Rattle.ecf_lang.specs.declared.limits.TheConstants.{MAX_CLAIMS, MAX_STALES}
use Rattle.ecf_lang.specs.declared.tx.Tx.{Tx}
use Rattle.ecf_verdicts.specs.Journals.{places}
use Rattle.ecf_core.specs.declared.book.RowState.{RowState}
use Rattle.ecf_core.specs.declared.book.RowState.TheVariants as row
use Rattle.ecf_core.specs.declared.book.LogEntry.{LogEntry}
use Rattle.ecf_core.specs.declared.book.LogWhat.{LogWhat}
use Rattle.ecf_core.specs.declared.book.LogWhat.TheVariants as log
use Rattle.ecf_core.specs.Book.{Opening, Book, new_book, row_at, is_claimed, is_done, stales_under, earlier_rows, has_claim_left, may_be_claimed, as_claimed, as_stale, as_freed, after_change, after}
use Rattle.ecf_core.specs.Legal.{IsLegalChange, IsHistory}
use Rattle.ecf_core.specs.Counts.{is_off, is_stale, gives_ticket, most_entries, entries_of, stales_of, given_tickets}
use Rattle.ecf_core.proofs.ListLaws.{range_high, false_not_true, none_not_some, some_same, and_left, found_in}
use Rattle.ecf_core.proofs.RowLaws.{state, held_claimed, claimed_inside}
use Rattle.ecf_core.proofs.ReachLaws.{Sound, sound_first, sound_step, goes}

-- a list's count with one more
one_more : {X : Type 0} (p : X → Bool) (xs : List X) (x : X) → length (filter p (xs ++ x ∷ [])) ≡ cond (p x) (suc (length (filter p xs))) (length (filter p xs))
one_more p xs x = ap (λ l. length l) (filter-append p xs (x ∷ [])) ∙ go (p x)
  where
    go : (b : Bool) → length (filter p xs ++ cond b (x ∷ []) []) ≡ cond b (suc (length (filter p xs))) (length (filter p xs))
    go true = omega (arith, length_push (filter p xs) x)
    go false = ap (λ l. length l) (append-nil (filter p xs))

not_same : (a b : ℕ) → a ≢ b → (a == b) ≡ false
not_same a b d = go (a == b) refl
  where
    go : (c : Bool) → (a == b) ≡ c → c ≡ false
    go true e = absurd (d (eqb-true a b e))
    go false e = refl

-- a claim, its stale commits and its end
abbrev per_claim : ℕ
per_claim = MAX_STALES + 2

-- what is known of a row's state by its entries
abbrev pub Within : ℕ → RowState → Type 0
Within n (row.Free c) = (n ≤ per_claim * c) × (c ≤ MAX_CLAIMS)
Within n (row.Claimed t c s) = (suc (n + MAX_STALES) ≤ per_claim * c + s) × (c ≤ MAX_CLAIMS) × (s ≤ MAX_STALES)
Within n (row.Done m) = n ≤ most_entries

pub within_most : (n : ℕ) (x : RowState) → Within n x → n ≤ most_entries
within_most n (row.Free c) w = omega (arith, w)
within_most n (row.Claimed t c s) w = omega (arith, w)
within_most n (row.Done m) w = w

below : (a b : ℕ) → nat_lt a b ≡ true → a < b
below a b e = ltb-true a b e

pub held_is : (u c s t n : ℕ) → stales_under t (row.Claimed u c s) ≡ Some n → (u ≡ t) × (s ≡ n)
held_is u c s t n e = go (u == t) refl e
  where
    go : (b : Bool) → (u == t) ≡ b → cond b (Some s) None ≡ Some n → (u ≡ t) × (s ≡ n)
    go true f e = (eqb-true u t f, some_same s n e)
    go false f e = none_not_some e

within_claimed : (n t : ℕ) (x : RowState) → has_claim_left x ≡ true → Within n x → Within (suc n) (as_claimed t x)
within_claimed n t (row.Free c) e w = (omega (arith, w, below c MAX_CLAIMS e), omega (arith, below c MAX_CLAIMS e), omega arith)
within_claimed n t (row.Claimed u c s) e w = false_not_true refl e
within_claimed n t (row.Done m) e w = false_not_true refl e

within_staler : (n t k : ℕ) (x : RowState) → stales_under t x ≡ Some k → k < MAX_STALES → Within n x → Within (suc n) (as_stale x)
within_staler n t k (row.Free c) e l w = none_not_some e
within_staler n t k (row.Claimed u c s) e l w = let h = held_is u c s t k e in (omega (arith, w), w.1, omega (arith, h.1, l))
within_staler n t k (row.Done m) e l w = none_not_some e

within_placed : (n t k : ℕ) (x : RowState) → stales_under t x ≡ Some k → Within n x → suc n ≤ most_entries
within_placed n t k (row.Free c) e w = none_not_some e
within_placed n t k (row.Claimed u c s) e w = omega (arith, w)
within_placed n t k (row.Done m) e w = none_not_some e

within_freed : (n t k : ℕ) (x : RowState) → stales_under t x ≡ Some k → Within n x → Within (suc n) (as_freed x)
within_freed n t k (row.Free c) e w = none_not_some e
within_freed n t k (row.Claimed u c s) e w = (omega (arith, w), w.1)
within_freed n t k (row.Done m) e w = none_not_some e

within_finished : (n : ℕ) (x : RowState) → is_claimed x ≡ false → is_done x ≡ false → Within n x → suc n ≤ most_entries
within_finished n (row.Free c) e f w = omega (arith, w)
within_finished n (row.Claimed u c s) e f w = false_not_true e refl
within_finished n (row.Done m) e f w = false_not_true f refl

-- entries of rows, along a history
abbrev pub Rowed : List LogEntry → Book → Type 0
Rowed es b = (r : ℕ) → Within (entries_of r es) (row_at b r)

-- the row's count goes up, and its state with it
rowed_set : (es : List LogEntry) (rows : List RowState) (r ticket : ℕ) (what : LogWhat) (x : RowState) → is_off what ≡ false → r < length rows → ((q : ℕ) → Within (entries_of q es) (state rows q)) → (Within (entries_of r es) (state rows r) → Within (suc (entries_of r es)) x) → (q : ℕ) → Within (entries_of q (es ++ record { row = r; ticket = ticket; what = what } ∷ [])) (state (slice_set rows r x) q)
rowed_set es rows r ticket what x on inside w step q = elim (cases_eq q r) [
  | inl e ↦ subst (λ z. Within (entries_of z (es ++ record { row = r; ticket = ticket; what = what } ∷ [])) (state (slice_set rows r x) z)) (sym e)
      (subst (λ n. Within n (state (slice_set rows r x) r)) (sym (one_more (λ (e : LogEntry). (e.row == r) && not (is_off e.what)) es (record { row = r; ticket = ticket; what = what }) ∙ ap (λ b. cond (b && not (is_off what)) (suc (entries_of r es)) (entries_of r es)) (eq-eqb r r refl) ∙ ap (λ b. cond (not b) (suc (entries_of r es)) (entries_of r es)) on))
      (subst (Within (suc (entries_of r es))) (sym (get_or-set_same rows r x (row.Free 0) inside)) (step (w r))))
  | inr d ↦ subst (λ n. Within n (state (slice_set rows r x) q)) (sym (one_more (λ (e : LogEntry). (e.row == q) && not (is_off e.what)) es (record { row = r; ticket = ticket; what = what }) ∙ ap (λ b. cond (b && not (is_off what)) (suc (entries_of q es)) (entries_of q es)) (not_same r q (λ f. d (sym f)))))
      (subst (Within (entries_of q es)) (sym (get_or-set_other rows r q x (row.Free 0) d)) (w q))
]

rowed_step : (o : Opening) (es : List LogEntry) (b : Book) (r ticket : ℕ) (what : LogWhat) → Sound o b → Rowed es b → IsLegalChange o b r ticket what → Rowed (es ++ record { row = r; ticket = ticket; what = what } ∷ []) (after_change o b r ticket what)
rowed_step o es b r ticket log.Claimed s w legal =
    let r_in = found_in (may_be_claimed o b) (places o.txs) r legal.0 in
    rowed_set es b.rows r ticket log.Claimed (as_claimed ticket (row_at b r)) refl (omega (arith, s.agree.as_many, range_high 0 (length o.txs) r r_in.0)) w (within_claimed (entries_of r es) ticket (row_at b r) (and_left (has_claim_left (row_at b r)) (list_all (λ q. is_done (row_at b q)) (earlier_rows o.txs r)) r_in.1))
rowed_step o es b r ticket (log.Placed seq) s w legal =
    rowed_set es b.rows r ticket (log.Placed seq) _ refl (claimed_inside b.rows r (held_claimed ticket (row_at b r) legal.0.0 legal.0.1)) w (within_placed (entries_of r es) ticket legal.0.0 (row_at b r) legal.0.1)
rowed_step o es b r ticket (log.Stale cell was now) s w legal =
    rowed_set es b.rows r ticket (log.Stale cell was now) _ refl (claimed_inside b.rows r (held_claimed ticket (row_at b r) legal.0.0 legal.0.1)) w (within_staler (entries_of r es) ticket legal.0.0 (row_at b r) legal.0.1 (omega (arith, legal.0.2)))
rowed_step o es b r ticket (log.LastStale cell was now) s w legal =
    rowed_set es b.rows r ticket (log.LastStale cell was now) _ refl (claimed_inside b.rows r (held_claimed ticket (row_at b r) legal.0.0 legal.0.1)) w (within_staler (entries_of r es) ticket legal.0.0 (row_at b r) legal.0.1 (omega arith))
rowed_step o es b r ticket (log.Here seq) s w legal =
    rowed_set es b.rows r ticket (log.Here seq) _ refl (claimed_inside b.rows r (held_claimed ticket (row_at b r) legal.0.0 legal.0.1)) w (within_placed (entries_of r es) ticket legal.0.0 (row_at b r) legal.0.1)
rowed_step o es b r ticket log.Freed s w legal =
    rowed_set es b.rows r ticket log.Freed _ refl (claimed_inside b.rows r (held_claimed ticket (row_at b r) legal.0 legal.1)) w (within_freed (entries_of r es) ticket legal.0 (row_at b r) legal.1)
rowed_step o es b r ticket (log.Finished seq) s w legal =
    let r_in = found_in (λ q. not (is_done (row_at b q))) (places o.txs) r legal.1 in
    rowed_set es b.rows r ticket (log.Finished seq) _ refl (omega (arith, s.agree.as_many, range_high 0 (length o.txs) r r_in.0)) w (within_finished (entries_of r es) (row_at b r) (legal.0 r) (negated _ r_in.1))
  where
    negated : (a : Bool) → not a ≡ true → a ≡ false
    negated true e = sym e
    negated false e = refl
rowed_step o es b r ticket (log.Off k) s w legal = λ q. subst (λ n. Within n (row_at b q)) (sym (one_more (λ (e : LogEntry). (e.row == q) && not (is_off e.what)) es (record { row = r; ticket = ticket; what = log.Off k }) ∙ none (r == q) (entries_of q es))) (w q)
  where
    none : (b : Bool) (n : ℕ) → cond (b && false) (suc n) n ≡ n
    none true n = refl
    none false n = refl

rowed_first : (o : Opening) → Rowed [] (new_book o)
rowed_first o r = subst (Within 0) (sym (free o.txs r)) (omega arith, omega arith)
  where
    free : (txs : List Tx) (r : ℕ) → state (map (λ _. row.Free 0) txs) r ≡ row.Free 0
    free [] r = refl
    free (t ∷ txs) zero = refl
    free (t ∷ txs) (suc r) = free txs r

-- tickets
pub record Ticketed (es : List LogEntry) (rows : List RowState) (tickets : ℕ) : Type 0 where
  pub low : (r t n : ℕ) → stales_under t (state rows r) ≡ Some n → t ≤ tickets
  pub counts : (r t n : ℕ) → stales_under t (state rows r) ≡ Some n → stales_of t es ≡ n
  pub apart : (p q t n m : ℕ) → stales_under t (state rows p) ≡ Some n → stales_under t (state rows q) ≡ Some m → p ≡ q
  pub few : (t : ℕ) → stales_of t es ≤ MAX_STALES
  pub fresh : (t : ℕ) → tickets < t → stales_of t es ≡ 0
  pub given : given_tickets es ≡ range_with_len 1 tickets

tickets_more : (es : List LogEntry) (e : LogEntry) → given_tickets (es ++ e ∷ []) ≡ given_tickets es ++ cond (gives_ticket e.what) (e.ticket ∷ []) []
tickets_more es e = ap (map (λ (e : LogEntry). e.ticket)) (filter-append (λ (e : LogEntry). gives_ticket e.what) es (e ∷ [])) ∙ map-append (λ (e : LogEntry). e.ticket) (filter (λ (e : LogEntry). gives_ticket e.what) es) (filter (λ (e : LogEntry). gives_ticket e.what) (e ∷ [])) ∙ ap (λ l. given_tickets es ++ l) (go (gives_ticket e.what))
  where
    go : (b : Bool) → map (λ (e : LogEntry). e.ticket) (cond b (e ∷ []) []) ≡ cond b (e.ticket ∷ []) []
    go true = refl
    go false = refl

tickets_same : (es : List LogEntry) (e : LogEntry) → gives_ticket e.what ≡ false → given_tickets (es ++ e ∷ []) ≡ given_tickets es
tickets_same es e idle = tickets_more es e ∙ ap (λ b. given_tickets es ++ cond b (e.ticket ∷ []) []) idle ∙ append-nil (given_tickets es)

stales_same : (t : ℕ) (es : List LogEntry) (e : LogEntry) → is_stale e.what ≡ false → stales_of t (es ++ e ∷ []) ≡ stales_of t es
stales_same t es e idle = one_more (λ (e : LogEntry). (e.ticket == t) && is_stale e.what) es e ∙ ap (λ b. cond ((e.ticket == t) && b) (suc (stales_of t es)) (stales_of t es)) idle ∙ none (e.ticket == t) (stales_of t es)
  where
    none : (b : Bool) (n : ℕ) → cond (b && false) (suc n) n ≡ n
    none true n = refl
    none false n = refl

range_more : (a n : ℕ) → range_with_len a (suc n) ≡ range_with_len a n ++ (a + n) ∷ []
range_more a zero = ap (λ x. x ∷ []) (omega arith)
range_more a (suc n) = ap (λ l. a ∷ l) (range_more (a + 1) n ∙ ap (λ x. range_with_len (a + 1) n ++ x ∷ []) (omega arith))

pub unheld : (t : ℕ) (x : RowState) (n : ℕ) → is_claimed x ≡ false → stales_under t x ≡ Some n → ⊥
unheld t x n idle held = false_not_true idle (held_claimed t x n held)

-- a row is no longer claimed
ticketed_let_go : (es : List LogEntry) (e : LogEntry) (rows : List RowState) (tickets r : ℕ) (x : RowState) → is_stale e.what ≡ false → gives_ticket e.what ≡ false → r < length rows → is_claimed x ≡ false → Ticketed es rows tickets → Ticketed (es ++ e ∷ []) (slice_set rows r x) tickets
ticketed_let_go es e rows tickets r x calm idle inside out t = record {
  low = λ q u n h. (let old = back q u n h in t.low q u n old.1);
  counts = λ q u n h. stales_same u es e calm ∙ t.counts q u n (back q u n h).1;
  apart = λ p q u n m h k. t.apart p q u n m (back p u n h).1 (back q u m k).1;
  few = λ u. subst (λ n. n ≤ MAX_STALES) (sym (stales_same u es e calm)) (t.few u);
  fresh = λ u l. stales_same u es e calm ∙ t.fresh u l;
  given = tickets_same es e idle ∙ t.given;
}
  where
    back : (q u n : ℕ) → stales_under u (state (slice_set rows r x) q) ≡ Some n → (q ≢ r) × (stales_under u (state rows q) ≡ Some n)
    back q u n h = elim (cases_eq q r) [
      | inl f ↦ absurd (unheld u x n out (ap (stales_under u) (sym (ap (λ z. state (slice_set rows r x) z) f ∙ get_or-set_same rows r x (row.Free 0) inside)) ∙ h))
      | inr f ↦ (f, ap (stales_under u) (sym (get_or-set_other rows r q x (row.Free 0) f)) ∙ h)
    ]

pub claimed_is : (t : ℕ) (x : RowState) → has_claim_left x ≡ true → (c : ℕ) × (as_claimed t x ≡ row.Claimed t c 0)
claimed_is t (row.Free c) e = (suc c, refl)
claimed_is t (row.Claimed u c s) e = false_not_true refl e
claimed_is t (row.Done m) e = false_not_true refl e

pub staler_is : (t n : ℕ) (x : RowState) → stales_under t x ≡ Some n → (c : ℕ) × (as_stale x ≡ row.Claimed t c (suc n))
staler_is t n (row.Free c) e = none_not_some e
staler_is t n (row.Claimed u c s) e = let h = held_is u c s t n e in (c, ap (λ z. row.Claimed z c (suc s)) h.0 ∙ ap (λ z. row.Claimed t c (suc z)) h.1)
staler_is t n (row.Done m) e = none_not_some e

-- a row is claimed under the next ticket
ticketed_claim : (es : List LogEntry) (rows : List RowState) (tickets r c : ℕ) (e : LogEntry) (x : RowState) → is_stale e.what ≡ false → gives_ticket e.what ≡ true → e.ticket ≡ suc tickets → r < length rows → x ≡ row.Claimed (suc tickets) c 0 → Ticketed es rows tickets → Ticketed (es ++ e ∷ []) (slice_set rows r x) (suc tickets)
ticketed_claim es rows tickets r c e x calm gift is_next inside is t = record {
  low = λ q u n h. elim (cases_eq q r) [ inl f ↦ omega (arith, (mine q u n f h).0) | inr f ↦ omega (arith, t.low q u n (other q u n f h)) ];
  counts = λ q u n h. stales_same u es e calm ∙ elim (cases_eq q r) [
    | inl f ↦ t.fresh u (omega (arith, (mine q u n f h).0)) ∙ (mine q u n f h).1
    | inr f ↦ t.counts q u n (other q u n f h)
  ];
  apart = λ p q u n m h k. elim (cases_eq p r) [
    | inl f ↦ elim (cases_eq q r) [
      | inl g ↦ f ∙ sym g
      | inr g ↦ absurd (omega (arith, (mine p u n f h).0, t.low q u m (other q u m g k)))
    ]
    | inr f ↦ elim (cases_eq q r) [
      | inl g ↦ absurd (omega (arith, (mine q u m g k).0, t.low p u n (other p u n f h)))
      | inr g ↦ t.apart p q u n m (other p u n f h) (other q u m g k)
    ]
  ];
  few = λ u. subst (λ n. n ≤ MAX_STALES) (sym (stales_same u es e calm)) (t.few u);
  fresh = λ u l. stales_same u es e calm ∙ t.fresh u (omega (arith, l));
  given = tickets_more es e ∙ ap (λ b. given_tickets es ++ cond b (e.ticket ∷ []) []) gift ∙ ap (λ z. given_tickets es ++ z ∷ []) (is_next ∙ omega arith) ∙ ap (λ l. l ++ (1 + tickets) ∷ []) t.given ∙ sym (range_more 1 tickets);
}
  where
    mine : (q u n : ℕ) → q ≡ r → stales_under u (state (slice_set rows r x) q) ≡ Some n → (suc tickets ≡ u) × (0 ≡ n)
    mine q u n f h = held_is (suc tickets) c 0 u n (ap (stales_under u) (sym is ∙ sym (ap (λ z. state (slice_set rows r x) z) f ∙ get_or-set_same rows r x (row.Free 0) inside)) ∙ h)

    other : (q u n : ℕ) → q ≢ r → stales_under u (state (slice_set rows r x) q) ≡ Some n → stales_under u (state rows q) ≡ Some n
    other q u n f h = ap (stales_under u) (sym (get_or-set_other rows r q x (row.Free 0) f)) ∙ h

-- a row that is held is stale once more
ticketed_stale : (es : List LogEntry) (rows : List RowState) (tickets r c k : ℕ) (e : LogEntry) (x : RowState) → is_stale e.what ≡ true → gives_ticket e.what ≡ false → k < MAX_STALES → stales_under e.ticket (state rows r) ≡ Some k → r < length rows → x ≡ row.Claimed e.ticket c (suc k) → Ticketed es rows tickets → Ticketed (es ++ e ∷ []) (slice_set rows r x) tickets
ticketed_stale es rows tickets r c k e x is_s idle few held inside is t = record {
  low = λ q u n h. elim (cases_eq q r) [ inl f ↦ subst (λ z. z ≤ tickets) (mine q u n f h).0 (t.low r e.ticket k held) | inr f ↦ t.low q u n (other q u n f h) ];
  counts = λ q u n h. elim (cases_eq q r) [
    | inl f ↦ let m = mine q u n f h in subst (λ z. stales_of z (es ++ e ∷ []) ≡ n) m.0 (more ∙ m.1)
    | inr f ↦ same u (λ g. f (t.apart q r u n k (other q u n f h) (subst (λ z. stales_under z (state rows r) ≡ Some k) g held))) ∙ t.counts q u n (other q u n f h)
  ];
  apart = λ p q u n m h j. elim (cases_eq p r) [
    | inl f ↦ elim (cases_eq q r) [
      | inl g ↦ f ∙ sym g
      | inr g ↦ f ∙ t.apart r q u k m (subst (λ z. stales_under z (state rows r) ≡ Some k) (mine p u n f h).0 held) (other q u m g j)
    ]
    | inr f ↦ elim (cases_eq q r) [
      | inl g ↦ t.apart p r u n k (other p u n f h) (subst (λ z. stales_under z (state rows r) ≡ Some k) (mine q u m g j).0 held) ∙ sym g
      | inr g ↦ t.apart p q u n m (other p u n f h) (other q u m g j)
    ]
  ];
  few = λ u. elim (cases_eq e.ticket u) [
    | inl f ↦ subst (λ z. stales_of z (es ++ e ∷ []) ≤ MAX_STALES) f (omega (arith, more, few))
    | inr f ↦ subst (λ n. n ≤ MAX_STALES) (sym (same u f)) (t.few u)
  ];
  fresh = λ u l. same u (λ f. absurd (omega (arith, f, l, t.low r e.ticket k held))) ∙ t.fresh u l;
  given = tickets_same es e idle ∙ t.given;
}
  where
    mine : (q u n : ℕ) → q ≡ r → stales_under u (state (slice_set rows r x) q) ≡ Some n → (e.ticket ≡ u) × (suc k ≡ n)
    mine q u n f h = held_is e.ticket c (suc k) u n (ap (stales_under u) (sym is ∙ sym (ap (λ z. state (slice_set rows r x) z) f ∙ get_or-set_same rows r x (row.Free 0) inside)) ∙ h)

    other : (q u n : ℕ) → q ≢ r → stales_under u (state (slice_set rows r x) q) ≡ Some n → stales_under u (state rows q) ≡ Some n
    other q u n f h = ap (stales_under u) (sym (get_or-set_other rows r q x (row.Free 0) f)) ∙ h

    counted : (u : ℕ) (b : Bool) → (e.ticket == u) ≡ b → stales_of u (es ++ e ∷ []) ≡ cond b (suc (stales_of u es)) (stales_of u es)
    counted u b f = one_more (λ (e : LogEntry). (e.ticket == u) && is_stale e.what) es e ∙ ap (λ a. cond (a && is_stale e.what) (suc (stales_of u es)) (stales_of u es)) f ∙ go b
      where
        go : (a : Bool) → cond (a && is_stale e.what) (suc (stales_of u es)) (stales_of u es) ≡ cond a (suc (stales_of u es)) (stales_of u es)
        go true = ap (λ a. cond a (suc (stales_of u es)) (stales_of u es)) is_s
        go false = refl

    more : stales_of e.ticket (es ++ e ∷ []) ≡ suc k
    more = counted e.ticket true (eq-eqb e.ticket e.ticket refl) ∙ ap suc (t.counts r e.ticket k held)

    same : (u : ℕ) → e.ticket ≢ u → stales_of u (es ++ e ∷ []) ≡ stales_of u es
    same u d = counted u false (not_same e.ticket u d)

pub freed_out : (x : RowState) → is_claimed (as_freed x) ≡ false
freed_out (row.Free c) = refl
freed_out (row.Claimed t c s) = refl
freed_out (row.Done m) = refl

ticketed_step : (o : Opening) (es : List LogEntry) (b : Book) (r ticket : ℕ) (what : LogWhat) → Sound o b → Ticketed es b.rows b.tickets → IsLegalChange o b r ticket what → (let c = after_change o b r ticket what in Ticketed (es ++ record { row = r; ticket = ticket; what = what } ∷ []) c.rows c.tickets)
ticketed_step o es b r ticket log.Claimed s t legal =
    let r_in = found_in (may_be_claimed o b) (places o.txs) r legal.0 in
    let c = claimed_is ticket (row_at b r) (and_left (has_claim_left (row_at b r)) (list_all (λ q. is_done (row_at b q)) (earlier_rows o.txs r)) r_in.1) in
    ticketed_claim es b.rows b.tickets r c.0 _ (as_claimed ticket (row_at b r)) refl refl legal.1 (omega (arith, s.agree.as_many, range_high 0 (length o.txs) r r_in.0)) (c.1 ∙ ap (λ z. row.Claimed z c.0 0) legal.1) t
ticketed_step o es b r ticket (log.Placed seq) s t legal =
    ticketed_let_go es _ b.rows b.tickets r _ refl refl (claimed_inside b.rows r (held_claimed ticket (row_at b r) legal.0.0 legal.0.1)) refl t
ticketed_step o es b r ticket (log.Stale cell was now) s t legal =
    let c = staler_is ticket legal.0.0 (row_at b r) legal.0.1 in
    ticketed_stale es b.rows b.tickets r c.0 legal.0.0 (record { row = r; ticket = ticket; what = log.Stale cell was now }) _ refl refl (omega (arith, legal.0.2)) legal.0.1 (claimed_inside b.rows r (held_claimed ticket (row_at b r) legal.0.0 legal.0.1)) c.1 t
ticketed_step o es b r ticket (log.LastStale cell was now) s t legal =
    let c = staler_is ticket legal.0.0 (row_at b r) legal.0.1 in
    ticketed_stale es b.rows b.tickets r c.0 legal.0.0 (record { row = r; ticket = ticket; what = log.LastStale cell was now }) _ refl refl (omega (arith, legal.0.2)) legal.0.1 (claimed_inside b.rows r (held_claimed ticket (row_at b r) legal.0.0 legal.0.1)) c.1 t
ticketed_step o es b r ticket (log.Here seq) s t legal =
    ticketed_let_go es _ b.rows b.tickets r _ refl refl (claimed_inside b.rows r (held_claimed ticket (row_at b r) legal.0.0 legal.0.1)) refl t
ticketed_step o es b r ticket log.Freed s t legal =
    ticketed_let_go es _ b.rows b.tickets r _ refl refl (claimed_inside b.rows r (held_claimed ticket (row_at b r) legal.0 legal.1)) (freed_out (row_at b r)) t
ticketed_step o es b r ticket (log.Finished seq) s t legal =
    ticketed_let_go es _ b.rows b.tickets r _ refl refl (omega (arith, s.agree.as_many, range_high 0 (length o.txs) r (found_in (λ q. not (is_done (row_at b q))) (places o.txs) r legal.1).0)) refl t
ticketed_step o es b r ticket (log.Off k) s t legal =
    let e : LogEntry = record { row = r; ticket = ticket; what = log.Off k } in
    record {
      low = t.low;
      counts = λ q u n h. stales_same u es e refl ∙ t.counts q u n h;
      apart = t.apart;
      few = λ u. subst (λ n. n ≤ MAX_STALES) (sym (stales_same u es e refl)) (t.few u);
      fresh = λ u l. stales_same u es e refl ∙ t.fresh u l;
      given = tickets_same es e refl ∙ t.given;
    }

ticketed_first : (o : Opening) → Ticketed [] (new_book o).rows 0
ticketed_first o = record {
  low = λ r t n h. absurd (free r t n h);
  counts = λ r t n h. absurd (free r t n h);
  apart = λ p q t n m h k. absurd (free p t n h);
  few = λ t. omega arith;
  fresh = λ t l. refl;
  given = refl;
}
  where
    at : (txs : List Tx) (r : ℕ) → state (map (λ _. row.Free 0) txs) r ≡ row.Free 0
    at [] r = refl
    at (t ∷ txs) zero = refl
    at (t ∷ txs) (suc r) = at txs r

    free : (r t n : ℕ) → stales_under t (state (new_book o).rows r) ≡ Some n → ⊥
    free r t n h = none_not_some (ap (stales_under t) (sym (at o.txs r)) ∙ h)

-- all that entries say by number
pub record Numbered (o : Opening) (es : List LogEntry) (b : Book) : Type 0 where
  pub sound : Sound o b
  pub rowed : Rowed es b
  pub ticketed : Ticketed es b.rows b.tickets

pub numbered : (o : Opening) (es : List LogEntry) → IsHistory o es → Numbered o es (after o es)
numbered o es h = goes o (Numbered o)
    (λ es b e n legal. record {
      sound = sound_step o b e n.sound legal;
      rowed = rowed_step o es b e.row e.ticket e.what n.sound n.rowed legal;
      ticketed = ticketed_step o es b e.row e.ticket e.what n.sound n.ticketed legal;
    })
    [] (new_book o) (record { sound = sound_first o; rowed = rowed_first o; ticketed = ticketed_first o }) es h
