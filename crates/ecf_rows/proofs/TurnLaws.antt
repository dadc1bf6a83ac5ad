-- When the earlier rows of a submitter are Done, and what is kept as a row that stays open gets another state.
use Rattle.std.proofs.Common.{◌≡◌, ◌≢◌, ℕ, suc, ◌+◌, ◌<◌, ◌≤◌, Bool, true, false, cond, not, ◌&&◌, ◌||◌, ◌==◌, nat_lt, List, length, slice_set, refl, sym, ap, subst, ◌∙◌, arith, inl, inr, length-set, get_or-set_same, get_or-set_other}
use Rattle.std.specs.Prelude.{slice_index}
use Rattle.std.specs.List.{count_by, list_all}
use Rattle.std.proofs.lemmas.Bool.{cases_eq, eqb-true, eq-eqb, ne_eqb, both_ways, and_parts, lt-ltb}
use Rattle.std.proofs.lemmas.List.{get_or_past, set-get_or}
use Rattle.std.proofs.lemmas.List.Sums.{sum_by-set}
use Rattle.ecf_core.specs.declared.book.RowState.{RowState}
use Rattle.ecf_core.specs.declared.book.RowState.TheVariants as row
use Rattle.ecf_core.specs.Book.{as_freed, as_stale, is_claimed, is_done, has_claim_left}
use Rattle.ecf_rows.specs.Standing.{Standing, state_at, with_state, earlier_rows, is_next, may_claim}
use Rattle.ecf_rows.specs.Kept.{IsKept, one_if_claimed, is_left}
use Rattle.ecf_rows.specs.RowSet.{is_member}
use Rattle.ecf_rows.proofs.RangeLaws.{all_in_range, all_in_range_from}

abbrev pub Same : Standing → ℕ → ℕ → Type 0
Same s q r = slice_index s.submitters q ≡ slice_index s.submitters r

abbrev pub Done : Standing → ℕ → Type 0
Done s r = is_done (state_at s r) ≡ true

-- all earlier rows of its submitter are Done
abbrev pub Earlier : Standing → ℕ → Type 0
Earlier s r = (q : ℕ) → q < r → Same s q r → Done s q

pub earlier_done : (s : Standing) (r : ℕ) → is_next s r ≡ true → Earlier s r
earlier_done s r h q l e = all_in_range (λ q. is_done (state_at s q)) (λ q. slice_index s.submitters q == slice_index s.submitters r) 0 r h q (omega arith) (omega (arith, l)) (eq-eqb _ _ e)

pub next_from : (s : Standing) (r : ℕ) → Earlier s r → is_next s r ≡ true
next_from s r h = all_in_range_from (λ q. is_done (state_at s q)) (λ q. slice_index s.submitters q == slice_index s.submitters r) 0 r (λ q _ l e. h q (omega (arith, l)) (eqb-true _ _ e))

pub here : (s : Standing) (r : ℕ) (x : RowState) → r < length s.states → state_at (with_state s r x) r ≡ x
here s r x inside = get_or-set_same s.states r x (row.Free 0) inside

pub there : (s : Standing) (r : ℕ) (x : RowState) (q : ℕ) → q ≢ r → state_at (with_state s r x) q ≡ state_at s q
there s r x q other = get_or-set_other s.states r q x (row.Free 0) other

-- what a row's state says of it
pub left_is_open : (x : RowState) → has_claim_left x ≡ true → is_done x ≡ false
left_is_open (row.Free c) e = refl
left_is_open (row.Claimed t c s) e = refl
left_is_open (row.Done n) e = sym e

pub done_not_claimed : (x : RowState) → is_done x ≡ true → is_claimed x ≡ false
done_not_claimed (row.Free c) e = refl
done_not_claimed (row.Claimed t c s) e = absurd (both_ways false refl e)
done_not_claimed (row.Done n) e = refl

pub done_none_left : (x : RowState) → is_done x ≡ true → has_claim_left x ≡ false
done_none_left (row.Free c) e = absurd (both_ways false refl e)
done_none_left (row.Claimed t c s) e = refl
done_none_left (row.Done n) e = refl

pub claimed_is_open : (x : RowState) → is_claimed x ≡ true → is_done x ≡ false
claimed_is_open (row.Free c) e = refl
claimed_is_open (row.Claimed t c s) e = refl
claimed_is_open (row.Done n) e = absurd (both_ways false refl e)

-- a row that stays open, or stays Done
pub same_done : (s : Standing) (r : ℕ) (x : RowState) → r < length s.states → is_done x ≡ is_done (state_at s r) → (q : ℕ) → is_done (state_at (with_state s r x) q) ≡ is_done (state_at s q)
same_done s r x inside e q = elim (cases_eq q r) [
  | inl f ↦ ap (λ k. is_done (state_at (with_state s r x) k)) f ∙ ap is_done (here s r x inside) ∙ e ∙ ap (λ k. is_done (state_at s k)) (sym f)
  | inr f ↦ ap is_done (there s r x q f)
]

pub same_next : (s : Standing) (r : ℕ) (x : RowState) → r < length s.states → is_done x ≡ is_done (state_at s r) → (q : ℕ) → is_next (with_state s r x) q ≡ is_next s q
same_next s r x inside e q = λ i. list_all (λ k. same_done s r x inside e k i) (earlier_rows s q)

-- how many are Claimed after a row got another state
pub counted_anew : (s : Standing) (r claimed claimed' : ℕ) (x : RowState) → r < length s.states → claimed ≡ count_by is_claimed s.states → claimed' + one_if_claimed (state_at s r) ≡ claimed + one_if_claimed x → claimed' ≡ count_by is_claimed (slice_set s.states r x)
counted_anew s r claimed claimed' x inside e f =
    let change : count_by is_claimed (slice_set s.states r x) + one_if_claimed (state_at s r) ≡ count_by is_claimed s.states + one_if_claimed x = sum_by-set one_if_claimed s.states r x (row.Free 0) inside in
    omega (arith, e, f, change)

-- an open row gets another state in which it is open
pub moved : (s : Standing) (links words words' : List ℕ) (claimed claimed' settled r : ℕ) (x : RowState) → IsKept s links words claimed settled → r < length s.states →
    is_done (state_at s r) ≡ false → is_done x ≡ false → (is_claimed x ≡ true → is_next s r ≡ true) →
    ((q : ℕ) → q ≢ r → is_member words' q ≡ is_member words q) → is_member words' r ≡ (has_claim_left x && is_next s r) → length words' ≡ length words →
    claimed' + one_if_claimed (state_at s r) ≡ claimed + one_if_claimed x → IsKept (with_state s r x) links words' claimed' settled
moved s links words words' claimed claimed' settled r x kept inside was_open stays turn others own as_many count = record {
  as_many = kept.as_many ∙ sym (length-set s.states r x);
  few = omega (arith, kept.few, length-set s.states r x);
  linked = record {
    as_many = kept.linked.as_many ∙ sym (length-set s.states r x);
    next = λ q l e. kept.linked.next q (omega (arith, l, length-set s.states r x)) (sym (same_done s r x inside same q) ∙ e);
  };
  entered = record { members = members; room = omega (arith, kept.entered.room, as_many, length-set s.states r x) };
  turn = record {
    done = λ p q l e d. same_done s r x inside same p ∙ kept.turn.done p q l e (sym (same_done s r x inside same q) ∙ d);
    claimed = λ q c. same_next s r x inside same q ∙ elim (cases_eq q r) [
      | inl f ↦ ap (is_next s) f ∙ turn (ap is_claimed (sym (here s r x inside) ∙ ap (state_at (with_state s r x)) (sym f)) ∙ c)
      | inr f ↦ kept.turn.claimed q (ap is_claimed (sym (there s r x q f)) ∙ c)
    ];
  };
  counted = counted_anew s r claimed claimed' x inside kept.counted count;
  done_before = λ q l. same_done s r x inside same q ∙ kept.done_before q l;
}
  where
    same : is_done x ≡ is_done (state_at s r)
    same = stays ∙ sym was_open

    members : (q : ℕ) → is_member words' q ≡ (nat_lt q (length (slice_set s.states r x)) && may_claim (with_state s r x) q)
    members q = elim (cases_eq q r) [
      | inl f ↦ ap (is_member words') f ∙ own ∙ sym (ap (λ b. has_claim_left x && b) (same_next s r x inside same r)) ∙ sym (ap (λ y. has_claim_left y && is_next (with_state s r x) r) (here s r x inside))
          ∙ ap (may_claim (with_state s r x)) (sym f) ∙ sym (ap (λ b. b && may_claim (with_state s r x) q) (lt-ltb q (length (slice_set s.states r x)) (omega (arith, f, inside, length-set s.states r x))))
      | inr f ↦ others q f ∙ kept.entered.members q ∙ ap (λ n. nat_lt q n && may_claim s q) (sym (length-set s.states r x))
          ∙ ap (λ b. nat_lt q (length (slice_set s.states r x)) && b) (ap (λ b. has_claim_left (state_at s q) && b) (sym (same_next s r x inside same q)) ∙ ap (λ y. has_claim_left y && is_next (with_state s r x) q) (sym (there s r x q f)))
    ]

pub none_left : (a b c : Bool) → b ≡ false → (a && (b && c)) ≡ false
none_left true b c e = ap (λ x. x && c) e
none_left false b c e = refl

pub not_self : (k : ℕ) → (k == k) ≡ true
not_self k = eq-eqb k k refl

pub or_none : (x y : Bool) → y ≡ false → (x || y) ≡ x
or_none true y e = refl
or_none false y e = e

pub and_all : (x y : Bool) → y ≡ true → (x && y) ≡ x
and_all true y e = e
and_all false y e = refl

pub and_none : (x y : Bool) → y ≡ false → (x && y) ≡ false
and_none true y e = e
and_none false y e = refl

-- a row that has no claim left, or is Claimed or Done, isn't in the set
pub not_in : (s : Standing) (links words : List ℕ) (claimed settled r : ℕ) → IsKept s links words claimed settled → has_claim_left (state_at s r) ≡ false → is_member words r ≡ false
not_in s links words claimed settled r kept e = kept.entered.members r ∙ none_left (nat_lt r (length s.states)) (has_claim_left (state_at s r)) (is_next s r) e

claimed_none_left : (x : RowState) → is_claimed x ≡ true → has_claim_left x ≡ false
claimed_none_left (row.Free c) e = absurd (both_ways false refl e)
claimed_none_left (row.Claimed t c s) e = refl
claimed_none_left (row.Done n) e = refl

-- a row is claimed
pub taken : (s : Standing) (links words words' : List ℕ) (claimed settled r : ℕ) (x : RowState) → IsKept s links words claimed settled → r < length s.states → may_claim s r ≡ true → is_claimed x ≡ true →
    ((k : ℕ) → is_member words' k ≡ (is_member words k && not (k == r))) → length words' ≡ length words → IsKept (with_state s r x) links words' (claimed + 1) settled
taken s links words words' claimed settled r x kept inside may is members as_many =
    let parts = and_parts (has_claim_left (state_at s r)) (is_next s r) may in
    let was : is_done (state_at s r) ≡ false = left_is_open (state_at s r) parts.0 in
    let free : is_claimed (state_at s r) ≡ false = left_not_claimed (state_at s r) parts.0 in
    let count : claimed + 1 + one_if_claimed (state_at s r) ≡ claimed + one_if_claimed x = ap (λ b. claimed + 1 + cond b 1 0) free ∙ omega arith ∙ ap (λ b. claimed + cond b 1 0) (sym is) in
    moved s links words words' claimed (claimed + 1) settled r x kept inside was (claimed_is_open x is) (λ _. parts.1)
    (λ q other. members q ∙ and_all (is_member words q) _ (ap not (ne_eqb q r other)))
    (members r ∙ and_none (is_member words r) _ (ap not (not_self r)) ∙ sym (ap (λ b. b && is_next s r) (claimed_none_left x is)))
    as_many count
  where
    left_not_claimed : (y : RowState) → has_claim_left y ≡ true → is_claimed y ≡ false
    left_not_claimed (row.Free c) e = refl
    left_not_claimed (row.Claimed t c s) e = absurd (both_ways false refl e)
    left_not_claimed (row.Done n) e = refl

-- a row that gets the state that it has
pub unmoved : (s : Standing) (r : ℕ) (x : RowState) → x ≡ state_at s r → with_state s r x ≡ s
unmoved s r x e = λ i. record { submitters = s.submitters; states = (ap (slice_set s.states r) e ∙ set-get_or s.states r (row.Free 0)) i }

pub freed_same : (y : RowState) → is_claimed y ≡ false → as_freed y ≡ y
freed_same (row.Free c) e = refl
freed_same (row.Claimed t c s) e = absurd (both_ways true e refl)
freed_same (row.Done n) e = refl

-- what isn't there isn't Claimed
pub absent_not_claimed : (s : Standing) (r : ℕ) → length s.states ≤ r → is_claimed (state_at s r) ≡ false
absent_not_claimed s r past = ap is_claimed (get_or_past s.states r (row.Free 0) past)

-- a row has one stale commit more
pub stale_kept : (s : Standing) (links words : List ℕ) (claimed settled r : ℕ) (y : RowState) → state_at s r ≡ y → IsKept s links words claimed settled → r < length s.states → IsKept (with_state s r (as_stale y)) links words claimed settled
stale_kept s links words claimed settled r (row.Free c) e kept inside = subst (λ t. IsKept t links words claimed settled) (sym (unmoved s r (row.Free c) (sym e))) kept
stale_kept s links words claimed settled r (row.Done n) e kept inside = subst (λ t. IsKept t links words claimed settled) (sym (unmoved s r (row.Done n) (sym e))) kept
stale_kept s links words claimed settled r (row.Claimed t c n) e kept inside =
    let was : is_claimed (state_at s r) ≡ true = ap is_claimed e in
    moved s links words words claimed claimed settled r (row.Claimed t c (suc n)) kept inside (claimed_is_open (state_at s r) was) refl (λ _. kept.turn.claimed r was)
    (λ q other. refl)
    (not_in s links words claimed settled r kept (claimed_none_left (state_at s r) was))
    refl (ap (λ b. claimed + cond b 1 0) was)

-- a Claimed row is given back
pub free_kept : (s : Standing) (links words words' : List ℕ) (claimed claimed' settled r : ℕ) (y : RowState) → state_at s r ≡ y → IsKept s links words claimed settled → r < length s.states → is_claimed y ≡ true →
    claimed' + one_if_claimed y ≡ claimed →
    ((k : ℕ) → is_member words' k ≡ (is_member words k || (is_left (slice_set s.states r (as_freed y)) r && (k == r)))) → length words' ≡ length words → IsKept (with_state s r (as_freed y)) links words' claimed' settled
free_kept s links words words' claimed claimed' settled r (row.Free c) e kept inside is less members as_many = absurd (both_ways false refl is)
free_kept s links words words' claimed claimed' settled r (row.Done n) e kept inside is less members as_many = absurd (both_ways false refl is)
free_kept s links words words' claimed claimed' settled r (row.Claimed t c n) e kept inside is less members as_many =
    let was : is_claimed (state_at s r) ≡ true = ap is_claimed e in
    moved s links words words' claimed claimed' settled r (row.Free c) kept inside (claimed_is_open (state_at s r) was) refl (λ f. absurd (both_ways false refl f))
    (λ q other. members q ∙ or_none (is_member words q) _ (and_none _ _ (ne_eqb q r other)))
    (members r ∙ ap (λ b. b || (is_left (slice_set s.states r (row.Free c)) r && (r == r))) (not_in s links words claimed settled r kept (claimed_none_left (state_at s r) was))
    ∙ and_all _ _ (not_self r) ∙ left ∙ sym (and_all (has_claim_left (row.Free c)) _ (kept.turn.claimed r was)))
    as_many (ap (λ b. claimed' + cond b 1 0) was ∙ omega (arith, less))
  where
    left : is_left (slice_set s.states r (row.Free c)) r ≡ has_claim_left (row.Free c)
    left = ap (λ b. b && has_claim_left (state_at (with_state s r (row.Free c)) r)) (lt-ltb r (length (slice_set s.states r (row.Free c))) (omega (arith, inside, length-set s.states r (row.Free c)))) ∙ ap has_claim_left (here s r (row.Free c) inside)
