-- What is kept as a row is placed: the next one of its submitter may be claimable then.
use Rattle.std.proofs.Common.{◌≡◌, ◌≢◌, ℕ, suc, ◌+◌, ◌<◌, ◌≤◌, Bool, true, false, not, ◌&&◌, ◌||◌, ◌==◌, nat_lt, List, length, slice_set, refl, sym, ap, subst, ◌∙◌, arith, inl, inr, length-set}
use Rattle.std.specs.Prelude.{slice_index}
use Rattle.std.proofs.lemmas.Bool.{cases_eq, cases_lt, ne_eqb, both_ways, and_parts, lt-ltb, le-ltb, not-true}
use Rattle.ecf_core.specs.declared.book.RowState.{RowState}
use Rattle.ecf_core.specs.declared.book.RowState.TheVariants as row
use Rattle.ecf_core.specs.Book.{is_claimed, is_done, has_claim_left}
use Rattle.ecf_rows.specs.Standing.{Standing, state_at, with_state, is_next, may_claim, may_place}
use Rattle.ecf_rows.specs.Kept.{IsKept, one_if_claimed, is_left}
use Rattle.ecf_rows.specs.Links.{IsFirstFrom}
use Rattle.ecf_rows.specs.RowSet.{is_member}
use Rattle.ecf_rows.proofs.RangeLaws.{same_test}
use Rattle.ecf_rows.proofs.TurnLaws.{Same, Done, Earlier, earlier_done, next_from, here, there, counted_anew, and_all, and_none, not_self}

-- tests of a number that was taken out, or put in
gone : (m a l b : Bool) → a ≡ false → b ≡ false → ((m && a) || (l && b)) ≡ false
gone true a true b e f = ap (λ x. x || b) e ∙ f
gone true a false b e f = ap (λ x. x || false) e
gone false a true b e f = f
gone false a false b e f = refl

kept_only : (m a l b : Bool) → a ≡ true → b ≡ false → ((m && a) || (l && b)) ≡ m
kept_only true a l b e f = ap (λ x. x || (l && b)) e
kept_only false a true b e f = f
kept_only false a false b e f = refl

both : (m a l b : Bool) → a ≡ true → b ≡ true → ((m && a) || (l && b)) ≡ (m || l)
both true a l b e f = ap (λ x. x || (l && b)) e
both false a true b e f = f
both false a false b e f = refl

gone_both : (m a x : Bool) → m ≡ false → x ≡ false → ((m && a) || x) ≡ false
gone_both m a x e f = ap (λ y. (y && a) || x) e ∙ f

absorbed : (m h : Bool) → (m ≡ true → h ≡ true) → (m || h) ≡ h
absorbed true h f = sym (f refl)
absorbed false h f = refl

and_none_first : (x y : Bool) → x ≡ false → (x && y) ≡ false
and_none_first x y e = ap (λ z. z && y) e

-- a row is placed of which all earlier ones of its submitter are Done
pub placed : (s : Standing) (links words words' : List ℕ) (claimed claimed' settled r seq : ℕ) → IsKept s links words claimed settled → r < length s.states → may_place s r ≡ true →
    ((k : ℕ) → is_member words' k ≡ ((is_member words k && not (k == r)) || (is_left (slice_set s.states r (row.Done seq)) (slice_index links r) && (k == slice_index links r)))) →
    length words' ≡ length words → claimed' + one_if_claimed (state_at s r) ≡ claimed → IsKept (with_state s r (row.Done seq)) links words' claimed' settled
placed s links words words' claimed claimed' settled r seq kept inside may members as_many count = record {
  as_many = kept.as_many ∙ sym (length-set s.states r x);
  few = omega (arith, kept.few, same_length);
  linked = record {
    as_many = kept.linked.as_many ∙ sym (length-set s.states r x);
    next = λ q l e. kept.linked.next q (omega (arith, l, same_length)) (ap is_done (sym (there s r x q (open_other q e))) ∙ e);
  };
  entered = record { members = entered; room = omega (arith, kept.entered.room, as_many, same_length) };
  turn = record {
    done = λ p q l e d. elim (cases_eq q r) [
      | inl f ↦ grown p (turn p (omega (arith, l, f)) (e ∙ ap (slice_index s.submitters) f))
      | inr f ↦ grown p (kept.turn.done p q l e (ap is_done (sym (there s r x q f)) ∙ d))
    ];
    claimed = λ q c. (let other : q ≢ r = λ f. both_ways _ (ap is_claimed (ap (state_at (with_state s r x)) f ∙ here s r x inside)) c in
        next_from (with_state s r x) q (λ p l e. grown p (earlier_done s q (kept.turn.claimed q (ap is_claimed (sym (there s r x q other)) ∙ c)) p l e)));
  };
  counted = counted_anew s r claimed claimed' x inside kept.counted (count ∙ omega arith);
  done_before = λ q l. grown q (kept.done_before q l);
}
  where
    x : RowState
    x = row.Done seq

    same_length : length (slice_set s.states r (row.Done seq)) ≡ length s.states
    same_length = length-set s.states r (row.Done seq)

    was_open : is_done (state_at s r) ≡ false
    was_open = not-true _ (and_parts (not (is_done (state_at s r))) (is_next s r) may).0

    turn : Earlier s r
    turn = earlier_done s r (and_parts (not (is_done (state_at s r))) (is_next s r) may).1

    link : IsFirstFrom s.submitters (suc r) (slice_index s.submitters r) (slice_index links r)
    link = kept.linked.next r inside was_open

    open_other : (q : ℕ) → is_done (state_at (with_state s r (row.Done seq)) q) ≡ false → q ≢ r
    open_other q e f = both_ways _ e (ap is_done (ap (state_at (with_state s r (row.Done seq))) f ∙ here s r (row.Done seq) inside))

    -- what was Done is
    grown : (q : ℕ) → Done s q → Done (with_state s r (row.Done seq)) q
    grown q d = elim (cases_eq q r) [
      | inl f ↦ ap is_done (ap (state_at (with_state s r (row.Done seq))) f ∙ here s r (row.Done seq) inside)
      | inr f ↦ ap is_done (there s r (row.Done seq) q f) ∙ d
    ]

    -- what is Done was, but for the row
    shrunk : (q : ℕ) → q ≢ r → Done (with_state s r (row.Done seq)) q → Done s q
    shrunk q f d = ap is_done (sym (there s r (row.Done seq) q f)) ∙ d

    behind : slice_index links r < length s.states → r < slice_index links r
    behind l = (let found = link.there (omega (arith, l, kept.as_many)) in omega (arith, found.0))

    -- the next row of the submitter has all earlier ones Done
    next_turn : slice_index links r < length s.states → Earlier (with_state s r (row.Done seq)) (slice_index links r)
    next_turn l p below e =
        let found = link.there (omega (arith, l, kept.as_many)) in
        let same : Same s p r = e ∙ found.1 in
        elim (cases_lt p r) [
          | inl less ↦ grown p (turn p less same)
          | inr more ↦ elim (cases_eq p r) [
            | inl f ↦ ap is_done (ap (state_at (with_state s r (row.Done seq))) f ∙ here s r (row.Done seq) inside)
            | inr f ↦ absurd (link.none_before p (omega (arith, more, f)) below same)
          ]
        ]

    -- another row has all earlier ones Done exactly where it had
    other_turn : (q : ℕ) → q ≢ r → q ≢ slice_index links r → q < length s.states → is_next s q ≡ is_next (with_state s r (row.Done seq)) q
    other_turn q not_row not_next within = same_test (is_next s q) (is_next (with_state s r (row.Done seq)) q)
        (λ h. next_from (with_state s r (row.Done seq)) q (λ p l e. grown p (earlier_done s q h p l e)))
        (λ h. next_from s q (λ p l e. elim (cases_eq p r) [
          | inl f ↦ (let after : r < q = omega (arith, l, f) in
              let same : Same s q r = sym e ∙ ap (slice_index s.submitters) f in
              absurd (too_far q not_next within after same (earlier_done (with_state s r (row.Done seq)) q h)))
          | inr f ↦ shrunk p f (earlier_done (with_state s r (row.Done seq)) q h p l e)
        ]))
      where
        too_far : (q : ℕ) → q ≢ slice_index links r → q < length s.states → r < q → Same s q r → Earlier (with_state s r (row.Done seq)) q → ⊥
        too_far q not_next within after same all = elim (cases_lt q (slice_index links r)) [
          | inl less ↦ link.none_before q (omega (arith, after)) less same
          | inr more ↦ (let less : slice_index links r < q = omega (arith, more, not_next) in
              let inside_next : slice_index links r < length s.states = omega (arith, less, within) in
              let found = link.there (omega (arith, inside_next, kept.as_many)) in
              let after_row : r < slice_index links r = behind inside_next in
              let was_done : Done s (slice_index links r) = shrunk (slice_index links r) (omega (arith, after_row)) (all (slice_index links r) less (found.1 ∙ sym same)) in
              both_ways _ was_open (kept.turn.done r (slice_index links r) after_row (sym found.1) was_done))
        ]

    not_linked : r ≢ slice_index links r
    not_linked e = elim (cases_lt (slice_index links r) (length s.states)) [
      | inl l ↦ (let more = behind l in absurd (omega (arith, more, e)))
      | inr g ↦ absurd (omega (arith, inside, g, e))
    ]

    -- what the words say of a number
    said : ℕ → Bool
    said q = (is_member words q && not (q == r)) || (is_left (slice_set s.states r (row.Done seq)) (slice_index links r) && (q == slice_index links r))

    due : ℕ → Bool
    due q = nat_lt q (length (slice_set s.states r (row.Done seq))) && may_claim (with_state s r (row.Done seq)) q

    due_within : (q : ℕ) → q < length s.states → due q ≡ may_claim (with_state s r (row.Done seq)) q
    due_within q within = ap (λ b. b && may_claim (with_state s r (row.Done seq)) q) (lt-ltb q (length (slice_set s.states r (row.Done seq))) (omega (arith, within, same_length)))

    at_row : said r ≡ due r
    at_row = gone (is_member words r) (not (r == r)) _ (r == slice_index links r) (ap not (not_self r)) (ne_eqb r (slice_index links r) not_linked)
        ∙ sym (due_within r inside ∙ and_none_first _ _ (ap has_claim_left (here s r (row.Done seq) inside)))

    at_past : (q : ℕ) → length s.states ≤ q → said q ≡ due q
    at_past q past = gone_both (is_member words q) _ _ (kept.entered.members q ∙ ap (λ b. b && may_claim s q) (le-ltb q (length s.states) past)) (elim (cases_eq q (slice_index links r)) [
      | inl f ↦ ap (λ b. (b && has_claim_left (state_at (with_state s r (row.Done seq)) (slice_index links r))) && (q == slice_index links r)) (le-ltb (slice_index links r) (length (slice_set s.states r (row.Done seq))) (omega (arith, past, f, same_length)))
      | inr n ↦ and_none _ _ (ne_eqb q (slice_index links r) n)
    ]) ∙ sym (ap (λ b. b && may_claim (with_state s r (row.Done seq)) q) (le-ltb q (length (slice_set s.states r (row.Done seq))) (omega (arith, past, same_length))))

    at_next : slice_index links r < length s.states → said (slice_index links r) ≡ due (slice_index links r)
    at_next within =
        let other : slice_index links r ≢ r = λ e. not_linked (sym e) in
        let left : is_left (slice_set s.states r (row.Done seq)) (slice_index links r) ≡ has_claim_left (state_at (with_state s r (row.Done seq)) (slice_index links r)) =
        ap (λ b. b && has_claim_left (state_at (with_state s r (row.Done seq)) (slice_index links r))) (lt-ltb (slice_index links r) (length (slice_set s.states r (row.Done seq))) (omega (arith, within, same_length))) in
        both (is_member words (slice_index links r)) _ _ _ (ap not (ne_eqb (slice_index links r) r other)) (not_self (slice_index links r))
        ∙ absorbed _ _ (λ e. left ∙ ap has_claim_left (there s r (row.Done seq) (slice_index links r) other) ∙ was_left (slice_index links r) e) ∙ left
        ∙ sym (due_within (slice_index links r) within ∙ and_all _ _ (next_from (with_state s r (row.Done seq)) (slice_index links r) (next_turn within)))
      where
        was_left : (q : ℕ) → is_member words q ≡ true → has_claim_left (state_at s q) ≡ true
        was_left q e = (and_parts (has_claim_left (state_at s q)) (is_next s q) (and_parts (nat_lt q (length s.states)) (may_claim s q) (sym (kept.entered.members q) ∙ e)).1).0

    at_other : (q : ℕ) → q < length s.states → q ≢ r → q ≢ slice_index links r → said q ≡ due q
    at_other q within not_row not_next =
        kept_only (is_member words q) _ _ _ (ap not (ne_eqb q r not_row)) (ne_eqb q (slice_index links r) not_next)
        ∙ kept.entered.members q ∙ ap (λ b. b && may_claim s q) (lt-ltb q (length s.states) within)
        ∙ ap (λ b. has_claim_left (state_at s q) && b) (other_turn q not_row not_next within)
        ∙ ap (λ y. has_claim_left y && is_next (with_state s r (row.Done seq)) q) (sym (there s r (row.Done seq) q not_row))
        ∙ sym (due_within q within)

    entered : (q : ℕ) → is_member words' q ≡ (nat_lt q (length (slice_set s.states r (row.Done seq))) && may_claim (with_state s r (row.Done seq)) q)
    entered q = members q ∙ elim (cases_lt q (length s.states)) [
      | inl within ↦ elim (cases_eq q r) [
        | inl f ↦ subst (λ k. said k ≡ due k) (sym f) at_row
        | inr not_row ↦ elim (cases_eq q (slice_index links r)) [
          | inl f ↦ subst (λ k. said k ≡ due k) (sym f) (at_next (subst (λ k. k < length s.states) f within))
          | inr not_next ↦ at_other q within not_row not_next
        ]
      ]
      | inr past ↦ at_past q past
    ]
