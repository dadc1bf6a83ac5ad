-- What is kept as rows are added behind rows that are all Done.
use Rattle.std.proofs.Common.{◌≡◌, ℕ, suc, ◌+◌, ◌-◌, ◌*◌, ◌<◌, ◌≤◌, Bool, true, false, ◌&&◌, nat_lt, List, [], ◌∷◌, ◌++◌, length, map, replicate, refl, sym, ap, subst, ◌∙◌, arith, inl, inr}
use Rattle.std.specs.Prelude.{slice_index}
use Rattle.std.specs.List.{count_by}
use Rattle.std.proofs.lemmas.Bool.{cases_lt, both_ways, lt-ltb, le-ltb}
use Rattle.std.proofs.lemmas.List.{get_or_append_left, get_or-append-add, get_or_past, get_or-replicate, length-append, length-replicate}
use Rattle.std.proofs.lemmas.List.Sums.{sum_by-append}
use Rattle.std.proofs.lemmas.List.Folds.{sum_by-replicate}
use Rattle.ecf_lang.specs.declared.limits.TheConstants.{MAX_TRANSACTIONS}
use Rattle.ecf_lang.specs.declared.tx.Tx.{Tx}
use Rattle.ecf_core.specs.declared.book.RowState.{RowState}
use Rattle.ecf_core.specs.declared.book.RowState.TheVariants as row
use Rattle.ecf_core.specs.Book.{is_claimed, is_done, has_claim_left, new_rows}
use Rattle.ecf_rows.specs.Standing.{Standing, state_at, is_next, may_claim, submitters_of}
use Rattle.ecf_rows.specs.Kept.{IsKept, one_if_claimed}
use Rattle.ecf_rows.specs.Links.{IsFirstFrom, AreLinks, HasEntered}
use Rattle.ecf_rows.specs.RowSet.{is_member}
use Rattle.ecf_rows.proofs.RangeLaws.{same_test, length_mapped}
use Rattle.ecf_rows.proofs.WordLaws.{member_none}
use Rattle.ecf_rows.proofs.TurnLaws.{Done, earlier_done, next_from, done_none_left, done_not_claimed, none_left}

-- rows with these submitters behind others
abbrev pub with_free : Standing → List ℕ → Standing
with_free s more = record { submitters = s.submitters ++ more; states = s.states ++ replicate (length more) (row.Free 0) }

-- places further on in a longer list
shifted : (list more : List ℕ) (from number place before : ℕ) → before ≡ length list → IsFirstFrom more from number place → IsFirstFrom (list ++ more) (before + from) number (before + place)
shifted list more from number place before e first = record {
  within = omega (arith, first.within, e, length-append list more);
  there = λ l. (let found = first.there (omega (arith, l, e, length-append list more)) in
      (omega (arith, found.0), ap (λ n. slice_index (list ++ more) (n + place)) e ∙ get_or-append-add list more place 0 ∙ found.1));
  none_before = λ q low high same. (let back : q ≡ length list + (q - before) = omega (arith, low, e) in
      first.none_before (q - before) (omega (arith, low)) (omega (arith, low, high)) (sym (get_or-append-add list more (q - before) 0) ∙ ap (slice_index (list ++ more)) (sym back) ∙ same));
}

none_counted : (n : ℕ) → count_by is_claimed (replicate n (row.Free 0)) ≡ 0
none_counted n = sum_by-replicate one_if_claimed n (row.Free 0) ∙ omega arith

pub extended_kept : (s : Standing) (more links next words room now : List ℕ) (claimed settled before : ℕ) → before ≡ length s.states → IsKept s links words claimed settled → ((r : ℕ) → r < length s.states → Done s r) →
    before + length more ≤ MAX_TRANSACTIONS → ((k : ℕ) → is_member room k ≡ is_member words k) → before + length more ≤ 64 * length room →
    HasEntered more before (length more) room now → AreLinks more before 0 next → IsKept (with_free s more) (links ++ next) now claimed before
extended_kept s more links next words room now claimed settled before at kept done few same_set wide entered_first linked = record {
  as_many = length-append s.submitters more ∙ ap (λ n. n + length more) kept.as_many ∙ sym longer;
  few = omega (arith, few, longer, at);
  linked = record {
    as_many = omega (arith, length-append links next, kept.linked.as_many, linked.as_many, longer);
    next = λ r l opens. elim (cases_lt r before) [
      | inl old ↦ absurd (both_ways _ opens (done_old r old))
      | inr new ↦ (let k : r ≡ before + (r - before) = omega (arith, new) in
          subst (λ z. IsFirstFrom (s.submitters ++ more) (suc z) (slice_index (s.submitters ++ more) z) (slice_index (links ++ next) z)) (sym k) (next_of (r - before) (omega (arith, l, longer, at, new))))
    ];
  };
  entered = record { members = members; room = omega (arith, wide, entered_first.words, longer, at) };
  turn = record {
    done = λ q r l same d. elim (cases_lt r before) [
      | inl old ↦ done_old q (omega (arith, l, old))
      | inr new ↦ absurd (both_ways _ (ap is_done (free r new)) d)
    ];
    claimed = λ r c. elim (cases_lt r before) [
      | inl old ↦ absurd (both_ways _ (done_not_claimed _ (done_old r old)) c)
      | inr new ↦ absurd (both_ways _ (ap is_claimed (free r new)) c)
    ];
  };
  counted = kept.counted ∙ (let all : count_by is_claimed (s.states ++ replicate (length more) (row.Free 0)) ≡ count_by is_claimed s.states + count_by is_claimed (replicate (length more) (row.Free 0)) = sum_by-append one_if_claimed s.states (replicate (length more) (row.Free 0)) in
      omega (arith, all, none_counted (length more)));
  done_before = done_old;
}
  where
    longer : length (s.states ++ replicate (length more) (row.Free 0)) ≡ length s.states + length more
    longer = length-append s.states (replicate (length more) (row.Free 0)) ∙ ap (λ n. length s.states + n) (length-replicate (length more) (row.Free 0))

    done_old : (r : ℕ) → r < before → Done (with_free s more) r
    done_old r l = ap is_done (get_or_append_left s.states (replicate (length more) (row.Free 0)) (row.Free 0) r (omega (arith, l, at))) ∙ done r (omega (arith, l, at))

    free : (r : ℕ) → before ≤ r → state_at (with_free s more) r ≡ row.Free 0
    free r new = elim (cases_lt r (before + length more)) [
      | inl l ↦ (let back : r ≡ length s.states + (r - before) = omega (arith, new, at) in
          ap (state_at (with_free s more)) back ∙ get_or-append-add s.states (replicate (length more) (row.Free 0)) (r - before) (row.Free 0) ∙ get_or-replicate (length more) (r - before) (row.Free 0) (row.Free 0) (omega (arith, l, new)))
      | inr past ↦ get_or_past (s.states ++ replicate (length more) (row.Free 0)) r (row.Free 0) (omega (arith, past, longer, at))
    ]

    submitter : (k : ℕ) → slice_index (s.submitters ++ more) (before + k) ≡ slice_index more k
    submitter k = ap (λ n. slice_index (s.submitters ++ more) (n + k)) (at ∙ sym kept.as_many) ∙ get_or-append-add s.submitters more k 0

    next_of : (k : ℕ) → k < length more → IsFirstFrom (s.submitters ++ more) (suc (before + k)) (slice_index (s.submitters ++ more) (before + k)) (slice_index (links ++ next) (before + k))
    next_of k l =
        let link = linked.each k (omega arith) l in
        let further : suc (before + k) ≡ before + suc k = omega arith in
        let is : slice_index (links ++ next) (before + k) ≡ before + link.place = ap (λ n. slice_index (links ++ next) (n + k)) (at ∙ sym kept.linked.as_many) ∙ get_or-append-add links next k 0 ∙ link.is in
        subst (λ z. IsFirstFrom (s.submitters ++ more) (suc (before + k)) (slice_index (s.submitters ++ more) (before + k)) z) (sym is)
        (subst (λ z. IsFirstFrom (s.submitters ++ more) (suc (before + k)) z (before + link.place)) (sym (submitter k))
        (subst (λ z. IsFirstFrom (s.submitters ++ more) z (slice_index more k) (before + link.place)) (sym further)
        (shifted s.submitters more (suc k) (slice_index more k) link.place before (at ∙ sym kept.as_many) link.first)))

    -- a new row has all earlier ones Done exactly where it is the first of its submitter
    first_from : (k : ℕ) → k < length more → is_next (with_free s more) (before + k) ≡ true → IsFirstFrom more 0 (slice_index more k) k
    first_from k l h = record {
      within = omega (arith, l);
      there = λ _. (omega arith, refl);
      none_before = λ q _ less same. both_ways _ (ap is_done (free (before + q) (omega arith))) (earlier_done (with_free s more) (before + k) h (before + q) (omega (arith, less)) (submitter q ∙ same ∙ sym (submitter k)));
    }

    next_first : (k : ℕ) → IsFirstFrom more 0 (slice_index more k) k → is_next (with_free s more) (before + k) ≡ true
    next_first k first = next_from (with_free s more) (before + k) (λ q l same. elim (cases_lt q before) [
      | inl old ↦ done_old q old
      | inr new ↦ (let back : q ≡ before + (q - before) = omega (arith, new) in
          absurd (first.none_before (q - before) (omega arith) (omega (arith, l, new)) (sym (submitter (q - before)) ∙ ap (slice_index (s.submitters ++ more)) (sym back) ∙ same ∙ submitter k)))
    ])

    due : ℕ → Bool
    due r = nat_lt r (length (s.states ++ replicate (length more) (row.Free 0))) && may_claim (with_free s more) r

    none_old : (r : ℕ) → r < before → is_member words r ≡ false
    none_old r l = kept.entered.members r ∙ none_left (nat_lt r (length s.states)) (has_claim_left (state_at s r)) (is_next s r) (done_none_left (state_at s r) (done r (omega (arith, l, at))))

    at_old : (r : ℕ) → r < before → is_member now r ≡ due r
    at_old r l = entered_first.kept r l ∙ same_set r ∙ none_old r l
        ∙ sym (none_left (nat_lt r (length (s.states ++ replicate (length more) (row.Free 0)))) (has_claim_left (state_at (with_free s more) r)) (is_next (with_free s more) r) (done_none_left (state_at (with_free s more) r) (done_old r l)))

    at_past : (r : ℕ) → before + length more ≤ r → is_member now r ≡ due r
    at_past r past = entered_first.rest r past ∙ same_set r ∙ kept.entered.members r ∙ ap (λ b. b && may_claim s r) (le-ltb r (length s.states) (omega (arith, past, at)))
        ∙ sym (ap (λ b. b && may_claim (with_free s more) r) (le-ltb r (length (s.states ++ replicate (length more) (row.Free 0))) (omega (arith, past, longer, at))))

    due_new : (k : ℕ) → k < length more → due (before + k) ≡ is_next (with_free s more) (before + k)
    due_new k l = ap (λ b. b && may_claim (with_free s more) (before + k)) (lt-ltb (before + k) (length (s.states ++ replicate (length more) (row.Free 0))) (omega (arith, l, longer, at)))
        ∙ ap (λ y. has_claim_left y && is_next (with_free s more) (before + k)) (free (before + k) (omega arith))

    at_new : (k : ℕ) → k < length more → is_member now (before + k) ≡ due (before + k)
    at_new k l = same_test (is_member now (before + k)) (is_next (with_free s more) (before + k))
        (λ e. next_first k ((entered_first.entered k l).0 e)) (λ e. (entered_first.entered k l).1 (first_from k l e)) ∙ sym (due_new k l)

    members : (r : ℕ) → is_member now r ≡ (nat_lt r (length (s.states ++ replicate (length more) (row.Free 0))) && may_claim (with_free s more) r)
    members r = elim (cases_lt r before) [
      | inl old ↦ at_old r old
      | inr new ↦ elim (cases_lt r (before + length more)) [
        | inl l ↦ (let back : r ≡ before + (r - before) = omega (arith, new) in subst (λ z. is_member now z ≡ due z) (sym back) (at_new (r - before) (omega (arith, l, new))))
        | inr past ↦ at_past r past
      ]
    ]

-- so many Free rows are those of as many transactions
pub free_rows : (txs : List Tx) → replicate (length txs) (row.Free 0) ≡ new_rows txs
free_rows [] = refl
free_rows (tx ∷ txs) = ap (λ l. row.Free 0 ∷ l) (free_rows txs)

-- the same rows and links in other words
pub kept_alike : (a a' : List ℕ) (b b' : List RowState) (links links' words : List ℕ) (claimed settled : ℕ) → a' ≡ a → b' ≡ b → links' ≡ links →
    IsKept (record { submitters = a; states = b }) links words claimed settled → IsKept (record { submitters = a'; states = b' }) links' words claimed settled
kept_alike a a' b b' links links' words claimed settled e f g kept =
    subst (λ (l : List ℕ). IsKept (record { submitters = a'; states = b' }) l words claimed settled) (sym g)
    (subst (λ (l : List RowState). IsKept (record { submitters = a'; states = l }) links words claimed settled) (sym f)
    (subst (λ (l : List ℕ). IsKept (record { submitters = l; states = b }) links words claimed settled) (sym e) kept))

-- a set with more room
pub kept_wider : (s : Standing) (links words room : List ℕ) (claimed settled : ℕ) → IsKept s links words claimed settled → ((k : ℕ) → is_member room k ≡ is_member words k) → length words ≤ length room → IsKept s links room claimed settled
kept_wider s links words room claimed settled kept members wider = record {
  as_many = kept.as_many;
  few = kept.few;
  linked = kept.linked;
  entered = record { members = λ r. members r ∙ kept.entered.members r; room = omega (arith, kept.entered.room, wider) };
  turn = kept.turn;
  counted = kept.counted;
  done_before = kept.done_before;
}

-- no rows
pub none_kept : IsKept (record { submitters = []; states = [] }) [] [] 0 0
none_kept = record {
  as_many = refl;
  few = omega arith;
  linked = record { as_many = refl; next = λ r l. absurd (omega (arith, l)) };
  entered = record { members = λ r. member_none r ∙ sym (ap (λ b. b && may_claim (record { submitters = []; states = [] }) r) (le-ltb r 0 (omega arith))); room = omega arith };
  turn = record { done = λ q r l same d. absurd (both_ways false refl d); claimed = λ r c. absurd (both_ways false refl c) };
  counted = refl;
  done_before = λ q l. absurd (omega (arith, l));
}

pub standing_alike : (a a' : List ℕ) (b b' : List RowState) → a ≡ a' → b ≡ b' → ◌≡◌ {A = Standing} (record { submitters = a; states = b }) (record { submitters = a'; states = b' })
standing_alike a a' b b' e f = λ i. record { submitters = e i; states = f i }

pub as_many_submitters : {X : Type 0} (value : X → Tx) (txs : List X) → length (submitters_of (map value txs)) ≡ length txs
as_many_submitters value txs = length_mapped (λ (tx : Tx). tx.submitter) (map value txs) ∙ length_mapped value txs
