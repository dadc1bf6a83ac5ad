-- What is found among the rows: the least that may be claimed, the first that is open, and whether some row is Claimed.
use Rattle.std.proofs.Common.{◌≡◌, ℕ, ◌+◌, ◌-◌, ◌<◌, ◌≤◌, Bool, true, false, cond, not, ◌&&◌, ◌||◌, nat_lt, List, [], ◌∷◌, length, Some, None, refl, sym, ap, ◌∙◌, arith, inl, inr}
use Rattle.std.specs.List.{count_by, list_any}
use Rattle.std.proofs.lemmas.Bool.{both_ways, cases_lt, and_parts, lt-ltb, ltb-true, not_from_true, not_from_false, and_from}
use Rattle.std.proofs.lemmas.List.Sums.{sum_by-cons}
use Rattle.std.proofs.lemmas.List.{get_or_past}
use Rattle.ecf_core.specs.declared.book.RowState.TheVariants as row
use Rattle.ecf_core.specs.Book.{is_done}
use Rattle.ecf_rows.specs.Standing.{Standing, AreDoneBefore, state_at, may_claim, may_place, least_claimable, first_open_from}
use Rattle.ecf_rows.specs.Kept.{IsKept}
use Rattle.ecf_rows.specs.RowSet.{is_member, IsLeastOf}
use Rattle.ecf_rows.proofs.RangeLaws.{find_in_range, find_none_in_range}
use Rattle.ecf_rows.proofs.TurnLaws.{next_from}

pub some_counted : {X : Type 0} (p : X → Bool) (xs : List X) → nat_lt 0 (count_by p xs) ≡ list_any p xs
some_counted p [] = refl
some_counted p (x ∷ xs) = ap (nat_lt 0) (sum_by-cons (λ y. cond (p y) 1 0) x xs) ∙ by (p x) (some_counted p xs)
  where
    by : (b : Bool) → nat_lt 0 (count_by p xs) ≡ list_any p xs → nat_lt 0 (cond b 1 0 + count_by p xs) ≡ (b || list_any p xs)
    by true deep = lt-ltb 0 (1 + count_by p xs) (omega arith)
    by false deep = let none : 0 + count_by p xs ≡ count_by p xs = omega arith in ap (nat_lt 0) none ∙ deep

not_member : (s : Standing) (links words : List ℕ) (claimed settled j : ℕ) → IsKept s links words claimed settled → j < length s.states → is_member words j ≡ false → may_claim s j ≡ false
not_member s links words claimed settled j kept within none = sym (ap (λ b. b && may_claim s j) (lt-ltb j (length s.states) within)) ∙ sym (kept.entered.members j) ∙ none

pub none_claimable : (s : Standing) (links words : List ℕ) (claimed settled : ℕ) → IsKept s links words claimed settled → ((j : ℕ) → is_member words j ≡ false) → least_claimable s ≡ None
none_claimable s links words claimed settled kept none = find_none_in_range (may_claim s) 0 (length s.submitters) (λ j _ l. not_member s links words claimed settled j kept (omega (arith, l, kept.as_many)) (none j))

pub member_within : (s : Standing) (links words : List ℕ) (claimed settled i : ℕ) → IsKept s links words claimed settled → is_member words i ≡ true → (i < length s.states) × (may_claim s i ≡ true)
member_within s links words claimed settled i kept member = (let parts = and_parts (nat_lt i (length s.states)) (may_claim s i) (sym (kept.entered.members i) ∙ member) in (ltb-true i (length s.states) parts.0, parts.1))

pub least_is : (s : Standing) (links words : List ℕ) (claimed settled i : ℕ) → IsKept s links words claimed settled → IsLeastOf words i → least_claimable s ≡ Some i
least_is s links words claimed settled i kept least =
    let is = member_within s links words claimed settled i kept least.member in
    find_in_range (may_claim s) 0 (length s.submitters) i (omega arith) (omega (arith, is.0, kept.as_many)) is.1
    (λ j _ l. not_member s links words claimed settled j kept (omega (arith, l, is.0)) (least.least j l))

-- the first open row, of which those before it from a place on are Done
pub first_is : (s : Standing) (from r : ℕ) → from ≤ r → r < length s.submitters → is_done (state_at s r) ≡ false → ((q : ℕ) → from ≤ q → q < r → is_done (state_at s q) ≡ true) → first_open_from s from ≡ Some r
first_is s from r low within opens before = find_in_range (λ q. not (is_done (state_at s q))) from (length s.submitters - from) r low (omega (arith, low, within)) (not_from_false _ opens) (λ j l h. not_from_true _ (before j l h))

pub none_open : (s : Standing) (from place : ℕ) → length s.submitters ≤ place → ((q : ℕ) → from ≤ q → q < place → is_done (state_at s q) ≡ true) → first_open_from s from ≡ None
none_open s from place past done = find_none_in_range (λ q. not (is_done (state_at s q))) from (length s.submitters - from) (λ j l h. not_from_true _ (done j l (omega (arith, l, h, past))))

pub may_be_next : (s : Standing) (from r : ℕ) → AreDoneBefore s from → ((q : ℕ) → from ≤ q → q < r → is_done (state_at s q) ≡ true) → is_done (state_at s r) ≡ false → may_place s r ≡ true
may_be_next s from r before between opens = and_from _ _ (not_from_false _ opens) (next_from s r (λ q l _. elim (cases_lt q from) [ inl less ↦ before q less | inr more ↦ between q more l ]))

-- the rows before the settled place are there
pub settled_within : (s : Standing) (settled : ℕ) → AreDoneBefore s settled → settled ≤ length s.states
settled_within s settled done = elim (cases_lt (length s.states) settled) [
  | inl more ↦ absurd (both_ways (is_done (state_at s (length s.states))) (ap is_done (get_or_past s.states (length s.states) (row.Free 0) (omega arith))) (done (length s.states) more))
  | inr less ↦ less
]
