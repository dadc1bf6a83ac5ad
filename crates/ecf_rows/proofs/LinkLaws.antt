-- Where numbers come first and next in a list that is gone through from its end.
use Rattle.std.proofs.Common.{◌≡◌, ◌≢◌, ℕ, suc, ◌+◌, ◌<◌, cond, ◌==◌, List, length, Option, Some, refl, sym, ap, subst, ◌∙◌, arith, inl, inr, slice_set, get_or-set_same, get_or-set_other, length-set}
use Rattle.std.specs.Prelude.{slice_index}
use Rattle.std.specs.Option.{unwrap_or}
use Rattle.std.proofs.lemmas.Bool.{cases_eq, eq-eqb, ne_eqb}
use Rattle.ecf_rows.specs.Links.{IsFirstFrom, FindsFirst, IsLinked, AreLinks}

-- a number is first at its own place
own_place : (list : List ℕ) (k : ℕ) → k < length list → IsFirstFrom list k (slice_index list k) k
own_place list k within = record {
  within = omega (arith, within);
  there = λ _. (omega arith, refl);
  none_before = λ q low high. absurd (omega (arith, low, high));
}

-- another number doesn't stand there
one_earlier : (list : List ℕ) (k number place : ℕ) → slice_index list k ≢ number → IsFirstFrom list (suc k) number place → IsFirstFrom list k number place
one_earlier list k number place other first = record {
  within = first.within;
  there = λ l. (let found = first.there l in (omega (arith, found.0), found.1));
  none_before = λ q low high. elim (cases_eq q k) [
    | inl e ↦ (λ same. other (ap (slice_index list) (sym e) ∙ same))
    | inr n ↦ first.none_before q (omega (arith, low, n)) high
  ];
}

pub found_more : (list : List ℕ) (k : ℕ) (old new : ℕ → Option ℕ) → k < length list → FindsFirst list (suc k) old →
    ((number : ℕ) → new number ≡ cond (slice_index list k == number) (Some k) (old number)) → FindsFirst list k new
found_more list k old new within found change number = elim (cases_eq (slice_index list k) number) [
  | inl e ↦ subst (IsFirstFrom list k number) (sym (ap (λ o. unwrap_or o (length list)) (change number ∙ ap (λ b. cond b (Some k) (old number)) (eq-eqb _ _ e)))) (subst (λ n. IsFirstFrom list k n k) e (own_place list k within))
  | inr n ↦ subst (IsFirstFrom list k number) (sym (ap (λ o. unwrap_or o (length list)) (change number ∙ ap (λ b. cond b (Some k) (old number)) (ne_eqb _ _ n)))) (one_earlier list k number (unwrap_or (old number) (length list)) n (found number))
]

pub linked_more : (list : List ℕ) (before k link place : ℕ) (links : List ℕ) → k < length list → AreLinks list before (suc k) links → link ≡ before + place → IsFirstFrom list (suc k) (slice_index list k) place →
    AreLinks list before k (slice_set links k link)
linked_more list before k link place links within h e first = record {
  as_many = length-set links k link ∙ h.as_many;
  each = λ q low high. elim (cases_eq q k) [
    | inl f ↦ subst (λ z. IsLinked list before z (slice_index (slice_set links k link) z)) (sym f) (subst (IsLinked list before k) (sym (get_or-set_same links k link 0 (omega (arith, within, h.as_many)))) record { place = place; is = e; first = first })
    | inr n ↦ subst (IsLinked list before q) (sym (get_or-set_other links k q link 0 n)) (h.each q (omega (arith, low, n)) high)
  ];
}
