-- What is taken from a rising list is the least.
use Rattle.std.proofs.Common.{◌≡◌, ℕ, suc, zero, ◌<◌, true, not, List, length, Some, None, ◌⊎◌, inl, inr, sym, subst}
use Rattle.std.proofs.lemmas.Bool.{both_ways, not-false}
use Rattle.ecf_lang.specs.declared.run.Step.{Step}
use Rattle.ecf_verdicts.specs.Before.{before}
use Rattle.ecf_verdicts.specs.Cycles.{least_before}
use Rattle.ecf_verdicts.specs.Laws.{RestRises, NextIsLeast, StepIsLeast}
use Rattle.ecf_verdicts.specs.Placing.{waits, next_placed, without, placing_from, placing}
use Rattle.ecf_verdicts.specs.Traces.{members}
use Rattle.ecf_verdicts.specs.ListLemmas.{In, Has_in, Has_from_any, Contains_from_In, In_from_Contains, find_some, option_cases}
use Rattle.ecf_verdicts.specs.PlacingLemmas.{next_some, placing_none, placing_some}
use Rattle.ecf_verdicts.specs.RisingLemmas.{Rising, increasing_from, rising_from, filter_rises}
use Rattle.ecf_verdicts.proofs.MemberLaws.{Rising_members}
use Rattle.ecf_verdicts.proofs.VerdictLaws.{find_least}

without_rises : (j : ℕ) (xs : List ℕ) → Rising xs → Rising (without j xs)
unfolding without
without_rises j xs r = filter_rises _ xs r

rest_in_order : (t : List Step) (n : ℕ) (u : List ℕ) → Rising u → Rising (placing_from t n u).rest
unfolding placing_from
rest_in_order t zero u r = r
rest_in_order t (suc n) u r = go (option_cases (next_placed t u)) (λ m. rest_in_order t n (without m u) (without_rises m u r))
  where
    go : (next_placed t u ≡ None) ⊎ ((m : ℕ) × (next_placed t u ≡ Some m)) → ((m : ℕ) → Rising (placing_from t n (without m u)).rest) → Rising (placing_from t (suc n) u).rest
    go (inl none) deep = subst (λ p. Rising p.rest) (sym (placing_none t n u none)) r
    go (inr some) deep = subst (λ p. Rising p.rest) (sym (placing_some t n u some.0 some.1)) (deep some.0)

pub rest_rises : RestRises
unfolding placing
rest_rises t = increasing_from _ (rest_in_order t (length (members t)) (members t) (Rising_members t))

waiting : (t : List Step) (u : List ℕ) (j k : ℕ) → Rising u → next_placed t u ≡ Some j → In k u → k < j → (i : ℕ) × In i u × (before t i k ≡ true)
unfolding next_placed waits
waiting t u j k r e h l = Has_in (λ i. before t i k ≡ true) u (Has_from_any (λ i. before t i k) u (not-false _ (find_least (λ k. not (waits t u k)) u j k r e h l)))

pub next_is_least : NextIsLeast
next_is_least t u j rises e =
    let s = next_some t u j e in (
      Contains_from_In u j s.0,
      λ i c b. s.1 i (In_from_Contains u i c) b,
      λ k c l. (let w = waiting t u j k (rising_from u rises) e (In_from_Contains u k c) l in (w.0, Contains_from_In u w.0 w.1, w.2)),
    )

pub step_is_least : StepIsLeast
unfolding least_before
step_is_least t rest j i rises e =
    let s = find_some (λ k. before t k j) rest i e in (
      Contains_from_In rest i s.0,
      s.1,
      λ k c l b. both_ways _ (find_least (λ k. before t k j) rest i k (rising_from rest rises) e (In_from_Contains rest k c) l) b,
    )
