-- The placing over the rows of what reaches what is that of the trace.
use Rattle.std.proofs.Common.{◌≡◌, ◌==◌, ℕ, Bool, true, List, reverse, sym, ap, subst, ◌∙◌}
use Rattle.std.specs.List.{list_any}
use Rattle.std.specs.Prelude.{Contains}
use Rattle.std.proofs.lemmas.List.{reverse-reverse}
use Rattle.ecf_lang.specs.declared.run.Step.{Step}
use Rattle.ecf_verdicts.specs.Before.{before}
use Rattle.ecf_verdicts.specs.Traces.{members}
use Rattle.ecf_verdicts.specs.ListLemmas.{Has_from_any, any_from_Has}
use Rattle.ecf_verdicts.specs.Laws.{BeforeIsOfMembers}
use Rattle.ecf_precedence.specs.Newest.{reduced}
use Rattle.ecf_graph.specs.Placement.{placement_of, IsWithin}
use Rattle.ecf_graph.specs.Paths.{Reaches, one, more, SameReach}
use Rattle.ecf_precedence.specs.Laws.{PlacementByReach, ReducedReachesBefore}
use Rattle.ecf_precedence.specs.EndLemmas.{same_test, Has_reverse, Has_from_reverse}
use Rattle.ecf_graph.specs.Pairs.{joins}
use Rattle.ecf_graph.specs.PathLemmas.{along, wider}
use Rattle.ecf_graph.specs.Rows.{numbers_below}
use Rattle.ecf_graph.specs.Rows.{is_in_row}
use Rattle.ecf_conflict.specs.Laws.{NumbersAreMembers}
use Rattle.ecf_graph.specs.Rows.{is_member}
use Rattle.ecf_online.specs.Closure.{IsClosure}
use Rattle.ecf_online.specs.Watched.{HasSeen}

module _ (before_is_of_members : BeforeIsOfMembers) (reduced_reaches_before : ReducedReachesBefore) (placement_by_reach : PlacementByReach) where
  -- both ends of a path have steps
  ends : (t : List Step) {i j : ℕ} → Reaches (before t) i j → Contains (members t) i × Contains (members t) j
  ends t {i} {j} (one e) = before_is_of_members t i j e
  ends t {i} {j} (more {j = k} e p) = ((before_is_of_members t i k e).0, (ends t p).1)

  before_within : (t : List Step) → IsWithin (before t) (members t)
  before_within t = record { first = λ i j e. (before_is_of_members t i j e).0; second = λ i j e. (before_is_of_members t i j e).1 }

  order_is : (e : List Step) (rows : List (List ℕ)) → IsClosure (reduced e) rows →
      placement_of (λ a b. is_in_row rows b a) (members (reverse e)) ≡ placement_of (before (reverse e)) (members (reverse e))
  order_is e rows c =
      let t = reverse e in
      let path : ((a b : ℕ) → is_in_row rows b a ≡ true → Reaches (before t) a b) = λ a b h. (reduced_reaches_before e).there a b (c.sound a b h) in
      let within : IsWithin (λ a b. is_in_row rows b a) (members t) = record { first = λ i j h. (ends t (path i j h)).0; second = λ i j h. (ends t (path i j h)).1 } in
      let same : SameReach (λ a b. is_in_row rows b a) (before t) = record {
        there = λ i j p. along path p;
        back = λ i j p. one (c.whole i j ((reduced_reaches_before e).back i j p));
      } in
      placement_by_reach _ (before t) (members t) within (before_within t) same

  -- the placement by the rows of what was seen is that of the trace
  pub order_of : (t : List Step) (rows : List (List ℕ)) (ms : List ℕ) → IsClosure (reduced (reverse t)) rows → ms ≡ members t →
      placement_of (λ a b. is_in_row rows b a) ms ≡ placement_of (before t) (members t)
  order_of t rows ms c e =
      let back : members (reverse (reverse t)) ≡ members t = ap members (reverse-reverse t) in
      ap (λ l. placement_of (λ a b. is_in_row rows b a) l) (e ∙ sym back) ∙ (order_is (reverse t) rows c ∙ ap (λ u. placement_of (before u) (members u)) (reverse-reverse t))

-- the pairs that were added reach what "before" reaches
pub pairs_reach : ReducedReachesBefore → (t : List Step) (pairs : List (ℕ × ℕ)) → ((i j : ℕ) → joins pairs i j ≡ reduced (reverse t) i j) → SameReach (joins pairs) (before t)
pairs_reach reduced_reaches_before t pairs e = subst (λ u. SameReach (joins pairs) (before u)) (reverse-reverse t) record {
  there = λ i j p. (reduced_reaches_before (reverse t)).there i j (wider (λ a b f. sym (e a b) ∙ f) p);
  back = λ i j p. wider (λ a b f. e a b ∙ f) ((reduced_reaches_before (reverse t)).back i j p);
}

any_reverse : (p : Step → Bool) (t : List Step) → list_any p (reverse t) ≡ list_any p t
any_reverse p t = same_test _ _
    (λ e. any_from_Has p t (Has_from_reverse (λ x. p x ≡ true) t (Has_from_any p (reverse t) e)))
    (λ e. any_from_Has p (reverse t) (Has_reverse (λ x. p x ≡ true) t (Has_from_any p t e)))

-- the seen ones are the members
pub seen_are_members : NumbersAreMembers → (t : List Step) (seen : List ℕ) (above : ℕ) → HasSeen (reverse t) seen above → numbers_below (is_member seen) above ≡ members t
seen_are_members numbers t seen above s = numbers t (is_member seen) above
    (λ i. s.seen_are i ∙ any_reverse (λ u. u.inv == i) t)
    (λ i e. s.above_all i (any_reverse (λ u. u.inv == i) t ∙ e))
