-- The first part with a cycle is the shortest that isn't free.
use Rattle.std.proofs.Common.{◌≡◌, ℕ, zero, suc, ◌+◌, ◌<◌, List, [], ◌∷◌, ◌++◌, length, take, get_or, add-one, append_assoc, reverse, Option, Some, None, refl, sym, ap, ◌∙◌, subst, arith, inl, inr}
use Rattle.std.proofs.lemmas.Bool.{cases_order}
use Rattle.std.proofs.lemmas.List.{reverse-append, length-reverse, take-append-le, take_all}
use Rattle.ecf_lang.specs.declared.run.Step.{Step}
use Rattle.ecf_verdicts.specs.Cycles.{at}
use Rattle.ecf_verdicts.specs.Free.{Free}
use Rattle.ecf_verdicts.specs.Laws.{AtIsShortest, FirstPartsFree, IsShortest, TestTellsFree}
use Rattle.ecf_precedence.specs.Newest.{reduced}
use Rattle.ecf_graph.specs.Paths.{Reaches, IsAcyclic}
use Rattle.ecf_precedence.specs.EndLemmas.{reverse_cons}
use Rattle.ecf_precedence.specs.Laws.{FreeExactlyWhereAcyclic, ReducedReachesBefore}
use Rattle.ecf_online.specs.Watched.{IsFirstCycle, first_not_free}

-- one element more
pub take_next : {X : Type 0} (xs : List X) (i : ℕ) (d : X) → i < length xs → take (i + 1) xs ≡ take i xs ++ get_or xs i d ∷ []
take_next xs i d h = rw (add-one i) (go xs i h)
  where
    go : (ys : List _) (k : ℕ) → k < length ys → take (suc k) ys ≡ take k ys ++ get_or ys k d ∷ []
    go [] k l = absurd (omega (arith, l))
    go (y ∷ ys) zero l = refl
    go (y ∷ ys) (suc k) l = ap (λ zs. y ∷ zs) (go ys k (omega (arith, l)))

module _ (free_exactly_where_acyclic : FreeExactlyWhereAcyclic) (reduced_reaches_before : ReducedReachesBefore) (test_tells_free : TestTellsFree)
    (first_parts_free : FirstPartsFree) (at_is_shortest : AtIsShortest) where
  -- a trace is free where its few pairs have no cycle, and only there
  free_from : (e : List Step) → IsAcyclic (reduced e) → Free (reverse e)
  free_from e a = (free_exactly_where_acyclic (reverse e)).1 (λ i p. a i ((reduced_reaches_before e).back i i p))

  none_free : (e : List Step) (i : ℕ) → Reaches (reduced e) i i → Free (reverse e) → ⊥
  none_free e i p f = (free_exactly_where_acyclic (reverse e)).0 f i ((reduced_reaches_before e).there i i p)

  part : (e later : List Step) (s : Step) (earlier : List Step) → e ≡ later ++ s ∷ earlier → reverse e ≡ reverse (s ∷ earlier) ++ reverse later
  part e later s earlier q = ap (λ l. reverse l) q ∙ reverse-append later (s ∷ earlier)

  bad_at : (t : List Step) → (Free t → ⊥) → first_not_free t ≡ Some (at t)
  unfolding first_not_free
  bad_at t n = rw ((test_tells_free t).1.1 n) refl

  bad_none : (t : List Step) → Free t → first_not_free t ≡ None
  unfolding first_not_free
  bad_none t f = rw ((test_tells_free t).0.1 f) refl

  pub first_is_bad : (e : List Step) (o : Option ℕ) → IsFirstCycle e o → o ≡ first_not_free (reverse e)
  first_is_bad e None a = sym (bad_none (reverse e) (free_from e a))
  first_is_bad e (Some k) f =
      let later = f.0 in
      let s = f.1 in
      let earlier = f.2 in
      let whole = part e later s earlier f.3.parts in
      let size : k ≡ suc (length earlier) = f.3.size in
      let len : length (reverse (s ∷ earlier)) ≡ suc (length earlier) = length-reverse (s ∷ earlier) in
      let len2 : length (reverse earlier) ≡ length earlier = length-reverse earlier in
      let front : take k (reverse e) ≡ reverse (s ∷ earlier) = ap (λ l. take k l) whole ∙ (take-append-le k (reverse (s ∷ earlier)) (reverse later) (omega (arith, size, len)) ∙ take_all k (reverse (s ∷ earlier)) (omega (arith, size, len))) in
      let bad_k : (Free (take k (reverse e)) → ⊥) = λ g. none_free (s ∷ earlier) s.inv f.3.closed (subst Free front g) in
      let bad : (Free (reverse e) → ⊥) = λ g. bad_k (first_parts_free (reverse e) g k) in
      let short : IsShortest (reverse e) (at (reverse e)) = at_is_shortest (reverse e) bad in
      let good : ((m : ℕ) → m < k → Free (take m (reverse e))) = λ m l.
      let shorter : take m (reverse e) ≡ take m (reverse earlier) = ap (λ l. take m l) whole ∙ (take-append-le m (reverse (s ∷ earlier)) (reverse later) (omega (arith, l, size, len)) ∙ (ap (λ l. take m l) (reverse_cons s earlier) ∙ take-append-le m (reverse earlier) (s ∷ []) (omega (arith, l, size, len2)))) in
      subst Free (sym shorter) (first_parts_free (reverse earlier) (free_from earlier f.3.none_before) m) in
      let same : k ≡ at (reverse e) = elim (cases_order k (at (reverse e))) [
        | inl q ↦ q
        | inr (inl l) ↦ absurd (bad_k (short.shorter_free k l))
        | inr (inr l) ↦ absurd (short.not_free (good (at (reverse e)) l))
      ] in
      ap (λ x. Some x) same ∙ sym (bad_at (reverse e) bad)

-- one step more, seen from the end
pub newest_next : (t piece : List Step) (k : ℕ) (d : Step) → k < length piece → reverse (t ++ take (k + 1) piece) ≡ get_or piece k d ∷ reverse (t ++ take k piece)
newest_next t piece k d h = ap (λ l. reverse (t ++ l)) (take_next piece k d h) ∙ (ap (λ l. reverse l) (sym (append_assoc t (take k piece) (get_or piece k d ∷ []))) ∙ reverse-append (t ++ take k piece) (get_or piece k d ∷ []))
