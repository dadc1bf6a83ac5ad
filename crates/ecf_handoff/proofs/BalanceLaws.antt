-- Each step of a pass keeps the rule, and what a pass knows.
use Rattle.std.proofs.Common.{◌≡◌, ◌≢◌, ℕ, ◌+◌, ◌<◌, ◌≤◌, List, [], ◌∷◌, ◌++◌, length, set, refl, sym, ◌∙◌, ap, subst, ⊎_elim, arith, append_assoc, length-append}
use Rattle.std.specs.Prelude.{All, IsPermutation}
use Rattle.std.proofs.lemmas.List.Sorted.{IsPermutation-sym, IsPermutation-trans, IsPermutation-append_left, All-permutation}
use Rattle.std.proofs.lemmas.List.Elements.{All-push, All-head, All-tail}
use mathlib.Core.Option.{some}
use lib.ListN.{get_elem?}
use Rattle.crossbeam_queue.specs.Fifo.{Pushes, Pops, Forks, Merges, Learns}
use Rattle.atomic_table.proofs.Lists.{at_set, at_snoc, set_else}
use Rattle.ecf_handoff.specs.declared.account.Account.{Account}
use Rattle.ecf_handoff.specs.declared.limits.TheConstants.{WHOLE_SHARE}
use Rattle.ecf_handoff.specs.Accounts.{kept_account, given_account, united_account, spent_account, with_handed, with_taken, handed_of, taken_of}
use Rattle.ecf_handoff.specs.Content.{with_places, IsContent, HasHanded, HasTaken}
use Rattle.ecf_handoff.specs.Balance.{IsBalanced, Knows, every}
use Rattle.ecf_handoff.proofs.AccountLaws.{each_set, set_comm, total_share-set, total_share-snoc, every-snoc, every-set_same, every-set_more, every-set_none, every-one, every-alone, others_none}
use Rattle.ecf_handoff.proofs.ContentLaws.{enumerate-snoc, places_below}

module _ {T : Type 0} (fits : T → Type 0) where
  -- the place of each item that a pass handed in, or took, is below the number of all that were
  own_below : (f : Account T → List (ℕ × T)) (views : List (Account T)) (j : ℕ) (v : Account T) (log : List T) (k : ℕ) → get_elem? views j ≡ some v → IsPermutation (every f views) (with_places log) → length log ≤ k → All (λ e. e.0 < k) (f v)
  own_below f views j v log k at p le = every-one f (λ (e : ℕ × T). e.0 < k) views j v at
      (All-permutation (λ (e : ℕ × T). e.0 < k) (with_places log) (every f views) (IsPermutation-sym (every f views) (with_places log) p) (places_below 0 k log (omega arith)))

  -- one item more in a log, behind a list with the same entries
  one_more : (entries : List (ℕ × T)) (log : List T) (x : T) → IsPermutation entries (with_places log) → IsPermutation (entries ++ (length log, x) ∷ []) (with_places (log ++ x ∷ []))
  one_more entries log x p =
      let e : with_places (log ++ x ∷ []) ≡ with_places log ++ (length log, x) ∷ [] = let z : 0 + length log ≡ length log = omega arith in enumerate-snoc 0 log x ∙ ap (λ k. with_places log ++ (k, x) ∷ []) z in
      subst (IsPermutation (entries ++ (length log, x) ∷ [])) (sym e) (IsPermutation-append_left ((length log, x) ∷ []) entries (with_places log) p)

  -- who has the whole share knows what the queue holds
  alone_knows : (j : ℕ) (v : Account T) (items : List T) (views : List (Account T)) → IsBalanced fits items views → get_elem? views j ≡ some v → v.share ≡ WHOLE_SHARE → IsContent v items
  alone_knows j v items views b at full =
      let none = others_none views j v at (b.whole ∙ sym full) in
      let h : every handed_of views ≡ v.handed = every-alone handed_of views j v at (λ i u ne at'. (b.idle i u at' (none i u ne at')).0) in
      let t : every taken_of views ≡ v.taken = every-alone taken_of views j v at (λ i u ne at'. (b.idle i u at' (none i u ne at')).1) in
      record {
        gone = b.gone;
        handed = subst (λ l. IsPermutation l (with_places (b.gone ++ items))) h b.handed;
        taken = subst (λ l. IsPermutation l (with_places b.gone)) t b.taken;
      }

  -- an item more in the queue was handed in
  pub hand_keeps : (n j : ℕ) (v : Account T) (x : T) → 0 < v.share → fits x → Pushes (IsBalanced fits) n j v x (HasHanded v x)
  hand_keeps n j v x some_share ok items views room b at =
      let log : List T = b.gone ++ items in
      let place : ℕ = length log in
      let w : Account T = with_handed v place x in
      let moved = every-set_more handed_of views j v w ((place, x) ∷ []) at refl in
      let kept = every-set_same taken_of views j v w at refl in
      let more : IsPermutation (every handed_of views ++ (place, x) ∷ []) (with_places (b.gone ++ (items ++ x ∷ []))) =
      subst (λ l. IsPermutation (every handed_of views ++ (place, x) ∷ []) (with_places l)) (append_assoc b.gone items (x ∷ [])) (one_more (every handed_of views) log x b.handed) in (
        w,
        record {
          whole = let t = total_share-set views j v w at in let p = b.whole in omega arith;
          gone = b.gone;
          handed = IsPermutation-trans (every handed_of (set views j w)) (every handed_of views ++ (place, x) ∷ []) (with_places (b.gone ++ (items ++ x ∷ []))) moved more;
          taken = subst (λ l. IsPermutation l (with_places b.gone)) (sym kept) b.taken;
          idle = each_set (λ _ u. u.share ≡ 0 → (u.handed ≡ []) × (u.taken ≡ [])) views j w (λ z. absurd (omega arith)) (λ i u _ at'. b.idle i u at');
          fit = All-push fits items x b.fit ok;
        },
        record {
          place = place;
          behind_handed = own_below handed_of views j v log place at b.handed (omega arith);
          behind_taken = own_below taken_of views j v b.gone place at b.taken (omega (arith, length-append b.gone items));
          is = refl;
        },
      )

  -- an item less in the queue was taken
  pub take_keeps : (j : ℕ) (v : Account T) → 0 < v.share → Pops (IsBalanced fits) j v (λ x w. HasTaken v x w × fits x)
  take_keeps j v some_share x items views b at =
      let place : ℕ = length b.gone in
      let w : Account T = with_taken v place x in
      let moved = every-set_more taken_of views j v w ((place, x) ∷ []) at refl in
      let kept = every-set_same handed_of views j v w at refl in
      let same : b.gone ++ x ∷ items ≡ (b.gone ++ x ∷ []) ++ items = sym (append_assoc b.gone (x ∷ []) items) in (
        w,
        record {
          whole = let t = total_share-set views j v w at in let p = b.whole in omega arith;
          gone = b.gone ++ x ∷ [];
          handed = subst (λ (z : List (ℕ × T) × List T). IsPermutation z.0 (with_places z.1)) (λ i. (sym kept i, same i)) b.handed;
          taken = IsPermutation-trans (every taken_of (set views j w)) (every taken_of views ++ (place, x) ∷ []) (with_places (b.gone ++ x ∷ [])) moved (one_more (every taken_of views) b.gone x b.taken);
          idle = each_set (λ _ u. u.share ≡ 0 → (u.handed ≡ []) × (u.taken ≡ [])) views j w (λ z. absurd (omega arith)) (λ i u _ at'. b.idle i u at');
          fit = All-tail fits x items b.fit;
        },
        (
          record {
            place = place;
            behind_taken = own_below taken_of views j v b.gone place at b.taken (omega arith);
            front = λ full. (items, alone_knows j v (x ∷ items) views b at full);
            is = refl;
          },
          All-head fits x items b.fit,
        ),
      )

  -- a share is cut in two, and the lists stay with the first
  pub split_keeps : (j : ℕ) (v : Account T) → 2 ≤ v.share → Forks (IsBalanced fits) j v (kept_account v) (given_account v)
  split_keeps j v two items views b at =
      let l : Account T = kept_account v in
      let r : Account T = given_account v in
      let lists : (f : Account T → List (ℕ × T)) → f l ≡ f v → f r ≡ [] → every f (set views j l ++ r ∷ []) ≡ every f views = λ f e none. every-snoc f (set views j l) r none ∙ every-set_same f views j v l at e in
      record {
        whole = let a = total_share-snoc (set views j l) r in let c = total_share-set views j v l at in let p = b.whole in omega arith;
        gone = b.gone;
        handed = subst (λ z. IsPermutation z (with_places (b.gone ++ items))) (sym (lists handed_of refl refl)) b.handed;
        taken = subst (λ z. IsPermutation z (with_places b.gone)) (sym (lists taken_of refl refl)) b.taken;
        idle = λ i u at'. ⊎_elim (λ (z : get_elem? (set views j l) i ≡ some u). each_set (λ _ u. u.share ≡ 0 → (u.handed ≡ []) × (u.taken ≡ [])) views j l (λ y. absurd (omega arith)) (λ i' u' _ at''. b.idle i' u' at'') i u z)
            (λ (z : r ≡ u). subst (λ (y : Account T). y.share ≡ 0 → (y.handed ≡ []) × (y.taken ≡ [])) z (λ _. (refl, refl))) (at_snoc (set views j l) r u i at');
        fit = b.fit;
      }

  -- two shares and their lists are one
  pub join_keeps : (j : ℕ) (v : Account T) (other : ℕ) (u : Account T) → Merges (IsBalanced fits) j v other u (united_account v u) spent_account
  join_keeps j v other u items views b at two at' =
      let w : Account T = united_account v u in
      let was : get_elem? views other ≡ some u = ⊎_elim (λ (z : (other ≡ j) × (w ≡ u)). absurd (two z.0)) (λ (z : (other ≢ j) × (get_elem? views other ≡ some u)). z.1) (at_set views j other w u at') in
      let less : List (Account T) = set views other spent_account in
      let still : get_elem? less j ≡ some v = set_else views other j spent_account (λ e. two (sym e)) ∙ at in
      let last : List (Account T) = set (set views j w) other spent_account in
      let swap : last ≡ set less j w = set_comm views j other w spent_account (λ e. two (sym e)) in
      let lists : (f : Account T → List (ℕ × T)) → f w ≡ f v ++ f u → f spent_account ≡ [] → IsPermutation (every f last) (every f views) = λ f e none.
      subst (λ l. IsPermutation (every f l) (every f views)) (sym swap) (IsPermutation-trans (every f (set less j w)) (every f less ++ f u) (every f views) (every-set_more f less j v w (f u) still e)
      (IsPermutation-sym (every f views) (every f less ++ f u) (every-set_none f views other u spent_account was none))) in
      record {
        whole = let a = total_share-set views j v w at in let c = total_share-set (set views j w) other u spent_account at' in let p = b.whole in omega arith;
        gone = b.gone;
        handed = IsPermutation-trans (every handed_of last) (every handed_of views) (with_places (b.gone ++ items)) (lists handed_of refl refl) b.handed;
        taken = IsPermutation-trans (every taken_of last) (every taken_of views) (with_places b.gone) (lists taken_of refl refl) b.taken;
        idle = each_set (λ _ y. y.share ≡ 0 → (y.handed ≡ []) × (y.taken ≡ [])) (set views j w) other spent_account (λ _. (refl, refl))
            (λ i y _ at''. each_set (λ _ y. y.share ≡ 0 → (y.handed ≡ []) × (y.taken ≡ [])) views j w
            (λ z. let n : v.share ≡ 0 = omega arith in let m : u.share ≡ 0 = omega arith in let p = b.idle j v at n in let q = b.idle other u was m in
            ((λ k. p.0 k ++ q.0 k), λ k. p.1 k ++ q.1 k)) (λ i' y' _ at3. b.idle i' y' at3) i y at'');
        fit = b.fit;
      }

  -- what a pass knows of the items in the queue
  pub pass_knows : (j : ℕ) (v : Account T) → Learns (IsBalanced fits) j v (Knows fits v)
  pass_knows j v items views b at = (b.fit, alone_knows j v items views b at)
