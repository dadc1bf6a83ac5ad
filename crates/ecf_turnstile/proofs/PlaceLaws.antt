-- The entries of a seat's own calls stand at their places, and no two at one place.
use Rattle.std.proofs.Common.{◌≡◌, ◌≢◌, ℕ, zero, suc, ◌<◌, ◌≤◌, List, [], ◌∷◌, ◌++◌, length, Option, Some, slice_get, refl, ap, sym, ◌∙◌, subst, inl, inr, arith, length-append}
use Rattle.std.proofs.lemmas.List.Elements.{All-weaker, All-push, All-nil, All-cons}
use mathlib.Core.List.{IsPrefix}
use Rattle.ecf_turnstile.specs.Histories.{AreApart, AddsOwn, GrowsByAtMostOne, StandIn}
use Rattle.ecf_turnstile.proofs.ListLaws.{apart_both}

module _ {E : Type 0} where
  -- only places below the length have an entry
  pub get_below : (xs : List E) (k : ℕ) (x : E) → slice_get xs k ≡ Some x → k < length xs
  get_below [] k x h = absurd cc
  get_below (y ∷ xs) zero x h = omega arith
  get_below (y ∷ xs) (suc k) x h = let l = get_below xs k x h in omega arith

  -- an entry of a first part stands there in the whole
  pub prefix_get : (xs ys : List E) (k : ℕ) (x : E) → IsPrefix xs ys → slice_get xs k ≡ Some x → slice_get ys k ≡ Some x
  prefix_get [] ys k x p h = absurd cc
  prefix_get (y ∷ xs) [] k x p h = absurd (cc (p.1))
  prefix_get (y ∷ xs) (z ∷ ys) zero x p h = cc (p.1, h)
  prefix_get (y ∷ xs) (z ∷ ys) (suc k) x p h = prefix_get xs ys k x (p.0, cc (p.1)) h

  -- the last entry stands at the length of what is before it
  pub get_last : (xs : List E) (x : E) → slice_get (xs ++ x ∷ []) (length xs) ≡ Some x
  get_last [] x = refl
  get_last (y ∷ xs) x = get_last xs x

  -- own entries stand in each longer history
  pub stand_longer : (xs ys : List E) (mine : List (ℕ × E)) → IsPrefix xs ys → StandIn xs mine → StandIn ys mine
  stand_longer xs ys mine p h = All-weaker (λ (q : ℕ × E). slice_get xs q.0 ≡ Some q.1) (λ (q : ℕ × E). slice_get ys q.0 ≡ Some q.1) (λ q e. prefix_get xs ys q.0 q.1 p e) mine h

  -- they still do with the one that was added
  pub stand_adds : (before : List E) (mine : List (ℕ × E)) (after : List E) (mine' : List (ℕ × E)) → StandIn before mine → AddsOwn before mine after mine' → StandIn after mine'
  stand_adds before mine after mine' h (inl same) = subst (λ (z : List E × List (ℕ × E)). StandIn z.0 z.1) (λ i. (sym same.0 i, sym same.1 i)) h
  stand_adds before mine after mine' h (inr one) = subst (λ (z : List E × List (ℕ × E)). StandIn z.0 z.1) (λ i. (sym one.1 i, sym one.2 i))
      (All-push (λ (q : ℕ × E). slice_get (before ++ one.0 ∷ []) q.0 ≡ Some q.1) mine (length before, one.0) (stand_longer before (before ++ one.0 ∷ []) mine (one.0 ∷ [], refl) h) (get_last before one.0))

  -- and they are still apart
  pub apart_adds : (before : List E) (mine : List (ℕ × E)) (after : List E) (mine' : List (ℕ × E)) → StandIn before mine → AreApart mine → AddsOwn before mine after mine' → AreApart mine'
  apart_adds before mine after mine' h a (inl same) = subst AreApart (sym same.1) a
  apart_adds before mine after mine' h a (inr one) = subst AreApart (sym one.2)
      (apart_both (λ n. n < length before) (λ n. n ≡ length before) (λ n m p q z. omega arith) mine ((length before, one.0) ∷ [])
      (All-weaker (λ (q : ℕ × E). slice_get before q.0 ≡ Some q.1) (λ (q : ℕ × E). q.0 < length before) (λ q e. get_below before q.0 q.1 e) mine h)
      (All-cons (λ (q : ℕ × E). q.0 ≡ length before) (length before, one.0) [] refl (All-nil (λ (q : ℕ × E). q.0 ≡ length before)))
      a (All-nil (λ (q : ℕ × E). length before ≢ q.0), tt))

  -- a history that grows is no shorter
  pub grows_length : (before after : List E) → GrowsByAtMostOne before after → length before ≤ length after
  grows_length before after (inl same) = omega (arith, ap length same)
  grows_length before after (inr one) = omega (arith, ap length one.1 ∙ length-append before (one.0 ∷ []))

-- a slot has one value
pub same_slot : {B : Type 0} (l : List (ℕ × Option B)) (x y : B) → l ≡ (0, Some x) ∷ [] → l ≡ (0, Some y) ∷ [] → x ≡ y
same_slot {B} l x y p q =
    let a : ℕ × Option B = (0, Some x) in
    let b : ℕ × Option B = (0, Some y) in
    let lists : a ∷ [] ≡ b ∷ [] = sym p ∙ q in
    let pairs : a ≡ b = cc lists in
    let somes : Some x ≡ Some y = ap (λ z. z.1) pairs in
    cc somes
