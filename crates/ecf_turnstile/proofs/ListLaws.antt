-- First parts of one list, entries at places that differ, and what holds of all views but one.
use Rattle.std.proofs.Common.{◌≡◌, ◌≢◌, ℕ, ◌<◌, ◌≤◌, List, [], ◌∷◌, ◌++◌, length, set, Bool, true, false, ltb, eqb, refl, ap, sym, ◌∙◌, subst, ⊎_elim, arith, append_assoc, length-append, eq-eqb, ne_eqb}
use Rattle.std.specs.Prelude.{All, if◌then◌else◌}
use Rattle.std.proofs.lemmas.List.Elements.{All-weaker, All-append, All-head, All-tail}
use borrow.Author.Tests.{ltb-true, ltb-false}
use mathlib.Core.Option.{some}
use mathlib.Core.List.{IsPrefix}
use prog.Atomic.{either}
use lib.ListN.{get_elem?}
use Rattle.atomic_table.proofs.Lists.{at_set}
use Rattle.ecf_turnstile.specs.Histories.{AreApart, longer_of}

module _ {A : Type 0} where
  -- nothing behind a list
  pub append_nil : (xs : List A) → xs ++ [] ≡ xs
  append_nil [] = refl
  append_nil (x ∷ xs) = ap (λ ys. x ∷ ys) (append_nil xs)

  -- each list begins with none
  pub prefix_none : (xs : List A) → IsPrefix [] xs
  prefix_none xs = (xs, refl)

  -- each list begins with itself
  pub prefix_self : (xs : List A) → IsPrefix xs xs
  prefix_self xs = ([], append_nil xs)

  -- what a list begins with, it begins with when it is longer
  pub prefix_more : (xs ys zs : List A) → IsPrefix xs ys → IsPrefix xs (ys ++ zs)
  prefix_more xs ys zs p = (p.0 ++ zs, sym (append_assoc xs p.0 zs) ∙ ap (λ w. w ++ zs) p.1)

  -- a first part of a first part
  pub prefix_trans : (xs ys zs : List A) → IsPrefix xs ys → IsPrefix ys zs → IsPrefix xs zs
  prefix_trans xs ys zs p q = (p.0 ++ q.0, sym (append_assoc xs p.0 q.0) ∙ (ap (λ w. w ++ q.0) p.1 ∙ q.1))

  -- of two first parts of one list the longer begins with the shorter
  pub prefix_shorter : (xs ys zs : List A) → IsPrefix xs zs → IsPrefix ys zs → length xs ≤ length ys → IsPrefix xs ys
  prefix_shorter [] ys zs p q le = (ys, refl)
  prefix_shorter (x ∷ xs) [] zs p q le = absurd (omega arith)
  prefix_shorter (x ∷ xs) (y ∷ ys) [] p q le = absurd (cc (p.1))
  prefix_shorter (x ∷ xs) (y ∷ ys) (z ∷ zs) p q le =
      let heads : x ≡ y = cc (p.1, q.1) in
      let rest = prefix_shorter xs ys zs (p.0, cc (p.1)) (q.0, cc (q.1)) (omega arith) in
      (rest.0, cc (heads, rest.1))

  -- a first part is no longer than the list
  pub prefix_length : (xs ys : List A) → IsPrefix xs ys → length xs ≤ length ys
  prefix_length xs ys p = omega (arith, sym (ap length p.1) ∙ length-append xs p.0)

  -- what holds of each of two lists where it is the longer, holds of the longer
  longer_cases : (F : List A → Type 0) (xs ys : List A) → (length xs < length ys → F ys) → (length ys ≤ length xs → F xs) → F (longer_of xs ys)
  longer_cases F xs ys a b = go (ltb (length xs) (length ys)) refl
    where
      go : (t : Bool) → ltb (length xs) (length ys) ≡ t → F (if t then ys else xs)
      go true e = a (ltb-true _ _ e)
      go false e = b (ltb-false _ _ e)

  -- the longer of two first parts is one too, and begins with both
  pub longer_fits : (xs ys zs : List A) → IsPrefix xs zs → IsPrefix ys zs → IsPrefix (longer_of xs ys) zs × IsPrefix xs (longer_of xs ys) × IsPrefix ys (longer_of xs ys)
  longer_fits xs ys zs p q = longer_cases (λ l. IsPrefix l zs × IsPrefix xs l × IsPrefix ys l) xs ys (λ h. (q, prefix_shorter xs ys zs p q (omega arith), prefix_self ys)) (λ h. (p, prefix_self xs, prefix_shorter ys xs zs q p h))

module _ {E : Type 0} where
  -- two lists of entries are apart together, where what tells the places of one excludes those of the other
  pub apart_both : (P Q : ℕ → Type 0) → ((n m : ℕ) → P n → Q m → n ≢ m) → (xs ys : List (ℕ × E)) → All (λ p. P p.0) xs → All (λ p. Q p.0) ys → AreApart xs → AreApart ys → AreApart (xs ++ ys)
  apart_both P Q ne [] ys p q a b = b
  apart_both P Q ne (x ∷ xs) ys p q a b = (
    All-append (λ (z : ℕ × E). x.0 ≢ z.0) xs ys a.0 (All-weaker (λ (z : ℕ × E). Q z.0) (λ (z : ℕ × E). x.0 ≢ z.0) (λ z h. ne x.0 z.0 (All-head (λ (y : ℕ × E). P y.0) x xs p) h) ys q),
    apart_both P Q ne xs ys (All-tail (λ (y : ℕ × E). P y.0) x xs p) q a.1 b,
  )

module _ {V : Type 0} where
  -- what holds of the view that is new, and of all others, holds of all
  pub each_set : (F : ℕ → V → Type 0) (vs : List V) (me : ℕ) (w : V) → F me w → ((j : ℕ) (u : V) → j ≢ me → get_elem? vs j ≡ some u → F j u) → (j : ℕ) (u : V) → get_elem? (set vs me w) j ≡ some u → F j u
  each_set F vs me w mine others j u e = ⊎_elim (λ (x : (j ≡ me) × (w ≡ u)). subst (λ (y : ℕ × V). F y.0 y.1) (λ i. (sym x.0 i, x.1 i)) mine)
      (λ (x : (j ≢ me) × (get_elem? vs j ≡ some u)). others j u x.0 x.1) (at_set vs me j w u e)

-- a word that was compared with what it is
pub either_here : (n old x y : ℕ) → n ≡ old → either (eqb n old) x y ≡ x
either_here n old x y e = ap (λ b. either b x y) (eq-eqb n old e)

-- a word that was compared with another number
pub either_else : (n old x y : ℕ) → n ≢ old → either (eqb n old) x y ≡ y
either_else n old x y e = ap (λ b. either b x y) (ne_eqb n old e)
