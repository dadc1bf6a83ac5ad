-- What a change of one account does to the shares and lists of all.
use Rattle.std.proofs.Common.{◌≡◌, ◌≢◌, ℕ, zero, suc, ◌+◌, ◌≤◌, List, [], ◌∷◌, ◌++◌, set, refl, ap, sym, ◌∙◌, subst, ⊎_elim, arith, append_assoc}
use Rattle.std.specs.Prelude.{All, IsPermutation}
use Rattle.std.proofs.lemmas.List.Elements.{All-nil, All-cons, All-head, All-tail}
use Rattle.std.proofs.lemmas.List.Sorted.{IsPermutation-append_right, IsPermutation-append_comm}
use mathlib.Core.Option.{some, some-injective, some-ne-none}
use lib.ListN.{get_elem?}
use Rattle.atomic_table.proofs.Lists.{at_set}
use Rattle.ecf_handoff.specs.declared.account.Account.{Account}
use Rattle.ecf_handoff.specs.Balance.{total_share, every}

-- nothing behind a list
pub append_nil : {A : Type 0} (xs : List A) → xs ++ [] ≡ xs
append_nil [] = refl
append_nil (x ∷ xs) = ap (λ ys. x ∷ ys) (append_nil xs)

-- two lists behind a first one change places
swapped : {A : Type 0} (xs ys zs : List A) → IsPermutation ((xs ++ ys) ++ zs) ((xs ++ zs) ++ ys)
swapped xs ys zs = subst (λ l. IsPermutation l ((xs ++ zs) ++ ys)) (sym (append_assoc xs ys zs)) (subst (IsPermutation (xs ++ (ys ++ zs))) (sym (append_assoc xs zs ys)) (IsPermutation-append_right xs (ys ++ zs) (zs ++ ys) (IsPermutation-append_comm ys zs)))

-- what holds of each of two lists holds of each of the first, and of the second
pub All-left : {X : Type 0} (P : X → Type 0) (xs ys : List X) → All P (xs ++ ys) → All P xs
All-left P [] ys all = All-nil P
All-left P (x ∷ xs) ys all = All-cons P x xs (All-head P x (xs ++ ys) all) (All-left P xs ys (All-tail P x (xs ++ ys) all))

pub All-right : {X : Type 0} (P : X → Type 0) (xs ys : List X) → All P (xs ++ ys) → All P ys
All-right P [] ys all = all
All-right P (x ∷ xs) ys all = All-right P xs ys (All-tail P x (xs ++ ys) all)

module _ {V : Type 0} where
  -- what holds of the account that is new, and of all others, holds of all
  pub each_set : (F : ℕ → V → Type 0) (vs : List V) (me : ℕ) (w : V) → F me w → ((j : ℕ) (u : V) → j ≢ me → get_elem? vs j ≡ some u → F j u) → (j : ℕ) (u : V) → get_elem? (set vs me w) j ≡ some u → F j u
  each_set F vs me w mine others j u e = ⊎_elim (λ (x : (j ≡ me) × (w ≡ u)). subst (λ (y : ℕ × V). F y.0 y.1) (λ i. (sym x.0 i, x.1 i)) mine)
      (λ (x : (j ≢ me) × (get_elem? vs j ≡ some u)). others j u x.0 x.1) (at_set vs me j w u e)

  -- two accounts are set in either order
  pub set_comm : (vs : List V) (i j : ℕ) (a b : V) → i ≢ j → set (set vs i a) j b ≡ set (set vs j b) i a
  set_comm [] i j a b ne = refl
  set_comm (v ∷ vs) zero zero a b ne = absurd (ne refl)
  set_comm (v ∷ vs) zero (suc j) a b ne = refl
  set_comm (v ∷ vs) (suc i) zero a b ne = refl
  set_comm (v ∷ vs) (suc i) (suc j) a b ne = ap (λ l. v ∷ l) (set_comm vs i j a b (λ e. ne (ap suc e)))

module _ {T : Type 0} where
  -- the shares together, with one account set
  pub total_share-set : (vs : List (Account T)) (j : ℕ) (v w : Account T) → get_elem? vs j ≡ some v → total_share (set vs j w) + v.share ≡ total_share vs + w.share
  total_share-set [] j v w at = absurd (some-ne-none v (sym at))
  total_share-set (u ∷ vs) zero v w at = let e : u.share ≡ v.share = ap (λ (x : Account T). x.share) (some-injective u v at) in omega arith
  total_share-set (u ∷ vs) (suc j) v w at = let r = total_share-set vs j v w at in omega arith

  -- the shares together, with one account more
  pub total_share-snoc : (vs : List (Account T)) (w : Account T) → total_share (vs ++ w ∷ []) ≡ total_share vs + w.share
  total_share-snoc [] w = omega arith
  total_share-snoc (v ∷ vs) w = let r = total_share-snoc vs w in omega arith

  module _ {X : Type 0} (f : Account T → List X) where
    -- an account with nothing more
    pub every-snoc : (vs : List (Account T)) (w : Account T) → f w ≡ [] → every f (vs ++ w ∷ []) ≡ every f vs
    every-snoc [] w e = ap (λ l. l ++ []) e
    every-snoc (v ∷ vs) w e = ap (λ l. f v ++ l) (every-snoc vs w e)

    -- an account that has what it had
    pub every-set_same : (vs : List (Account T)) (j : ℕ) (v w : Account T) → get_elem? vs j ≡ some v → f w ≡ f v → every f (set vs j w) ≡ every f vs
    every-set_same [] j v w at e = refl
    every-set_same (u ∷ vs) zero v w at e = ap (λ l. l ++ every f vs) (e ∙ ap f (sym (some-injective u v at)))
    every-set_same (u ∷ vs) (suc j) v w at e = ap (λ l. f u ++ l) (every-set_same vs j v w at e)

    -- an account that has some more at its end
    pub every-set_more : (vs : List (Account T)) (j : ℕ) (v w : Account T) (xs : List X) → get_elem? vs j ≡ some v → f w ≡ f v ++ xs → IsPermutation (every f (set vs j w)) (every f vs ++ xs)
    every-set_more [] j v w xs at e = absurd (some-ne-none v (sym at))
    every-set_more (u ∷ vs) zero v w xs at e =
        let is : f w ≡ f u ++ xs = e ∙ ap (λ x. f x ++ xs) (sym (some-injective u v at)) in
        subst (λ l. IsPermutation (l ++ every f vs) ((f u ++ every f vs) ++ xs)) (sym is) (swapped (f u) xs (every f vs))
    every-set_more (u ∷ vs) (suc j) v w xs at e =
        subst (IsPermutation (f u ++ every f (set vs j w))) (sym (append_assoc (f u) (every f vs) xs)) (IsPermutation-append_right (f u) (every f (set vs j w)) (every f vs ++ xs) (every-set_more vs j v w xs at e))

    -- an account that has nothing left
    pub every-set_none : (vs : List (Account T)) (j : ℕ) (v w : Account T) → get_elem? vs j ≡ some v → f w ≡ [] → IsPermutation (every f vs) (every f (set vs j w) ++ f v)
    every-set_none [] j v w at e = absurd (some-ne-none v (sym at))
    every-set_none (u ∷ vs) zero v w at e =
        subst (λ (z : List X × List X). IsPermutation (z.0 ++ every f vs) ((z.1 ++ every f vs) ++ f v)) (λ i. (ap f (sym (some-injective u v at)) i, sym e i)) (IsPermutation-append_comm (f v) (every f vs))
    every-set_none (u ∷ vs) (suc j) v w at e =
        subst (IsPermutation (f u ++ every f vs)) (sym (append_assoc (f u) (every f (set vs j w)) (f v))) (IsPermutation-append_right (f u) (every f vs) (every f (set vs j w) ++ f v) (every-set_none vs j v w at e))

    -- what holds of each element of all holds of each of one
    pub every-one : (P : X → Type 0) (vs : List (Account T)) (j : ℕ) (v : Account T) → get_elem? vs j ≡ some v → All P (every f vs) → All P (f v)
    every-one P [] j v at all = absurd (some-ne-none v (sym at))
    every-one P (u ∷ vs) zero v at all = subst (λ (y : Account T). All P (f y)) (some-injective u v at) (All-left P (f u) (every f vs) all)
    every-one P (u ∷ vs) (suc j) v at all = every-one P vs j v at (All-right P (f u) (every f vs) all)

    -- where all others have nothing, one has all
    pub every-alone : (vs : List (Account T)) (j : ℕ) (v : Account T) → get_elem? vs j ≡ some v → ((i : ℕ) (u : Account T) → i ≢ j → get_elem? vs i ≡ some u → f u ≡ []) → every f vs ≡ f v
    every-alone [] j v at none = absurd (some-ne-none v (sym at))
    every-alone (u ∷ vs) zero v at none = ap (λ l. f u ++ l) (every_none vs (λ i x at'. none (suc i) x (λ e. omega arith) at')) ∙ (append_nil (f u) ∙ ap f (some-injective u v at))
      where
        every_none : (vs : List (Account T)) → ((i : ℕ) (x : Account T) → get_elem? vs i ≡ some x → f x ≡ []) → every f vs ≡ []
        every_none [] h = refl
        every_none (x ∷ xs) h = ap (λ l. l ++ every f xs) (h zero x refl) ∙ every_none xs (λ i y at. h (suc i) y at)
    every-alone (u ∷ vs) (suc j) v at none = ap (λ l. l ++ every f vs) (none zero u (λ e. omega arith) refl) ∙ every-alone vs j v at (λ i x ne at'. none (suc i) x (λ e. ne (omega arith)) at')

  -- no share is above the whole
  pub share_below : (vs : List (Account T)) (j : ℕ) (v : Account T) → get_elem? vs j ≡ some v → v.share ≤ total_share vs
  share_below [] j v at = absurd (some-ne-none v (sym at))
  share_below (x ∷ vs) zero v at = let s : x.share ≡ v.share = ap (λ (y : Account T). y.share) (some-injective x v at) in omega arith
  share_below (x ∷ vs) (suc j) v at = let le = share_below vs j v at in omega arith

  -- where one has the whole share, the others have none
  pub others_none : (vs : List (Account T)) (j : ℕ) (v : Account T) → get_elem? vs j ≡ some v → total_share vs ≡ v.share → (i : ℕ) (u : Account T) → i ≢ j → get_elem? vs i ≡ some u → u.share ≡ 0
  others_none [] j v at e i u ne at' = absurd (some-ne-none v (sym at))
  others_none (x ∷ vs) zero v at e zero u ne at' = absurd (ne refl)
  others_none (x ∷ vs) zero v at e (suc i) u ne at' = let s : x.share ≡ v.share = ap (λ (y : Account T). y.share) (some-injective x v at) in let le = share_below vs i u at' in omega arith
  others_none (x ∷ vs) (suc j) v at e zero u ne at' = let s : x.share ≡ u.share = ap (λ (y : Account T). y.share) (some-injective x u at') in let le = share_below vs j v at in omega arith
  others_none (x ∷ vs) (suc j) v at e (suc i) u ne at' = let le = share_below vs j v at in others_none vs j v at (omega arith) i u (λ z. ne (ap suc z)) at'
