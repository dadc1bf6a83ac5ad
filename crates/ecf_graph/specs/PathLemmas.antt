-- Paths put together, and taken over to another relation.
use Rattle.std.proofs.Common.{◌≡◌, ℕ, Bool, true, ◌⊎◌, inl, inr, refl}
use Rattle.std.proofs.lemmas.Bool.{or_cases, or_left, or_right, and_parts, and_from, eqb-true, eq-eqb}
use Rattle.ecf_graph.specs.Paths.{Reaches, one, more, with_pair}

pub chain : {r : ℕ → ℕ → Bool} {i j k : ℕ} → Reaches r i j → Reaches r j k → Reaches r i k
chain (one e) b = more e b
chain (more e a) b = more e (chain a b)

pub wider : {r q : ℕ → ℕ → Bool} {i j : ℕ} → ((a b : ℕ) → r a b ≡ true → q a b ≡ true) → Reaches r i j → Reaches q i j
wider f (one e) = one (f _ _ e)
wider f (more e a) = more (f _ _ e) (wider f a)

-- each pair of r has a path of q
pub along : {r q : ℕ → ℕ → Bool} {i j : ℕ} → ((a b : ℕ) → r a b ≡ true → Reaches q a b) → Reaches r i j → Reaches q i j
along f (one e) = f _ _ e
along f (more e a) = chain (f _ _ e) (along f a)

-- the relation with one pair more has the old pairs, that pair, and no other
pub pair_old : (r : ℕ → ℕ → Bool) (i j a b : ℕ) → r a b ≡ true → with_pair r i j a b ≡ true
unfolding with_pair
pair_old r i j a b e = or_left _ _ e

pub pair_new : (r : ℕ → ℕ → Bool) (i j : ℕ) → with_pair r i j i j ≡ true
unfolding with_pair
pair_new r i j = or_right _ _ (and_from _ _ (eq-eqb i i refl) (eq-eqb j j refl))

pub pair_cases : (r : ℕ → ℕ → Bool) (i j a b : ℕ) → with_pair r i j a b ≡ true → (r a b ≡ true) ⊎ ((a ≡ i) × (b ≡ j))
unfolding with_pair
pair_cases r i j a b e = elim (or_cases _ _ e) [
  | inl h ↦ inl h
  | inr h ↦ let p = and_parts _ _ h in inr (eqb-true a i p.0, eqb-true b j p.1)
]
