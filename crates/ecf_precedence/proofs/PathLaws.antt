-- Paths, one pair more, and freedom as the lack of cycles.
use Rattle.std.proofs.Common.{◌≡◌, ℕ, suc, zero, ◌+◌, ◌-◌, ◌<◌, ◌≤◌, Bool, true, List, length, get_or, ◌⊎◌, inl, inr, sym, subst, arith}
use Rattle.std.proofs.lemmas.Bool.{cases_Bool}
use Rattle.ecf_lang.specs.declared.run.Step.{Step}
use Rattle.ecf_verdicts.specs.Before.{before}
use Rattle.ecf_verdicts.specs.Cycles.{cycle, is_placed}
use Rattle.ecf_verdicts.specs.Laws.{CycleNamed, FreeExactlyWhereOrdered, IsCycle, TestTellsFree}
use Rattle.ecf_graph.specs.PathLemmas.{chain, wider, pair_old, pair_new, pair_cases}
use Rattle.ecf_graph.specs.Paths.{Reaches, one, more, with_pair}
use Rattle.ecf_precedence.specs.Laws.{FreeExactlyWhereAcyclic, OnePairMore}

-- a rank that rises along each pair rises along each path
pub rises : {r : ℕ → ℕ → Bool} {i j : ℕ} (rank : ℕ → ℕ) → ((a b : ℕ) → r a b ≡ true → rank a < rank b) → Reaches r i j → rank i < rank j
rises rank f (one e) = f _ _ e
rises rank f (more e a) = let x = f _ _ e in let y = rises rank f a in omega (arith, x, y)

-- from the first of a cycle to each of it
to_each : (t : List Step) (c : List ℕ) → IsCycle t c → (k : ℕ) → suc k < length c → Reaches (before t) (get_or c 0 0) (get_or c (suc k) 0)
to_each t c y zero l = one (y.each_before 0 (omega (arith, l)))
to_each t c y (suc k) l =
    let e : before t (get_or c (suc k) 0) (get_or c (suc k + 1) 0) ≡ true = y.each_before (suc k) (omega (arith, l)) in
    let same : suc k + 1 ≡ suc (suc k) = omega arith in
    chain (to_each t c y k (omega (arith, l))) (one (subst (λ x. before t (get_or c (suc k) 0) (get_or c x 0) ≡ true) same e))

pub cycle_reaches : (t : List Step) (c : List ℕ) → IsCycle t c → Reaches (before t) (get_or c 0 0) (get_or c 0 0)
cycle_reaches t c y =
    let s : 2 ≤ length c = y.several in
    let same : suc (length c - 2) ≡ length c - 1 = omega (arith, s) in
    let far : Reaches (before t) (get_or c 0 0) (get_or c (length c - 1) 0) = subst (λ x. Reaches (before t) (get_or c 0 0) (get_or c x 0)) same (to_each t c y (length c - 2) (omega (arith, s))) in
    chain far (one y.last_before)

pub free_exactly_where_acyclic : FreeExactlyWhereOrdered → TestTellsFree → CycleNamed → FreeExactlyWhereAcyclic
free_exactly_where_acyclic ordered tells named t = (
  λ f i p. (let o = (ordered t).0 f in let l = rises o.0 o.1 p in omega (arith, l)),
  λ a. elim (cases_Bool (is_placed t)) [
    | inl e ↦ (tells t).0.0 e
    | inr e ↦ absurd (a _ (cycle_reaches t (cycle t) (named t ((tells t).1.0 e))))
  ],
)

abbrev Split : (ℕ → ℕ → Bool) → ℕ → ℕ → ℕ → ℕ → Type 0
Split r i j a b = Reaches r a b ⊎ (((a ≡ i) ⊎ Reaches r a i) × ((b ≡ j) ⊎ Reaches r j b))

after_old : (r : ℕ → ℕ → Bool) (i j a b c : ℕ) → r a b ≡ true → Split r i j b c → Split r i j a c
after_old r i j a b c e (inl p) = inl (more e p)
after_old r i j a b c e (inr (inl same, q)) = inr (inr (one (subst (λ x. r a x ≡ true) same e)), q)
after_old r i j a b c e (inr (inr p, q)) = inr (inr (more e p), q)

after_new : (r : ℕ → ℕ → Bool) (i j a b c : ℕ) → a ≡ i → b ≡ j → Split r i j b c → Split r i j a c
after_new r i j a b c x y (inl p) = inr (inl x, inr (subst (λ z. Reaches r z c) y p))
after_new r i j a b c x y (inr (p, q)) = inr (inl x, q)

split : (r : ℕ → ℕ → Bool) (i j : ℕ) {a b : ℕ} → Reaches (with_pair r i j) a b → Split r i j a b
split r i j {a} {b} (one e) = elim (pair_cases r i j a b e) [ inl h ↦ inl (one h) | inr (x, y) ↦ inr (inl x, inl y) ]
split r i j {a} {b} (more {j = m} e p) = elim (pair_cases r i j a m e) [
  | inl h ↦ after_old r i j a m b h (split r i j p)
  | inr (x, y) ↦ after_new r i j a m b x y (split r i j p)
]

joined : (r : ℕ → ℕ → Bool) (i j a b : ℕ) → Split r i j a b → Reaches (with_pair r i j) a b
joined r i j a b (inl p) = wider (pair_old r i j) p
joined r i j a b (inr (p, q)) =
    let mid : Reaches (with_pair r i j) i b = elim q [
      | inl y ↦ subst (λ z. Reaches (with_pair r i j) i z) (sym y) (one (pair_new r i j))
      | inr k ↦ more (pair_new r i j) (wider (pair_old r i j) k)
    ] in
    elim p [
      | inl x ↦ subst (λ z. Reaches (with_pair r i j) z b) (sym x) mid
      | inr k ↦ chain (wider (pair_old r i j) k) mid
    ]

pub one_pair_more : OnePairMore
one_pair_more r i j a b = (λ p. split r i j p, joined r i j a b)
