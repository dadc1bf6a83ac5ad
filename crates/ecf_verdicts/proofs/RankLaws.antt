-- The place of a number in a list, as a rank.
use Rattle.std.proofs.Common.{◌≡◌, ℕ, suc, cond, eqb, List, [], ◌∷◌, inl, inr, refl, sym, ◌∙◌, arith}
use Rattle.std.proofs.lemmas.Bool.{eq-eqb, ne_eqb, cases_eq}
use Rattle.ecf_verdicts.specs.ListLemmas.{In}

-- the place of the first i
pub rank : List ℕ → ℕ → ℕ
rank [] i = 0
rank (j ∷ js) i = cond (eqb i j) 0 (suc (rank js i))

pub rank_here : (i j : ℕ) (js : List ℕ) → i ≡ j → rank (j ∷ js) i ≡ 0
unfolding rank
rank_here i j js e = rw (eq-eqb i j e) refl

pub rank_there : (i j : ℕ) (js : List ℕ) → (i ≡ j → ⊥) → rank (j ∷ js) i ≡ suc (rank js i)
unfolding rank
rank_there i j js n = rw (ne_eqb i j n) refl

-- two numbers of the list with one rank are one
pub rank_injective : (xs : List ℕ) (i j : ℕ) → In i xs → In j xs → rank xs i ≡ rank xs j → i ≡ j
rank_injective [] i j h k e = absurd h
rank_injective (x ∷ xs) i j h k e = elim (cases_eq i x) [
  | inl a ↦ elim (cases_eq j x) [
    | inl b ↦ a ∙ sym b
    | inr b ↦ absurd (omega (arith, e, rank_here i x xs a, rank_there j x xs b))
  ]
  | inr a ↦ elim (cases_eq j x) [
    | inl b ↦ absurd (omega (arith, e, rank_here j x xs b, rank_there i x xs a))
    | inr b ↦ elim h [
      | inl c ↦ absurd (a c)
      | inr c ↦ elim k [
        | inl d ↦ absurd (b d)
        | inr d ↦ rank_injective xs i j c d (omega (arith, e, rank_there i x xs a, rank_there j x xs b))
      ]
    ]
  ]
]
