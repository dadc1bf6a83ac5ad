-- A free trace, by blocks in its named order.
use Rattle.std.proofs.Common.{◌≡◌, ℕ, suc, ◌≤◌, ◌≢◌, cond, not, eqb, ◌==◌, List, [], ◌∷◌, ◌++◌, filter, length, Some, inl, inr, refl, sym, ap, subst, ◌∙◌, arith}
use Rattle.std.proofs.lemmas.Bool.{both_ways, cases_eq, eq-eqb, ne_eqb, not-true}
use Rattle.ecf_lang.specs.declared.run.Step.{Step}
use Rattle.ecf_verdicts.specs.BeforeLemmas.{IsBefore_from}
use Rattle.ecf_verdicts.specs.Blocks.{block, blocks}
use Rattle.ecf_verdicts.specs.Laws.{FreeInBlocks, KeepsBefore}
use Rattle.ecf_verdicts.specs.ListLemmas.{Each, In, Pairs, Each_at, Each_from, Each_weaker, In_filter}
use Rattle.ecf_verdicts.specs.Placing.{placing_from, placing}
use Rattle.ecf_verdicts.specs.Traces.{members}
use Rattle.ecf_verdicts.proofs.FreeLaws.{placed_from_free, placed_or_rest, ranks_keep}
use Rattle.ecf_verdicts.proofs.MemberLaws.{In_members, IsBefore_members}
use Rattle.ecf_verdicts.proofs.PlacingLaws.{placed_distinct}
use Rattle.ecf_verdicts.proofs.RankLaws.{rank, rank_here, rank_there}
use Rattle.ecf_verdicts.proofs.SortingLaws.{Keeps_from, Sorted, sort}
use Rattle.ecf_verdicts.proofs.SwapLaws.{swaps_keep_invocations}

-- the steps of the other invocations
abbrev others : List Step → ℕ → List Step
others steps inv = filter (λ (s : Step). not (s.inv == inv)) steps

-- steps of which none is of an invocation
block_none : (steps : List Step) (inv : ℕ) → Each (λ (s : Step). s.inv ≡ inv → ⊥) steps → block steps inv ≡ []
block_none [] inv h = refl
block_none (s ∷ steps) inv h = ap (λ b. cond b (s ∷ block steps inv) (block steps inv)) (ne_eqb s.inv inv h.0) ∙ block_none steps inv h.1

others_all : (steps : List Step) (inv : ℕ) → Each (λ (s : Step). s.inv ≡ inv → ⊥) steps → others steps inv ≡ steps
others_all [] inv h = refl
others_all (s ∷ steps) inv h = ap (λ b. cond (not b) (s ∷ others steps inv) (others steps inv)) (ne_eqb s.inv inv h.0) ∙ ap (λ l. s ∷ l) (others_all steps inv h.1)

block_cons : (s : Step) (steps : List Step) (inv : ℕ) → s.inv ≡ inv → block (s ∷ steps) inv ≡ s ∷ block steps inv
block_cons s steps inv e = ap (λ b. cond b (s ∷ block steps inv) (block steps inv)) (eq-eqb s.inv inv e)

block_skip : (s : Step) (steps : List Step) (inv : ℕ) → (s.inv ≡ inv → ⊥) → block (s ∷ steps) inv ≡ block steps inv
block_skip s steps inv n = ap (λ b. cond b (s ∷ block steps inv) (block steps inv)) (ne_eqb s.inv inv n)

others_cons : (s : Step) (steps : List Step) (inv : ℕ) → (s.inv ≡ inv → ⊥) → others (s ∷ steps) inv ≡ s ∷ others steps inv
others_cons s steps inv n = ap (λ b. cond (not b) (s ∷ others steps inv) (others steps inv)) (ne_eqb s.inv inv n)

others_skip : (s : Step) (steps : List Step) (inv : ℕ) → s.inv ≡ inv → others (s ∷ steps) inv ≡ others steps inv
others_skip s steps inv e = ap (λ b. cond (not b) (s ∷ others steps inv) (others steps inv)) (eq-eqb s.inv inv e)

-- sorted steps begin with those of the first of the order
first_block : (j : ℕ) (js : List ℕ) (u : List Step) → Sorted (rank (j ∷ js)) u → u ≡ block u j ++ others u j
first_block j js [] h = refl
first_block j js (s ∷ u) h = elim (cases_eq s.inv j) [
  | inl same ↦ ap (λ l. s ∷ l) (first_block j js u h.1) ∙ (λ i. sym (block_cons s u j same) i ++ sym (others_skip s u j same) i)
  | inr apart ↦
      let low : rank (j ∷ js) s.inv ≡ suc (rank js s.inv) = rank_there s.inv j js apart in
      let none : Each (λ (x : Step). x.inv ≡ j → ⊥) (s ∷ u) = (apart, Each_weaker (λ (x : Step). rank (j ∷ js) s.inv ≤ rank (j ∷ js) x.inv) (λ (x : Step). x.inv ≡ j → ⊥) u (λ x below same. omega (arith, below, low, rank_here x.inv j js same)) h.0) in
      (λ i. sym (block_none (s ∷ u) j none) i ++ sym (others_all (s ∷ u) j none) i)
]

sorted_others : (j : ℕ) (js : List ℕ) (u : List Step) → Sorted (rank (j ∷ js)) u → Sorted (rank js) (others u j)
sorted_others j js [] h = tt
sorted_others j js (s ∷ u) h = elim (cases_eq s.inv j) [
  | inl same ↦ subst (Sorted (rank js)) (sym (others_skip s u j same)) (sorted_others j js u h.1)
  | inr apart ↦ subst (Sorted (rank js)) (sym (others_cons s u j apart)) (
    Each_from (λ (x : Step). rank js s.inv ≤ rank js x.inv) (others u j) (λ x i.
        let r = In_filter (λ (y : Step). not (y.inv == j)) u x i in
        let other : (x.inv ≡ j → ⊥) = λ e. both_ways (eqb x.inv j) (not-true _ r.1) (eq-eqb x.inv j e) in
        omega (arith, Each_at (λ (y : Step). rank (j ∷ js) s.inv ≤ rank (j ∷ js) y.inv) u x h.0 r.0, rank_there s.inv j js apart, rank_there x.inv j js other)),
    sorted_others j js u h.1,
  )
]

block_others : (u : List Step) (j k : ℕ) → (k ≡ j → ⊥) → block (others u j) k ≡ block u k
block_others [] j k n = refl
block_others (s ∷ u) j k n = elim (cases_eq s.inv j) [
  | inl same ↦ ap (λ l. block l k) (others_skip s u j same) ∙ block_others u j k n ∙ sym (block_skip s u k (λ e. n (sym e ∙ same)))
  | inr apart ↦ ap (λ l. block l k) (others_cons s u j apart) ∙ ap (λ l. cond (s.inv == k) (s ∷ l) l) (block_others u j k n)
]

blocks_others : (u : List Step) (j : ℕ) (js : List ℕ) → Each (λ k. j ≢ k) js → blocks (others u j) js ≡ blocks u js
blocks_others u j [] h = refl
blocks_others u j (k ∷ js) h = (λ i. block_others u j k (λ e. h.0 (sym e)) i ++ blocks_others u j js h.1 i)

-- sorted steps are the blocks in their order
sorted_blocks : (order : List ℕ) (u : List Step) → Pairs (λ i j. i ≢ j) order → Sorted (rank order) u → Each (λ (x : Step). In x.inv order) u → u ≡ blocks u order
sorted_blocks [] [] distinct sorted among = refl
sorted_blocks [] (s ∷ u) distinct sorted among = absurd among.0
sorted_blocks (j ∷ js) u distinct sorted among =
    let later : Each (λ (x : Step). In x.inv js) (others u j) = Each_from (λ (x : Step). In x.inv js) (others u j) (λ x i.
    let r = In_filter (λ (y : Step). not (y.inv == j)) u x i in
    let here : In x.inv (j ∷ js) = Each_at (λ (y : Step). In y.inv (j ∷ js)) u x among r.0 in
    elim here [ inl same ↦ absurd (both_ways (eqb x.inv j) (not-true _ r.1) (eq-eqb x.inv j same)) | inr k ↦ k ]) in
    first_block j js u sorted ∙ ap (λ l. block u j ++ l) (sorted_blocks js (others u j) distinct.1 (sorted_others j js u sorted) later ∙ blocks_others u j js distinct.0)

blocks_of_same : (t u : List Step) → ((i : ℕ) → block u i ≡ block t i) → (order : List ℕ) → blocks u order ≡ blocks t order
blocks_of_same t u h [] = refl
blocks_of_same t u h (j ∷ js) = (λ i. h j i ++ blocks_of_same t u h js i)

no_member : (xs : List ℕ) (i : ℕ) → xs ≡ [] → In i xs → ⊥
no_member xs i e h = subst (λ l. In i l) e h

-- legal swaps into the blocks of the named order
pub free_in_blocks : FreeInBlocks
unfolding placing
free_in_blocks t free =
    let none : (placing t).rest ≡ [] = placed_from_free t free in
    let n = length (members t) in
    let order = (placing_from t n (members t)).order in
    let keeps : KeepsBefore t (rank order) = λ i j b.
    let m = IsBefore_members t i j (IsBefore_from t i j b) in
    ranks_keep t n (members t) none i j m.0 m.1 b in
    let s = sort (rank order) t (Keeps_from (rank order) t keeps) in
    let among : Each (λ (x : Step). In x.inv order) s.result = Each_from (λ (x : Step). In x.inv order) s.result (λ x h. elim (placed_or_rest t n (members t) x.inv (In_members t x (s.among x h))) [ inl a ↦ a | inr b ↦ absurd (no_member _ _ none b) ]) in
    let same : s.result ≡ blocks t order = sorted_blocks order s.result (placed_distinct t n (members t)) s.sorted among ∙ blocks_of_same t s.result (λ i. swaps_keep_invocations t s.places s.result s.swaps_to_result i) order in
    (s.places, s.swaps_to_result ∙ ap Some same)
