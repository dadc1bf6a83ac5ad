-- The pairs from last writers and readers since reach what "before" reaches.
use Rattle.std.proofs.Common.{◌≡◌, ℕ, true, false, ◌&&◌, ◌==◌, List, [], ◌∷◌, reverse, Some, ◌⊎◌, inl, inr, refl, sym, ◌∙◌, subst}
use Rattle.std.specs.List.{list_any}
use Rattle.std.proofs.lemmas.Bool.{both_ways, cases_Bool, cases_eq, or_cases, or_left, or_right, and_parts, and_from, and_left, and_right, eq-eqb, ne_eqb, not_from_false}
use Rattle.ecf_lang.specs.declared.cell.Cell.{Cell}
use Rattle.ecf_lang.specs.declared.run.Step.{Step}
use Rattle.ecf_verdicts.specs.Conflicts.{conflicts, same_cell}
use Rattle.ecf_verdicts.specs.BeforeLemmas.{IsBefore, IsBefore_from, before_from, conflicts_differ}
use Rattle.ecf_verdicts.specs.ListLemmas.{Has, In, Has_weaker, Has_in, any_from_Has}
use Rattle.ecf_precedence.specs.Newest.{last_writer, readers_since, is_writer, adds_reduced, reduced}
use Rattle.ecf_graph.specs.Paths.{Reaches, one}
use Rattle.ecf_precedence.specs.Laws.{ReducedReachesBefore, ReducedIsBefore}
use Rattle.ecf_graph.specs.PathLemmas.{chain, along}
use Rattle.ecf_precedence.specs.EndLemmas.{reverse_cons, Has_reverse, Has_from_reverse}
use Rattle.ecf_precedence.specs.NewestLemmas.{cell_from, cell_same, writer_other, writer_new, readers_other, readers_new, readers_gone, writer_is, reduced_cases, lift}
use Rattle.ecf_precedence.proofs.StepLaws.{Adds, snoc_cases, snoc_old, snoc_new}

-- conflicts, by parts
pub conflict_from : (a b : Step) → (a.inv ≡ b.inv → ⊥) → a.cell ≡ b.cell → (a.write ≡ true) ⊎ (b.write ≡ true) → conflicts a b ≡ true
unfolding conflicts
conflict_from a b n e w = and_from _ _ (not_from_false _ (ne_eqb _ _ n)) (and_from _ _ (cell_same _ _ e) (elim w [ inl x ↦ or_left _ _ x | inr y ↦ or_right _ _ y ]))

pub conflict_parts : (a b : Step) → conflicts a b ≡ true → (a.cell ≡ b.cell) × ((a.write ≡ true) ⊎ (b.write ≡ true))
unfolding conflicts
conflict_parts a b e = let p = and_parts _ _ (and_parts _ _ e).1 in (cell_from _ _ p.0, or_cases _ _ p.1)

-- "before" from the newest step on
abbrev pub NewBefore : List Step → ℕ → ℕ → Type 0
NewBefore [] i j = ⊥
NewBefore (s ∷ earlier) i j = ((s.inv ≡ j) × Adds earlier s i) ⊎ NewBefore earlier i j

pub newest_from : (e : List Step) (i j : ℕ) → IsBefore (reverse e) i j → NewBefore e i j
newest_from [] i j h = h
newest_from (s ∷ e) i j h = elim (snoc_cases (reverse e) s i j (subst (λ l. IsBefore l i j) (reverse_cons s e) h)) [ inl a ↦ inr (newest_from e i j a) | inr b ↦ inl (b.0, Has_from_reverse _ e b.1) ]

pub newest_to : (e : List Step) (i j : ℕ) → NewBefore e i j → IsBefore (reverse e) i j
newest_to [] i j h = h
newest_to (s ∷ e) i j (inl h) = subst (λ l. IsBefore l i j) (sym (reverse_cons s e)) (snoc_new (reverse e) s i j h.0 (Has_reverse _ e h.1))
newest_to (s ∷ e) i j (inr h) = subst (λ l. IsBefore l i j) (sym (reverse_cons s e)) (snoc_old (reverse e) s i j (newest_to e i j h))

-- the new pairs
pair_from_writer : (e : List Step) (s : Step) (i : ℕ) → (i ≡ s.inv → ⊥) → last_writer e s.cell ≡ Some i → reduced (s ∷ e) i s.inv ≡ true
unfolding reduced adds_reduced
pair_from_writer e s i n w = or_left _ (reduced e i s.inv) (and_from _ _ (eq-eqb s.inv s.inv refl) (and_from _ _ (not_from_false _ (ne_eqb _ _ n)) (or_left _ (s.write && list_any (λ r. r == i) (readers_since e s.cell)) (writer_is _ _ w))))

pair_from_reader : (e : List Step) (s : Step) (i : ℕ) → (i ≡ s.inv → ⊥) → s.write ≡ true → In i (readers_since e s.cell) → reduced (s ∷ e) i s.inv ≡ true
unfolding reduced adds_reduced
pair_from_reader e s i n w h = or_left _ (reduced e i s.inv) (and_from _ _ (eq-eqb s.inv s.inv refl) (and_from _ _ (not_from_false _ (ne_eqb _ _ n)) (or_right (is_writer (last_writer e s.cell) i) _ (and_from _ _ w (any_from_Has (λ r. r == i) _ (Has_weaker _ _ _ (λ r f. eq-eqb _ _ (sym f)) h))))))

-- each reduced pair is one of "before"
writes : (e : List Step) (c : Cell) (i : ℕ) → last_writer e c ≡ Some i → Has (λ u. (u.inv ≡ i) × (u.cell ≡ c) × (u.write ≡ true)) e
unfolding last_writer
writes [] c i h = absurd (let bad : ⊥ = cc in bad)
writes (s ∷ e) c i h = elim (cases_Bool (s.write && same_cell s.cell c)) [
  | inl y ↦ (let p = and_parts _ _ y in let same : Some s.inv ≡ Some i = rw y at h in let f : s.inv ≡ i = cc in inl (f, cell_from _ _ p.1, p.0))
  | inr n ↦ inr (writes e c i (rw n at h))
]

reads : (e : List Step) (c : Cell) (i : ℕ) → In i (readers_since e c) → Has (λ u. (u.inv ≡ i) × (u.cell ≡ c)) e
unfolding readers_since
reads [] c i h = absurd h
reads (s ∷ e) c i h = elim (cases_Bool (same_cell s.cell c)) [
  | inl y ↦ elim (cases_Bool s.write) [
    | inl w ↦ absurd (subst (λ l. In i l) (readers_gone s e c w (cell_from _ _ y)) h)
    | inr w ↦ elim (subst (λ l. In i l) (readers_new s e c w (cell_from _ _ y)) h) [ inl f ↦ inl (sym f, cell_from _ _ y) | inr k ↦ inr (reads e c i k) ]
  ]
  | inr n ↦ inr (reads e c i (subst (λ l. In i l) (readers_other s e c n) h))
]

pub is_before : (e : List Step) (i j : ℕ) → reduced e i j ≡ true → NewBefore e i j
unfolding reduced
is_before [] i j h = absurd (both_ways false refl h)
is_before (s ∷ e) i j h = elim (reduced_cases e s i j h) [
  | inl (f, (n, inl w)) ↦ inl (f, Has_weaker _ _ e (λ u g. (g.0, conflict_from u s (λ x. n (sym g.0 ∙ x)) g.1 (inl g.2))) (writes e s.cell i w))
  | inl (f, (n, inr (w, r))) ↦ inl (f, Has_weaker _ _ e (λ u g. (g.0, conflict_from u s (λ x. n (sym g.0 ∙ x)) g.1 (inr w))) (reads e s.cell i r))
  | inr b ↦ inr (is_before e i j b)
]

-- each step is known by its cell's last writer, or as a reader since
abbrev Under : List Step → Step → Type 0
Under e u = (w : ℕ) × (last_writer e u.cell ≡ Some w) × ((u.inv ≡ w) ⊎ Reaches (reduced e) u.inv w)

abbrev Known : List Step → Step → Type 0
Known e u = ((u.write ≡ false) × In u.inv (readers_since e u.cell)) ⊎ Under e u

-- what an invocation under the last writer reaches by a new step
reach_under : (e : List Step) (s : Step) (u : Step) → u.cell ≡ s.cell → Under e u → (u.inv ≡ s.inv) ⊎ Reaches (reduced (s ∷ e)) u.inv s.inv
reach_under e s u c (w, l, k) =
    let l2 : last_writer e s.cell ≡ Some w = subst (λ x. last_writer e x ≡ Some w) c l in
    elim (cases_eq w s.inv) [
      | inl same ↦ elim k [
        | inl a ↦ inl (a ∙ same)
        | inr p ↦ inr (subst (λ x. Reaches (reduced (s ∷ e)) u.inv x) same (lift e s u.inv w p))
      ]
      | inr apart ↦ (let new : Reaches (reduced (s ∷ e)) w s.inv = one (pair_from_writer e s w apart l2) in elim k [
        | inl a ↦ inr (subst (λ x. Reaches (reduced (s ∷ e)) x s.inv) (sym a) new)
        | inr p ↦ inr (chain (lift e s u.inv w p) new)
      ])
    ]

reach_reader : (e : List Step) (s : Step) (u : Step) → u.cell ≡ s.cell → s.write ≡ true → In u.inv (readers_since e u.cell) → (u.inv ≡ s.inv) ⊎ Reaches (reduced (s ∷ e)) u.inv s.inv
reach_reader e s u c w r = elim (cases_eq u.inv s.inv) [
  | inl same ↦ inl same
  | inr apart ↦ inr (one (pair_from_reader e s u.inv apart w (subst (λ x. In u.inv (readers_since e x)) c r)))
]

known_other : (e : List Step) (s u : Step) → same_cell s.cell u.cell ≡ false → Known e u → Known (s ∷ e) u
known_other e s u n (inl (w, r)) = inl (w, subst (λ l. In u.inv l) (sym (readers_other s e u.cell n)) r)
known_other e s u n (inr (w, l, k)) = inr (w, writer_other s e u.cell (and_right s.write _ n) ∙ l, elim k [ inl a ↦ inl a | inr p ↦ inr (lift e s u.inv w p) ])

known_read : (e : List Step) (s u : Step) → s.cell ≡ u.cell → s.write ≡ false → Known e u → Known (s ∷ e) u
known_read e s u c n (inl (w, r)) = inl (w, subst (λ l. In u.inv l) (sym (readers_new s e u.cell n c)) (inr r))
known_read e s u c n (inr (w, l, k)) = inr (w, writer_other s e u.cell (and_left _ _ n) ∙ l, elim k [ inl a ↦ inl a | inr p ↦ inr (lift e s u.inv w p) ])

known_write : (e : List Step) (s u : Step) → s.cell ≡ u.cell → s.write ≡ true → Known e u → Known (s ∷ e) u
known_write e s u c w (inl (n, r)) = inr (s.inv, writer_new s e u.cell w c, reach_reader e s u (sym c) w r)
known_write e s u c w (inr k) = inr (s.inv, writer_new s e u.cell w c, reach_under e s u (sym c) k)

known_new : (e : List Step) (s : Step) → Known (s ∷ e) s
known_new e s = elim (cases_Bool s.write) [
  | inl w ↦ inr (s.inv, writer_new s e s.cell w refl, inl refl)
  | inr n ↦ inl (n, subst (λ l. In s.inv l) (sym (readers_new s e s.cell n refl)) (inl refl))
]

known_more : (e : List Step) (s u : Step) → Known e u → Known (s ∷ e) u
known_more e s u k = elim (cases_Bool (same_cell s.cell u.cell)) [
  | inl y ↦ elim (cases_Bool s.write) [
    | inl w ↦ known_write e s u (cell_from _ _ y) w k
    | inr n ↦ known_read e s u (cell_from _ _ y) n k
  ]
  | inr n ↦ known_other e s u n k
]

known : (e : List Step) (u : Step) → In u e → Known e u
known [] u h = absurd h
known (s ∷ e) u (inl same) = subst (λ x. Known (s ∷ e) x) (sym same) (known_new e s)
known (s ∷ e) u (inr h) = known_more e s u (known e u h)

-- so each pair of "before" has a path
reach_new : (e : List Step) (s u : Step) → Known e u → conflicts u s ≡ true → Reaches (reduced (s ∷ e)) u.inv s.inv
reach_new e s u k f =
    let p = conflict_parts u s f in
    let r : (u.inv ≡ s.inv) ⊎ Reaches (reduced (s ∷ e)) u.inv s.inv = elim k [
      | inl (n, r) ↦ reach_reader e s u p.0 (elim p.1 [ inl w ↦ absurd (both_ways _ n w) | inr w ↦ w ]) r
      | inr b ↦ reach_under e s u p.0 b
    ] in
    elim r [ inl same ↦ absurd (conflicts_differ u s f same) | inr path ↦ path ]

pub reach_before : (e : List Step) (i j : ℕ) → NewBefore e i j → Reaches (reduced e) i j
reach_before [] i j h = absurd h
reach_before (s ∷ e) i j (inl h) =
    let x = Has_in _ e h.1 in
    let path = reach_new e s x.0 (known e x.0 x.1) x.2.1 in
    subst (λ y. Reaches (reduced (s ∷ e)) y j) x.2.0 (subst (λ y. Reaches (reduced (s ∷ e)) x.0.inv y) h.0 path)
reach_before (s ∷ e) i j (inr h) = lift e s i j (reach_before e i j h)

pub reduced_reaches_before : ReducedReachesBefore
reduced_reaches_before e = record {
  there = λ i j p. along (λ a b h. one (before_from (reverse e) a b (newest_to e a b (is_before e a b h)))) p;
  back = λ i j p. along (λ a b h. reach_before e a b (newest_from e a b (IsBefore_from (reverse e) a b h))) p;
}

pub reduced_is_before : ReducedIsBefore
reduced_is_before e i j h = before_from (reverse e) i j (newest_to e i j (is_before e i j h))
