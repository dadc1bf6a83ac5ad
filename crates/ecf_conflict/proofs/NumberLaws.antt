-- The places of cells in a list, when one is put in.
use Rattle.std.proofs.Common.{◌≡◌, suc, ◌<◌, ◌≤◌, Bool, true, false, cond, List, [], ◌∷◌, ◌++◌, length, ◌⊎◌, refl, sym, ap, ◌∙◌, arith, inl, inr, length-append, add-one}
use Rattle.std.specs.List.{list_any}
use Rattle.std.proofs.lemmas.Bool.{cases_Bool, both_ways, or_parts, or_cases}
use Rattle.indexmap.specs.IndexSet.{insert_key}
use Rattle.ecf_lang.specs.declared.cell.Cell.{Cell}
use Rattle.ecf_verdicts.specs.Conflicts.{same_cell}
use Rattle.ecf_precedence.specs.NewestLemmas.{cell_from, cell_same}
use Rattle.ecf_conflict.specs.Numbering.{cell_number, IsPutIn}

here : (c d : Cell) (ds : List Cell) → same_cell c d ≡ true → cell_number (d ∷ ds) c ≡ 0
unfolding cell_number
here c d ds e = rw e refl

there : (c d : Cell) (ds : List Cell) → same_cell c d ≡ false → cell_number (d ∷ ds) c ≡ suc (cell_number ds c)
unfolding cell_number
there c d ds e = rw e (omega arith)

-- with no such cell the place is the length
absent : (cells : List Cell) (c : Cell) → list_any (same_cell c) cells ≡ false → cell_number cells c ≡ length cells
unfolding cell_number
absent [] c e = refl
absent (d ∷ ds) c e = let p = or_parts _ _ e in there c d ds p.0 ∙ ap suc (absent ds c p.1)

pub within : (cells : List Cell) (c : Cell) → cell_number cells c ≤ length cells
unfolding cell_number
within [] c = omega arith
within (d ∷ ds) c = elim (cases_Bool (same_cell c d)) [
  | inl e ↦ omega (arith, here c d ds e)
  | inr e ↦ omega (arith, there c d ds e, within ds c)
]

-- two cells at one place that is taken are one
one_place : (cells : List Cell) (c d : Cell) → list_any (same_cell d) cells ≡ true → cell_number cells c ≡ cell_number cells d → c ≡ d
one_place [] c d e f = absurd (both_ways false refl e)
one_place (x ∷ xs) c d e f = elim (cases_Bool (same_cell c x)) [
  | inl a ↦ elim (cases_Bool (same_cell d x)) [
    | inl b ↦ cell_from c x a ∙ sym (cell_from d x b)
    | inr b ↦ absurd (omega (arith, f, here c x xs a, there d x xs b))
  ]
  | inr a ↦ elim (cases_Bool (same_cell d x)) [
    | inl b ↦ absurd (omega (arith, f, there c x xs a, here d x xs b))
    | inr b ↦ elim (or_cases _ _ e) [
      | inl g ↦ absurd (both_ways _ b g)
      | inr g ↦ one_place xs c d g (omega (arith, f, there c x xs a, there d x xs b))
    ]
  ]
]

-- one cell more at the end
push_same : (cells : List Cell) (d : Cell) → list_any (same_cell d) cells ≡ false → cell_number (cells ++ d ∷ []) d ≡ length cells
push_same [] d e = here d d [] (cell_same d d refl)
push_same (x ∷ xs) d e = let p = or_parts _ _ e in there d x (xs ++ d ∷ []) p.0 ∙ ap suc (push_same xs d p.1)

push_other : (cells : List Cell) (c d : Cell) → same_cell c d ≡ false → (cell_number (cells ++ d ∷ []) c ≡ cell_number cells c × cell_number cells c < length cells) ⊎ ((cell_number cells c ≡ length cells) × (cell_number (cells ++ d ∷ []) c ≡ suc (length cells)))
push_other [] c d e = inr (none c, there c d [] e ∙ ap suc (none c))
  where
    none : (c : Cell) → cell_number [] c ≡ 0
    none c = absent [] c refl
push_other (x ∷ xs) c d e = go (cases_Bool (same_cell c x)) (push_other xs c d e)
  where
    go : (same_cell c x ≡ true) ⊎ (same_cell c x ≡ false) → (cell_number (xs ++ d ∷ []) c ≡ cell_number xs c × cell_number xs c < length xs) ⊎ ((cell_number xs c ≡ length xs) × (cell_number (xs ++ d ∷ []) c ≡ suc (length xs))) → (cell_number ((x ∷ xs) ++ d ∷ []) c ≡ cell_number (x ∷ xs) c × cell_number (x ∷ xs) c < length (x ∷ xs)) ⊎ ((cell_number (x ∷ xs) c ≡ length (x ∷ xs)) × (cell_number ((x ∷ xs) ++ d ∷ []) c ≡ suc (length (x ∷ xs))))
    go (inl a) deep = inl (here c x (xs ++ d ∷ []) a ∙ sym (here c x xs a), omega (arith, here c x xs a))
    go (inr a) (inl deep) = inl (omega (arith, there c x (xs ++ d ∷ []) a, there c x xs a, deep.0), omega (arith, there c x xs a, deep.1))
    go (inr a) (inr deep) = inr (omega (arith, there c x xs a, deep.0), omega (arith, there c x (xs ++ d ∷ []) a, deep.1))

pub put_in : (cells : List Cell) (d : Cell) → IsPutIn cells (insert_key same_cell cells d) d
put_in cells d = go (list_any (same_cell d) cells) refl
  where
    go : (b : Bool) → list_any (same_cell d) cells ≡ b → IsPutIn cells (cond b cells (cells ++ d ∷ [])) d
    go true e = record {
      own = refl;
      apart = λ c n f. both_ways _ n (cell_same c d (one_place cells c d e f));
      others = λ c n. inl refl;
      longer = omega arith;
      place = found cells e;
    }
      where
        found : (xs : List Cell) → list_any (same_cell d) xs ≡ true → cell_number xs d < length xs
        found [] f = absurd (both_ways false refl f)
        found (x ∷ xs) f = elim (cases_Bool (same_cell d x)) [
          | inl a ↦ omega (arith, here d x xs a)
          | inr a ↦ elim (or_cases _ _ f) [ inl g ↦ absurd (both_ways _ a g) | inr g ↦ omega (arith, there d x xs a, found xs g) ]
        ]
    go false e =
        let len : length (cells ++ d ∷ []) ≡ suc (length cells) = length-append cells (d ∷ []) ∙ add-one (length cells) in
        record {
          own = push_same cells d e ∙ sym (absent cells d e);
          apart = λ c n f. elim (push_other cells c d n) [
            | inl (a, b) ↦ omega (arith, a, b, f, absent cells d e)
            | inr (a, b) ↦ omega (arith, a, b, f, absent cells d e)
          ];
          others = λ c n. elim (push_other cells c d n) [
            | inl (a, b) ↦ inl a
            | inr (a, b) ↦ inr (omega (arith, a), omega (arith, b, len))
          ];
          longer = omega (arith, len);
          place = omega (arith, len, absent cells d e);
        }
