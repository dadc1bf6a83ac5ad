-- Rows in a list.
use Rattle.std.proofs.Common.{◌≡◌, ℕ, zero, suc, ◌+◌, ◌<◌, Bool, true, false, ◌&&◌, ◌||◌, ◌==◌, List, [], ◌∷◌, ◌++◌, length, get_or, slice_set, refl, sym, ap, ◌∙◌, inl, inr, add-one}
use Rattle.std.proofs.lemmas.Bool.{cases_eq, eq-eqb, ne_eqb}
use Rattle.std.proofs.lemmas.List.{append-nil}
use Rattle.ecf_graph.specs.Rows.{is_member}
use Rattle.ecf_graph.specs.RowLemmas.{in_row_other, in_row_same, member_none}
use Rattle.ecf_graph.specs.Paths.{with_pair}
use Rattle.ecf_graph.specs.Rows.{is_in_row, numbers_below}

-- an empty row at the end changes nothing
pub in_row_more : (rows : List (List ℕ)) (r : List ℕ) → ((i : ℕ) → is_member r i ≡ false) → (k i : ℕ) → is_in_row (rows ++ r ∷ []) k i ≡ is_in_row rows k i
unfolding is_in_row
in_row_more [] r e zero i = e i ∙ sym (member_none i)
in_row_more [] r e (suc k) i = refl
in_row_more (x ∷ xs) r e zero i = refl
in_row_more (x ∷ xs) r e (suc k) i = in_row_more xs r e k i

pub words_more : (rows : List (List ℕ)) (r : List ℕ) → length r ≡ 0 → (k : ℕ) → length (get_or (rows ++ r ∷ []) k []) ≡ length (get_or rows k [])
words_more [] r e zero = e
words_more [] r e (suc k) = refl
words_more (x ∷ xs) r e zero = refl
words_more (x ∷ xs) r e (suc k) = words_more xs r e k

-- one number more
pub below_step : (p : ℕ → Bool) (n : ℕ) → p n ≡ true → numbers_below p (n + 1) ≡ numbers_below p n ++ n ∷ []
unfolding numbers_below
below_step p n e = rw (add-one n, e) refl

pub below_skip : (p : ℕ → Bool) (n : ℕ) → p n ≡ false → numbers_below p (n + 1) ≡ numbers_below p n
unfolding numbers_below
below_skip p n e = rw (add-one n, e) (append-nil (numbers_below p n))

and_yes : (x y : Bool) → y ≡ true → x ≡ (x && y)
and_yes true y e = sym e
and_yes false y e = refl

and_no : (r x y : Bool) → y ≡ false → r ≡ (r || (x && y))
and_no true x y e = refl
and_no false true y e = sym e
and_no false false y e = refl

-- a pair more, put into its row
pub pair_in_row : (rows rows1 : List (List ℕ)) (i j : ℕ) (row : List ℕ) → ((k a : ℕ) → is_in_row rows1 k a ≡ is_in_row rows k a) → j < length rows1 → ((a : ℕ) → is_member row a ≡ (is_in_row rows1 j a || (a == i))) →
    (a b : ℕ) → is_in_row (slice_set rows1 j row) b a ≡ with_pair (λ x y. is_in_row rows y x) i j a b
unfolding with_pair
pair_in_row rows rows1 i j row same at_j members a b = elim (cases_eq b j) [
  | inl e ↦ in_row_same rows1 j b a row at_j e ∙ (members a ∙ (ap (λ x. is_in_row rows1 x a || (a == i)) (sym e) ∙ (ap (λ x. x || (a == i)) (same b a) ∙ ap (λ x. is_in_row rows b a || x) (and_yes (a == i) (b == j) (eq-eqb b j e)))))
  | inr n ↦ in_row_other rows1 j b a row n ∙ (same b a ∙ and_no (is_in_row rows b a) (a == i) (b == j) (ne_eqb b j n))
]
