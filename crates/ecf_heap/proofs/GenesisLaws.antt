-- The initial values of the first objects, fields or pairs, and of one more.
use Rattle.std.proofs.Common.{◌≡◌, ◌+◌, ◌∙◌, ◌++◌, ap, sym, take, length, get_or, ℕ, ◌<◌, List, [], ◌∷◌, map, arith}
use Rattle.std.proofs.lemmas.List.{append-nil, take_more, map-append, length-take}
use Rattle.std.proofs.lemmas.Grind.{flat_map-append}
use Rattle.std.specs.List.{flat_map, enumerate_from}
use Rattle.ecf_lang.specs.declared.cell.Cell.{Cell}
use Rattle.ecf_lang.specs.Store.{Store, Cells, put, with_writes}
use Rattle.ecf_stores.specs.StoreLaws.{writes_go_on}

-- the last of numbered items has their count for a number
numbered_last : {A : Type 0} (from : ℕ) (items : List A) (last : A) → enumerate_from from (items ++ last ∷ []) ≡ enumerate_from from items ++ (from + length items, last) ∷ []
numbered_last from [] last = let here : from ≡ from + 0 = omega arith in ap (λ n. (n, last) ∷ []) here
numbered_last from (x ∷ xs) last =
    let count : (from + 1) + length xs ≡ from + length (x ∷ xs) = omega arith in
    ap (λ l. (from, x) ∷ l) (numbered_last (from + 1) xs last ∙ ap (λ n. enumerate_from (from + 1) xs ++ (n, last) ∷ []) count)

module _ {A : Type 0} where
  -- the writes of the first of some numbered items
  abbrev pub first_writes : (ℕ × A → Cells) → List A → ℕ → Cells
  first_writes writes items count = flat_map writes (enumerate_from 0 (take count items))

  one_numbered : (writes : ℕ × A → Cells) (items : List A) (i : ℕ) (d : A) → i < length items → first_writes writes items (i + 1) ≡ first_writes writes items i ++ writes (i, get_or items i d)
  one_numbered writes items i d inside =
      ap (λ l. flat_map writes (enumerate_from 0 l)) (take_more items i d inside) ∙ ap (flat_map writes) (numbered_last 0 (take i items) (get_or items i d))
      ∙ flat_map-append writes (enumerate_from 0 (take i items)) ((0 + length (take i items), get_or items i d) ∷ [])
      ∙ ap (λ l. first_writes writes items i ++ l) (append-nil (writes (0 + length (take i items), get_or items i d)))
      ∙ ap (λ n. first_writes writes items i ++ writes (n, get_or items i d)) number
    where
      number : 0 + length (take i items) ≡ i
      number = omega (arith, length-take i items)

  pub one_more_item : (writes : ℕ × A → Cells) (store before after : Store) (items : List A) (i : ℕ) (d : A) → i < length items → before ≡ with_writes store (first_writes writes items i) → after ≡ with_writes before (writes (i, get_or items i d))
      → after ≡ with_writes store (first_writes writes items (i + 1))
  one_more_item writes store before after items i d inside so_far one =
      one ∙ ap (λ (s : Store). with_writes s (writes (i, get_or items i d))) so_far ∙ sym (writes_go_on store (first_writes writes items i) (writes (i, get_or items i d)))
      ∙ ap (with_writes store) (sym (one_numbered writes items i d inside))

  pub one_more_pair : (write : A → Cell × ℕ) (store before after : Store) (items : List A) (i : ℕ) (d : A) → i < length items → before ≡ with_writes store (map write (take i items)) → after ≡ put before (write (get_or items i d)).0 (write (get_or items i d)).1
      → after ≡ with_writes store (map write (take (i + 1) items))
  one_more_pair write store before after items i d inside so_far one =
      one ∙ ap (λ (s : Store). put s (write (get_or items i d)).0 (write (get_or items i d)).1) so_far ∙ sym (writes_go_on store (map write (take i items)) (write (get_or items i d) ∷ []))
      ∙ ap (with_writes store) (sym (ap (map write) (take_more items i d inside) ∙ map-append write (take i items) (get_or items i d ∷ [])))
