-- What is read from the store, and kept.
use Rattle.std.proofs.Common.{◌≡◌, ◌≤◌, ℕ, suc, Bool, true, false, cond, Option, Some, None, [], ◌∷◌, ◌++◌, unwrap_or, is_some, ap, sym, ◌∙◌, refl, true≢false, length, drop, get_or, drop-cons, arith}
use Rattle.std.specs.Option.{option_or}
use Rattle.std.specs.BTreeMap.{is_at}
use Rattle.std.proofs.lemmas.List.Elements.{All-head, All-tail, All-append, All-cons, All-nil}
use Rattle.ecf_lang.specs.declared.cell.Cell.{Cell}
use Rattle.ecf_lang.specs.Store.{Store, Cells, cell_cmp, find_cell, read, set}
use Rattle.ecf_lang.specs.Draft.{AgreesWith}
use Rattle.ecf_lang.specs.Part.{with_read}
use Rattle.ecf_stores.specs.CutLaws.{find_in_parts}
use Rattle.ecf_stores.specs.OrderLaws.{is_at_same, is_at_back}
use Rattle.ecf_stores.specs.PairLaws.{find_cell-set}
use Rattle.ecf_progress.specs.ReadCells.{FindAlike}

-- a cell that goes to the end of a list without it, and into the map
pub FindAlike-push : (map pairs : Cells) (cell : Cell) (value : ℕ) → FindAlike map pairs → find_cell pairs cell ≡ None → FindAlike (set map cell value) (pairs ++ (cell, value) ∷ [])
FindAlike-push map pairs cell value alike absent other =
    find_cell-set map cell value other ∙ by (is_at (cell_cmp cell) other) refl ∙ sym (find_in_parts pairs ((cell, value) ∷ []) other)
  where
    by : (passes : Bool) → is_at (cell_cmp cell) other ≡ passes → cond passes (Some value) (find_cell map other) ≡ option_or (find_cell pairs other) (find_cell ((cell, value) ∷ []) other)
    by true same =
        ap (λ b. cond b (Some value) None) (sym (is_at_back other cell ∙ same))
        ∙ ap (λ found. option_or found (find_cell ((cell, value) ∷ []) other)) (sym (ap (find_cell pairs) (sym (is_at_same cell other same)) ∙ absent))
    by false apart = alike other ∙ or_none (find_cell pairs other) ∙ ap (λ b. option_or (find_cell pairs other) (cond b (Some value) None)) (sym (is_at_back other cell ∙ apart))
      where
        or_none : (found : Option ℕ) → found ≡ option_or found None
        or_none None = refl
        or_none (Some x) = refl

-- a cell that goes to the front of a list, and into the map whether it was there or not
pub FindAlike-front : (map pairs : Cells) (cell : Cell) (value : ℕ) → FindAlike map pairs → FindAlike (set map cell value) ((cell, value) ∷ pairs)
FindAlike-front map pairs cell value alike other =
    find_cell-set map cell value other
    ∙ ap (λ b. cond b (Some value) (find_cell map other)) (is_at_back cell other)
    ∙ ap (λ found. cond (is_at (cell_cmp other) cell) (Some value) found) (alike other)

-- the pair before those that are in the map
pub FindAlike-before : (map pairs : Cells) (left n : ℕ) (d : Cell × ℕ) → left ≡ suc n → left ≤ length pairs → FindAlike map (drop left pairs) → FindAlike (set map (get_or pairs n d).0 (get_or pairs n d).1) (drop n pairs)
FindAlike-before map pairs left n d is within alike other =
    FindAlike-front map (drop (suc n) pairs) (get_or pairs n d).0 (get_or pairs n d).1 (λ q. alike q ∙ ap (λ k. find_cell (drop k pairs) q) is) other
    ∙ ap (λ l. find_cell l other) (sym (drop-cons pairs n d (omega (arith, within, is))))

-- what was read is what the store has
pub agrees_where_found : (store : Store) (cell : Cell) (value : ℕ) (reads : Cells) → AgreesWith reads store → find_cell reads cell ≡ Some value → read store cell ≡ value
agrees_where_found store cell value [] agrees found = absurd (true≢false (ap is_some (sym found)))
agrees_where_found store cell value (pair ∷ reads) agrees found =
    by (is_at (cell_cmp cell) pair.0) refl (agrees_where_found store cell value reads (All-tail (λ pair. read store pair.0 ≡ pair.1) pair reads agrees)) found
  where
    by : (passes : Bool) → is_at (cell_cmp cell) pair.0 ≡ passes → (find_cell reads cell ≡ Some value → read store cell ≡ value) → cond passes (Some pair.1) (find_cell reads cell) ≡ Some value → read store cell ≡ value
    by true same later found =
        ap (read store) (is_at_same cell pair.0 same) ∙ All-head (λ pair. read store pair.0 ≡ pair.1) pair reads agrees ∙ ap (λ o. unwrap_or o value) found
    by false apart later found = later found

-- one more read of what the store has
pub AgreesWith-push : (store : Store) (reads : Cells) (cell : Cell) → AgreesWith reads store → AgreesWith (reads ++ (cell, read store cell) ∷ []) store
AgreesWith-push store reads cell agrees =
    All-append (λ pair. read store pair.0 ≡ pair.1) reads ((cell, read store cell) ∷ []) agrees (All-cons (λ pair. read store pair.0 ≡ pair.1) (cell, read store cell) [] refl (All-nil (λ pair. read store pair.0 ≡ pair.1)))

-- a cell that was written or read stays as it was
pub with_read_written : (written reads : Cells) (cell : Cell) (value value' : ℕ) → find_cell written cell ≡ Some value → with_read written reads cell value' ≡ reads
with_read_written written reads cell value value' found = rw found refl

pub with_read_again : (written reads : Cells) (cell : Cell) (value value' : ℕ) → find_cell written cell ≡ None → find_cell reads cell ≡ Some value → with_read written reads cell value' ≡ reads
with_read_again written reads cell value value' unwritten found = rw (unwritten, found) refl

-- a cell that wasn't is put at the end
pub with_read_first : (written reads : Cells) (cell : Cell) (value : ℕ) → find_cell written cell ≡ None → find_cell reads cell ≡ None → with_read written reads cell value ≡ reads ++ (cell, value) ∷ []
with_read_first written reads cell value unwritten unread = rw (unwritten, unread) refl
