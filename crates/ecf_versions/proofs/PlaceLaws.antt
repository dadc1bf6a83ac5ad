-- Where in a row of pages a cell belongs.
use Rattle.std.proofs.Common.{◌≡◌, ℕ, zero, suc, ◌+◌, ◌-◌, ◌<◌, ◌⊎◌, inl, inr, List, [], ◌∷◌, ◌++◌, length, map, take, drop, get_or, unwrap_or, refl, ap, sym, ◌∙◌, subst, append_assoc, arith, Less}
use Rattle.std.specs.Arc.{arc_value}
use Rattle.std.specs.List.{AllByRecursion, remove, insert}
use Rattle.std.specs.List.Sorted.{IsStrictlySortedBy}
use Rattle.std.proofs.Math.Numerals.{add-one}
use Rattle.std.proofs.Math.ListN.{get_or-map}
use Rattle.std.proofs.lemmas.Option.{get_or_from_slice_get, slice_get_within}
use Rattle.std.proofs.lemmas.List.{length-map, map-append, take_more, append-nil, length-append}
use Rattle.std.proofs.lemmas.List.Elements.{All-head, All-tail}
use Rattle.ecf_lang.specs.declared.cell.Cell.{Cell}
use Rattle.ecf_lang.specs.Store.{Cells, cell_cmp, read, put}
use Rattle.ecf_versions.specs.Pages.{Pages, cells_of, IsFrom, IsBefore, ArePaged, IsRow}
use Rattle.ecf_versions.specs.Places.{CellsBelow, CellsAbove, IsFound, IsGap}
use Rattle.ecf_versions.specs.Rows.{pages_of, insert_pages, filled_page, grown_pages, IsPlace}
use Rattle.ecf_versions.specs.Grown.{IsGrown}
use Rattle.ecf_versions.specs.declared.page.Grown.{Grown}
use Rattle.ecf_versions.specs.declared.rows.Item.{Item}
use Rattle.ecf_versions.proofs.OrderLaws.{above_is_from, from_itself}
use Rattle.ecf_versions.proofs.PageLaws.{Page, before_rest, Belongs, find_on_page, cells_append}
use Rattle.ecf_versions.proofs.RowLaws.{lower_of, written_is_row, written_cells}

module _ {P : Type 0} (cells : P → Cells) where
  abbrev from_of : Item P → Cell
  from_of item = item.from

  abbrev pub page_of : Item P → Page
  page_of item = (item.from, cells (arc_value item.page))

  -- the pages' least cells rise
  all_behind : (cell : Cell) (items : List (Item P)) → ArePaged (pages_of cells items) → IsBefore cell (pages_of cells items) → AllByRecursion (λ other. cell_cmp cell other ≡ Less) (map from_of items)
  all_behind cell [] paged next = tt
  all_behind cell (item ∷ items) paged next = (next, all_behind cell items paged.3 (before_rest cell (page_of item) (pages_of cells items) paged.2 next))

  pub least_cells_rise : (items : List (Item P)) → ArePaged (pages_of cells items) → IsStrictlySortedBy cell_cmp (map from_of items)
  unfolding IsStrictlySortedBy
  least_cells_rise [] paged = tt
  least_cells_rise (item ∷ items) paged = (all_behind item.from items paged.3 paged.2, least_cells_rise items paged.3)

  -- a row around the page at a place
  pub around : (items : List (Item P)) (at : ℕ) (d : Item P) → at < length items → pages_of cells items ≡ take at (pages_of cells items) ++ page_of (get_or items at d) ∷ drop (suc at) (pages_of cells items)
  around [] at d inside = absurd (omega arith)
  around (item ∷ items) zero d inside = refl
  around (item ∷ items) (suc at) d inside = ap (λ l. page_of item ∷ l) (around items at d (omega arith))

  before_dropped : (cell : Cell) (items : List (Item P)) (at : ℕ) → CellsAbove (drop at (map from_of items)) cell → IsBefore cell (drop at (pages_of cells items))
  before_dropped cell [] zero above = tt
  before_dropped cell [] (suc at) above = tt
  before_dropped cell (item ∷ items) zero above = All-head (λ other. cell_cmp cell other ≡ Less) item.from (map from_of items) above
  before_dropped cell (item ∷ items) (suc at) above = before_dropped cell items at above

  place_at : (items : List (Item P)) (cell : Cell) (at : ℕ) (d : Item P) → at < length items → (at ≡ 0) ⊎ IsFrom (get_or items at d).from cell → CellsAbove (drop (at + 1) (map from_of items)) cell → IsPlace (pages_of cells items) cell at
  place_at items cell at d inside from above = record {
    inside = omega (arith, inside, length-map items (page_of));
    page = page_of (get_or items at d);
    here = around items at d inside ∙ ap (λ n. take at (pages_of cells items) ++ page_of (get_or items at d) ∷ drop n (pages_of cells items)) (sym (add-one at));
    from = from;
    next = before_dropped cell items (at + 1) above;
  }

  last_below : (all : List Cell) (cell : Cell) (at : ℕ) (d : Cell) → at < length all → CellsBelow (take (suc at) all) cell → cell_cmp (get_or all at d) cell ≡ Less
  last_below [] cell at d inside below = absurd (omega arith)
  last_below (x ∷ all) cell zero d inside below = All-head (λ other. cell_cmp other cell ≡ Less) x [] below
  last_below (x ∷ all) cell (suc at) d inside below = last_below all cell at d (omega arith) (All-tail (λ other. cell_cmp other cell ≡ Less) x (take (suc at) all) below)

  -- the page that begins at the cell
  pub place_found : (items : List (Item P)) (cell : Cell) (at : ℕ) → IsFound (map from_of items) cell at → IsPlace (pages_of cells items) cell at
  place_found [] cell at found = absurd (let inside = slice_get_within [] at cell found.here in omega (arith, inside))
  place_found (item ∷ items) cell at found =
      let all : List (Item P) = item ∷ items in
      let inside : at < length all = omega (arith, slice_get_within (map from_of all) at cell found.here, length-map all from_of) in
      let same : (get_or all at item).from ≡ cell = sym (get_or-map from_of all at item) ∙ get_or_from_slice_get (map from_of all) at cell item.from found.here in
      place_at all cell at item inside (inr (subst (λ (low : Cell). IsFrom low cell) (sym same) (from_itself cell))) found.above

  -- the page before the gap, or the first
  pub place_gap : (items : List (Item P)) (cell : Cell) (at : ℕ) → 0 < length items → IsGap (map from_of items) cell at → IsPlace (pages_of cells items) cell (at - 1)
  place_gap [] cell at some gap = absurd (omega arith)
  place_gap (item ∷ items) cell zero some gap =
      place_at (item ∷ items) cell 0 item (omega arith) (inl refl) (All-tail (λ other. cell_cmp cell other ≡ Less) item.from (map from_of items) gap.above)
  place_gap (item ∷ items) cell (suc at) some gap =
      let all : List (Item P) = item ∷ items in
      let within : at < length (map from_of all) = omega (arith, gap.within) in
      let inside : at < length all = omega (arith, within, length-map all from_of) in
      let less : cell_cmp (get_or all at item).from cell ≡ Less = ap (λ low. cell_cmp low cell) (sym (get_or-map from_of all at item)) ∙ last_below (map from_of all) cell at item.from within gap.below in
      let here : IsPlace (pages_of cells all) cell at = place_at all cell at item inside (inr (above_is_from (get_or all at item).from cell less)) (subst (λ n. CellsAbove (drop n (map from_of all)) cell) (sym (add-one at)) gap.above) in
      subst (IsPlace (pages_of cells all) cell) (omega arith) here

  -- at its place, the cell belongs to the page
  pub belongs : (pages : Pages) (cell : Cell) (at : ℕ) (place : IsPlace pages cell at) → Belongs cell (take at pages) place.page (drop (at + 1) pages)
  belongs pages cell at place = record { from = by place.from; next = place.next }
    where
      by : (at ≡ 0) ⊎ IsFrom place.page.0 cell → (take at pages ≡ []) ⊎ IsFrom place.page.0 cell
      by (inl first) = inl (ap (λ n. take n pages) first)
      by (inr from) = inr from

  pub within : (items : List (Item P)) (at : ℕ) → at < length (pages_of cells items) → at < length items
  within items at inside = omega (arith, inside, length-map items page_of)

  -- the page at the place is the item there
  pub page_is : (items : List (Item P)) (cell : Cell) (at : ℕ) (d : Item P) (place : IsPlace (pages_of cells items) cell at) → place.page ≡ page_of (get_or items at d)
  page_is items cell at d place =
      same_page (take at (pages_of cells items)) place.page (page_of (get_or items at d)) (drop (at + 1) (pages_of cells items)) (drop (suc at) (pages_of cells items)) (sym place.here ∙ around items at d (within items at place.inside))
    where
      same_page : (front : Pages) (a b : Page) (x y : Pages) → front ++ a ∷ x ≡ front ++ b ∷ y → a ≡ b
      same_page [] a b x y same = cc same
      same_page (f ∷ front) a b x y same = same_page front a b x y (cc same)

  -- what a cell reads in a row it reads on its page
  pub reads_at : (items : List (Item P)) (cell : Cell) (at : ℕ) (d : Item P) → IsRow (pages_of cells items) → IsPlace (pages_of cells items) cell at
      → read (cells (arc_value (get_or items at d).page)) cell ≡ read (cells_of (pages_of cells items)) cell
  reads_at items cell at d row place =
      let pages : Pages = pages_of cells items in
      ap (λ (page : Page). read page.1 cell) (sym (page_is items cell at d place))
      ∙ ap (λ o. unwrap_or o 0) (sym (find_on_page cell (take at pages) place.page (drop (at + 1) pages) (subst ArePaged place.here row.paged) (belongs pages cell at place)))
      ∙ ap (λ l. read (cells_of l) cell) (sym place.here)

  -- the row after a write on its page, with the page's item taken out before
  module _ (items : List (Item P)) (cell : Cell) (value : ℕ) (at : ℕ) (d : Item P) (row : IsRow (pages_of cells items)) (place : IsPlace (pages_of cells items) cell at) (grown : Grown P) (is : IsGrown cells grown (put (cells (arc_value (get_or items at d).page)) cell value)) where
    abbrev pages : Pages
    pages = pages_of cells items

    abbrev new_pages : Pages
    new_pages = take at pages ++ (grown_pages cells (lower_of cell place.page.0) grown ++ drop (at + 1) pages)

    row_at : IsRow (take at pages ++ place.page ∷ drop (at + 1) pages)
    row_at = subst IsRow place.here row

    is_at : IsGrown cells grown (put place.page.1 cell value)
    is_at = subst (λ (page : Page). IsGrown cells grown (put page.1 cell value)) (sym (page_is items cell at d place)) is

    new_row : IsRow new_pages
    new_row = written_is_row cells (take at pages) place.page (drop (at + 1) pages) row_at cell value (belongs pages cell at place) grown is_at

    new_cells : cells_of new_pages ≡ put (cells_of pages) cell value
    new_cells = written_cells cells (take at pages) place.page (drop (at + 1) pages) row_at cell value (belongs pages cell at place) grown is_at ∙ ap (λ l. put (cells_of l) cell value) (sym place.here)

    pages_taken : (all : List (Item P)) (n : ℕ) → take n (pages_of cells (remove all n)) ≡ take n (pages_of cells all)
    pages_taken [] zero = refl
    pages_taken [] (suc n) = refl
    pages_taken (i ∷ all) zero = refl
    pages_taken (i ∷ all) (suc n) = ap (λ l. page_of i ∷ l) (pages_taken all n)

    pages_left : (all : List (Item P)) (n : ℕ) → n < length all → drop n (pages_of cells (remove all n)) ≡ drop (suc n) (pages_of cells all)
    pages_left [] n inside = absurd (omega arith)
    pages_left (i ∷ all) zero inside = refl
    pages_left (i ∷ all) (suc n) inside = pages_left all n (omega arith)

    -- the pages that are put back give the new row
    put_back_is : (rest after : List (Item P)) (from : Cell) → rest ≡ remove items at → from ≡ lower_of cell (get_or items at d).from → pages_of cells after ≡ insert_pages (pages_of cells rest) at (grown_pages cells from grown) → pages_of cells after ≡ new_pages
    put_back_is rest after from rest_is from_is after_is =
        let same : from ≡ lower_of cell place.page.0 = from_is ∙ ap (λ (page : Page). lower_of cell page.0) (sym (page_is items cell at d place)) in
        after_is ∙ ap (λ l. insert_pages (pages_of cells l) at (grown_pages cells from grown)) rest_is
        ∙ (λ i. pages_taken items at i ++ (grown_pages cells (same i) grown ++ (pages_left items at (within items at place.inside) ∙ ap (λ n. drop n pages) (sym (add-one at))) i))

    pub row_after : (rest after : List (Item P)) (from : Cell) → rest ≡ remove items at → from ≡ lower_of cell (get_or items at d).from → pages_of cells after ≡ insert_pages (pages_of cells rest) at (grown_pages cells from grown) → IsRow (pages_of cells after)
    row_after rest after from rest_is from_is after_is = subst IsRow (sym (put_back_is rest after from rest_is from_is after_is)) new_row

    pub cells_after : (rest after : List (Item P)) (from : Cell) → rest ≡ remove items at → from ≡ lower_of cell (get_or items at d).from → pages_of cells after ≡ insert_pages (pages_of cells rest) at (grown_pages cells from grown) → cells_of (pages_of cells after) ≡ put (cells_of pages) cell value
    cells_after rest after from rest_is from_is after_is = ap cells_of (put_back_is rest after from rest_is from_is after_is) ∙ new_cells

  -- one page more of a copy
  pub one_shared : (items copies after : List (Item P)) (i : ℕ) (d new : Item P) → i < length items → pages_of cells copies ≡ take i (pages_of cells items) → after ≡ copies ++ new ∷ [] → page_of new ≡ page_of (get_or items i d)
      → pages_of cells after ≡ take (i + 1) (pages_of cells items)
  one_shared items copies after i d new inside so_far is same =
      let pages : Pages = pages_of cells items in
      let inside_pages : i < length pages = omega (arith, inside, length-map items page_of) in
      ap (pages_of cells) is ∙ map-append page_of copies (new ∷ []) ∙ ap (λ l. l ++ page_of new ∷ []) so_far ∙ ap (λ (page : Page). take i pages ++ page ∷ []) (same ∙ sym (get_or-map page_of items i d))
      ∙ sym (take_more pages i (page_of d) inside_pages)

  -- the cells of one page more
  pub one_pushed : (items : List (Item P)) (start before after : Cells) (i : ℕ) (d : Item P) → i < length items → before ≡ start ++ cells_of (take i (pages_of cells items)) → after ≡ before ++ cells (arc_value (get_or items i d).page)
      → after ≡ start ++ cells_of (take (i + 1) (pages_of cells items))
  one_pushed items start before after i d inside so_far is =
      let pages : Pages = pages_of cells items in
      let page : Page = page_of (get_or items i d) in
      let inside_pages : i < length pages = omega (arith, inside, length-map items page_of) in
      let taken : take (i + 1) pages ≡ take i pages ++ page ∷ [] = take_more pages i (page_of d) inside_pages ∙ ap (λ (p : Page). take i pages ++ p ∷ []) (get_or-map page_of items i d) in
      let all : cells_of (take (i + 1) pages) ≡ cells_of (take i pages) ++ page.1 = ap cells_of taken ∙ cells_append (take i pages) (page ∷ []) ∙ ap (λ l. cells_of (take i pages) ++ l) (append-nil page.1) in
      is ∙ ap (λ l. l ++ page.1) so_far ∙ append_assoc start (cells_of (take i pages)) page.1 ∙ ap (λ l. start ++ l) (sym all)

  not_empty : (low : Cell) (pairs : Cells) → (pairs ≡ [] → ⊥) → filled_page low pairs ≡ (low, pairs) ∷ []
  not_empty low [] some = absurd (some refl)
  not_empty low (pair ∷ pairs) some = refl

  pages_inserted : (items : List (Item P)) (at : ℕ) (item : Item P) → pages_of cells (insert items at item) ≡ insert_pages (pages_of cells items) at (page_of item ∷ [])
  pages_inserted [] zero item = refl
  pages_inserted [] (suc at) item = refl
  pages_inserted (i ∷ items) zero item = refl
  pages_inserted (i ∷ items) (suc at) item = ap (λ l. page_of i ∷ l) (pages_inserted items at item)

  -- a page with cells put in at a place
  pub inserted : (items after : List (Item P)) (at : ℕ) (item : Item P) (page : P) → after ≡ insert items at item → arc_value item.page ≡ page → (cells page ≡ [] → ⊥) → pages_of cells after ≡ insert_pages (pages_of cells items) at (filled_page item.from (cells page))
  inserted items after at item page is holds some =
      ap (pages_of cells) is ∙ pages_inserted items at item ∙ ap (λ (p : P). insert_pages (pages_of cells items) at ((item.from, cells p) ∷ [])) holds
      ∙ ap (insert_pages (pages_of cells items) at) (sym (not_empty item.from (cells page) some))

  -- a row without items has no cells, and one without cells has no items
  pub no_items : (items : List (Item P)) → length items ≡ 0 → cells_of (pages_of cells items) ≡ []
  no_items [] none = refl
  no_items (item ∷ items) none = absurd (omega arith)

  pub no_cells : (items : List (Item P)) → IsRow (pages_of cells items) → cells_of (pages_of cells items) ≡ [] → length items ≡ 0
  no_cells [] row none = refl
  no_cells (item ∷ items) row none =
      let some : 0 < length (page_of item).1 = All-head (λ (page : Page). 0 < length page.1) (page_of item) (pages_of cells items) row.filled in
      let empty : length ((page_of item).1 ++ cells_of (pages_of cells items)) ≡ 0 = ap length none in
      absurd (omega (arith, empty, length-append (page_of item).1 (cells_of (pages_of cells items))))
