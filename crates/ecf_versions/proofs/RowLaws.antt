-- What becomes of a row where a page is written, left out or cut off, and where the row is cut.
use Rattle.std.proofs.Common.{◌≡◌, ℕ, zero, suc, ◌<◌, ◌⊎◌, inl, inr, Bool, true, false, if◌then◌else◌, List, [], ◌∷◌, ◌++◌, length, All, Option, Some, None, refl, ap, sym, ◌∙◌, subst, arith, take, drop, get_or, Ordering, Less, Equal, Greater, is_lt, true≢false}
use Rattle.std.proofs.lemmas.List.{append-nil, length-append, take-append-drop, map-append}
use Rattle.std.proofs.lemmas.List.Elements.{All-nil, All-cons, All-head, All-tail, All-append, All-weaker}
use Rattle.ecf_lang.specs.declared.cell.Cell.{Cell}
use Rattle.ecf_lang.specs.Store.{Cells, cell_cmp, put}
use Rattle.ecf_stores.specs.Pairs.{AreBelow}
use Rattle.ecf_stores.specs.OrderLaws.{cell_order_is_total}
use Rattle.ecf_versions.specs.Pages.{Pages, cells_of, IsFrom, AreFrom, IsBefore, AreBefore, ArePaged, IsRow}
use Rattle.ecf_versions.specs.Grown.{IsCut, IsGrown}
use Rattle.ecf_versions.specs.Rows.{pages_of, filled_page, second_page, grown_pages, AreHalves}
use Rattle.ecf_versions.specs.declared.rows.Item.{Item}
use Rattle.ecf_versions.specs.declared.page.Grown.{Grown}
use Rattle.ecf_versions.proofs.OrderLaws.{from_below, from_trans, from_itself, above_is_from}
use Rattle.ecf_versions.proofs.PutLaws.{all_put}
use Rattle.ecf_versions.proofs.PageLaws.{Page, Belongs, cells_append, all_front, all_back, before_rest, pages_above, pages_below, behind_paged, put_on_page}

-- a page may be put in the place of one with the same least cell, and others behind it
replace_page : (front : Pages) (page new : Page) (back rest : Pages) → new.0 ≡ page.0 → ArePaged (front ++ page ∷ back) → ArePaged (new ∷ rest) → ArePaged (front ++ new ∷ rest)
replace_page [] page new back rest same paged other = other
replace_page (f ∷ []) page new back rest same paged other =
    (paged.0, subst (AreBelow f.1) (sym same) paged.1, subst (λ (cell : Cell). cell_cmp f.0 cell ≡ Less) (sym same) paged.2, other)
replace_page (f ∷ g ∷ front) page new back rest same paged other = (paged.0, paged.1, paged.2, replace_page (g ∷ front) page new back rest same paged.3 other)

-- a page may be left out
leave_out : (front : Pages) (page : Page) (back : Pages) → ArePaged (front ++ page ∷ back) → ArePaged (front ++ back)
leave_out [] page back paged = paged.3
leave_out (f ∷ []) page back paged = (paged.0, before back paged.3.2, before_rest f.0 page back paged.3.2 paged.2, paged.3.3)
  where
    before : (back : Pages) → IsBefore page.0 back → AreBefore f.1 back
    before [] next = tt
    before (q ∷ back) next = All-weaker (λ (pair : Cell × ℕ). cell_cmp pair.0 page.0 ≡ Less) (λ (pair : Cell × ℕ). cell_cmp pair.0 q.0 ≡ Less) (λ pair less. cell_order_is_total.trans pair.0 page.0 q.0 less next) f.1 paged.1
leave_out (f ∷ g ∷ front) page back paged = (paged.0, paged.1, paged.2, leave_out (g ∷ front) page back paged.3)

-- a first page may begin at a lower cell
lower_first : (low : Cell) (page : Page) (back : Pages) → ArePaged (page ∷ back) → IsFrom low page.0 → ArePaged ((low, page.1) ∷ back)
lower_first low page back paged from =
    (All-weaker (λ (pair : Cell × ℕ). IsFrom page.0 pair.0) (λ (pair : Cell × ℕ). IsFrom low pair.0) (λ pair is. from_trans low page.0 pair.0 from is) page.1 paged.0, paged.1, before back paged.2, paged.3)
  where
    before : (back : Pages) → IsBefore page.0 back → IsBefore low back
    before [] next = tt
    before (q ∷ back) next = from_below low page.0 q.0 from next

-- and a later one at its own
lower_page : (low : Cell) (front : Pages) (page : Page) (back : Pages) → ArePaged (front ++ page ∷ back) → IsFrom low page.0 → (front ≡ []) ⊎ (low ≡ page.0) → ArePaged (front ++ (low, page.1) ∷ back)
lower_page low [] page back paged from which = lower_first low page back paged from
lower_page low (f ∷ front) page back paged from (inl none) = absurd (cc none)
lower_page low (f ∷ front) page back paged from (inr same) = subst (λ (cell : Cell). ArePaged (f ∷ front ++ (cell, page.1) ∷ back)) (sym same) paged

-- a first page after a write into it
put_first : (page : Page) (back : Pages) (cell : Cell) (value : ℕ) → ArePaged (page ∷ back) → IsFrom page.0 cell → IsBefore cell back → ArePaged ((page.0, put page.1 cell value) ∷ back)
put_first page back cell value paged from next = (all_put (IsFrom page.0) page.1 cell value from paged.0, before back paged.1 next, paged.2, paged.3)
  where
    before : (back : Pages) → AreBefore page.1 back → IsBefore cell back → AreBefore (put page.1 cell value) back
    before [] below next = tt
    before (q ∷ back) below next = all_put (λ other. cell_cmp other q.0 ≡ Less) page.1 cell value next below

-- what some pair isn't below, and all pairs are below: the first is below the second
between : (low high : Cell) (pairs : Cells) → 0 < length pairs → AreFrom pairs low → AreBelow pairs high → cell_cmp low high ≡ Less
between low high [] filled from below = absurd (omega arith)
between low high (pair ∷ pairs) filled from below =
    from_below low pair.0 high (All-head (λ (pair : Cell × ℕ). IsFrom low pair.0) pair pairs from) (All-head (λ (pair : Cell × ℕ). cell_cmp pair.0 high ≡ Less) pair pairs below)

-- a first page cut in two
cut_first : (low middle : Cell) (first second pairs : Cells) (back : Pages) → IsCut first second pairs middle → ArePaged ((low, pairs) ∷ back) → ArePaged ((low, first) ∷ (middle, second) ∷ back)
cut_first low middle first second pairs back cut paged =
    let whole : ArePaged ((low, first ++ second) ∷ back) = subst (λ (l : Cells). ArePaged ((low, l) ∷ back)) (sym cut.whole) paged in
    let from : AreFrom first low = all_front (λ (pair : Cell × ℕ). IsFrom low pair.0) first second whole.0 in
    (from, cut.below, between low middle first cut.first_filled from cut.below, (cut.from, before back whole.1, next back whole.1, whole.3))
  where
    before : (back : Pages) → AreBefore (first ++ second) back → AreBefore second back
    before [] below = tt
    before (q ∷ back) below = all_back (λ (pair : Cell × ℕ). cell_cmp pair.0 q.0 ≡ Less) first second below

    next : (back : Pages) → AreBefore (first ++ second) back → IsBefore middle back
    next [] below = tt
    next (q ∷ back) below = between middle q.0 second cut.second_filled cut.from (all_back (λ (pair : Cell × ℕ). cell_cmp pair.0 q.0 ≡ Less) first second below)

filled_cells : (low : Cell) (pairs : Cells) → cells_of (filled_page low pairs) ≡ pairs
filled_cells low [] = refl
filled_cells low (pair ∷ pairs) = append-nil (pair ∷ pairs)

abbrev IsFilled : Page → Type 0
IsFilled page = 0 < length page.1

filled_is_filled : (low : Cell) (pairs : Cells) → All IsFilled (filled_page low pairs)
filled_is_filled low [] = All-nil IsFilled
filled_is_filled low (pair ∷ pairs) = let some : 0 < length (pair ∷ pairs) = omega arith in All-cons IsFilled (low, pair ∷ pairs) [] some (All-nil IsFilled)

-- a page with cells stays, and an empty one is left out
filled_paged : (front : Pages) (low : Cell) (pairs : Cells) (back : Pages) → ArePaged (front ++ (low, pairs) ∷ back) → ArePaged (front ++ (filled_page low pairs ++ back))
filled_paged front low [] back paged = leave_out front (low, []) back paged
filled_paged front low (pair ∷ pairs) back paged = paged

is_filled : (low : Cell) (pairs : Cells) → 0 < length pairs → filled_page low pairs ≡ (low, pairs) ∷ []
is_filled low [] some = absurd (omega arith)
is_filled low (pair ∷ pairs) some = refl

-- the lower of a cell and its page's least cell
abbrev pub lower_of : Cell → Cell → Cell
lower_of cell from = if is_lt (cell_cmp cell from) then cell else from

module _ {P : Type 0} (cells : P → Cells) where
  second_cells : (second : Option (Cell × P)) → All IsFilled (second_page cells second)
  second_cells None = All-nil IsFilled
  second_cells (Some second) = filled_is_filled second.0 (cells second.1)

  grown_filled : (low : Cell) (grown : Grown P) → All IsFilled (grown_pages cells low grown)
  grown_filled low grown = All-append IsFilled (filled_page low (cells grown.first)) (second_page cells grown.second) (filled_is_filled low (cells grown.first)) (second_cells grown.second)

  grown_cells : (low : Cell) (first : P) (second : Option (Cell × P)) (pairs : Cells) → IsGrown cells (record { first = first; second = second }) pairs → cells_of (grown_pages cells low (record { first = first; second = second })) ≡ pairs
  grown_cells low first None pairs grown = ap cells_of (append-nil (filled_page low (cells first))) ∙ filled_cells low (cells first) ∙ grown
  grown_cells low first (Some second) pairs grown =
      cells_append (filled_page low (cells first)) (filled_page second.0 (cells second.1)) ∙ ap (λ l. l ++ cells_of (filled_page second.0 (cells second.1))) (filled_cells low (cells first))
      ∙ ap (λ l. cells first ++ l) (filled_cells second.0 (cells second.1)) ∙ grown.whole

  grown_paged : (front : Pages) (low : Cell) (pairs : Cells) (back : Pages) (first : P) (second : Option (Cell × P)) → IsGrown cells (record { first = first; second = second }) pairs → ArePaged (front ++ (low, pairs) ∷ back)
      → ArePaged (front ++ (grown_pages cells low (record { first = first; second = second }) ++ back))
  grown_paged front low pairs back first None grown paged =
      subst (λ (l : Pages). ArePaged (front ++ (l ++ back))) (sym (append-nil (filled_page low (cells first))))
      (filled_paged front low (cells first) back (subst (λ (l : Cells). ArePaged (front ++ (low, l) ∷ back)) (sym grown) paged))
  grown_paged front low pairs back first (Some second) grown paged =
      let pages : (low, cells first) ∷ (second.0, cells second.1) ∷ [] ≡ grown_pages cells low (record { first = first; second = Some second }) = λ i. sym (is_filled low (cells first) grown.first_filled) i ++ sym (is_filled second.0 (cells second.1) grown.second_filled) i in
      subst (λ (l : Pages). ArePaged (front ++ (l ++ back))) pages
      (replace_page front (low, pairs) (low, cells first) back ((second.0, cells second.1) ∷ back) refl paged (cut_first low second.0 (cells first) (cells second.1) pairs back grown (behind_paged front (low, pairs) back paged)))

  less_of : (a b : Cell) → is_lt (cell_cmp a b) ≡ true → cell_cmp a b ≡ Less
  less_of a b is = by (cell_cmp a b) is
    where
      by : (order : Ordering) → is_lt order ≡ true → order ≡ Less
      by Less is = refl
      by Equal is = absurd (true≢false (sym is))
      by Greater is = absurd (true≢false (sym is))

  record Lowered (cell : Cell) (front : Pages) (page : Page) (low : Cell) : Type 0 where
    from : IsFrom low page.0
    own : IsFrom low cell
    which : (front ≡ []) ⊎ (low ≡ page.0)

  lowered : (cell : Cell) (front : Pages) (page : Page) (back : Pages) → Belongs cell front page back → Lowered cell front page (lower_of cell page.0)
  lowered cell front page back belongs = by (is_lt (cell_cmp cell page.0)) refl
    where
      first : (front ≡ []) ⊎ IsFrom page.0 cell → is_lt (cell_cmp cell page.0) ≡ true → (front ≡ []) ⊎ (cell ≡ page.0)
      first (inl none) is = inl none
      first (inr from) is = absurd (true≢false (sym is ∙ from))

      by : (less : Bool) → is_lt (cell_cmp cell page.0) ≡ less → Lowered cell front page (if less then cell else page.0)
      by true is = record { from = above_is_from cell page.0 (less_of cell page.0 is); own = from_itself cell; which = first belongs.from is }
      by false is = record { from = from_itself page.0; own = is; which = inr refl }

  module _ (front : Pages) (page : Page) (back : Pages) (row : IsRow (front ++ page ∷ back)) (cell : Cell) (value : ℕ) (belongs : Belongs cell front page back) (grown : Grown P) (is : IsGrown cells grown (put page.1 cell value)) where
    -- the row after a write is a row
    pub written_is_row : IsRow (front ++ (grown_pages cells (lower_of cell page.0) grown ++ back))
    written_is_row =
        let low : Cell = lower_of cell page.0 in
        let facts = lowered cell front page back belongs in
        let from_low : ArePaged (front ++ (low, page.1) ∷ back) = lower_page low front page back row.paged facts.from facts.which in
        let put_in : ArePaged ((low, put page.1 cell value) ∷ back) = put_first (low, page.1) back cell value (behind_paged front (low, page.1) back from_low) facts.own belongs.next in
        let paged : ArePaged (front ++ (low, put page.1 cell value) ∷ back) = replace_page front (low, page.1) (low, put page.1 cell value) back back refl from_low put_in in
        record {
          paged = grown_paged front low (put page.1 cell value) back grown.first grown.second is paged;
          filled = All-append IsFilled front (grown_pages cells low grown ++ back) (all_front IsFilled front (page ∷ back) row.filled)
              (All-append IsFilled (grown_pages cells low grown) back (grown_filled low grown) (All-tail IsFilled page back (all_back IsFilled front (page ∷ back) row.filled)));
        }

    -- and has the written cells
    pub written_cells : cells_of (front ++ (grown_pages cells (lower_of cell page.0) grown ++ back)) ≡ put (cells_of (front ++ page ∷ back)) cell value
    written_cells = put_on_page cell front page back row.paged belongs value (grown_pages cells (lower_of cell page.0) grown) (grown_cells (lower_of cell page.0) grown.first grown.second (put page.1 cell value) is)

front_paged : (front : Pages) (page : Page) (back : Pages) → ArePaged (front ++ page ∷ back) → ArePaged front
front_paged [] page back paged = tt
front_paged (f ∷ []) page back paged = (paged.0, tt, tt, tt)
front_paged (f ∷ g ∷ front) page back paged = (paged.0, paged.1, paged.2, front_paged (g ∷ front) page back paged.3)

some_cells : (page : Page) (pages : Pages) → All IsFilled (page ∷ pages) → 0 < length (cells_of (page ∷ pages))
some_cells page pages filled = let some : 0 < length page.1 = All-head IsFilled page pages filled in omega (arith, length-append page.1 (cells_of pages))

-- a row cut before a page
pub cut_row : (first : Page) (front : Pages) (page : Page) (back : Pages) → IsRow (first ∷ front ++ page ∷ back) → AreHalves (first ∷ front ++ page ∷ back) (first ∷ front) page.0 (page ∷ back)
cut_row first front page back row =
    let behind : ArePaged (page ∷ back) = behind_paged (first ∷ front) page back row.paged in
    let front_filled : All IsFilled (first ∷ front) = all_front IsFilled (first ∷ front) (page ∷ back) row.filled in
    let back_filled : All IsFilled (page ∷ back) = all_back IsFilled (first ∷ front) (page ∷ back) row.filled in
    record {
      first_row = record { paged = front_paged (first ∷ front) page back row.paged; filled = front_filled };
      second_row = record { paged = behind; filled = back_filled };
      cut = record {
        whole = sym (cells_append (first ∷ front) (page ∷ back));
        first_filled = some_cells first front front_filled;
        second_filled = some_cells page back back_filled;
        below = pages_below page.0 (first ∷ front) page back row.paged (from_itself page.0);
        from = All-append (λ (pair : Cell × ℕ). IsFrom page.0 pair.0) page.1 (cells_of back) behind.0
            (All-weaker (λ (pair : Cell × ℕ). cell_cmp page.0 pair.0 ≡ Less) (λ (pair : Cell × ℕ). IsFrom page.0 pair.0) (λ pair less. above_is_from page.0 pair.0 less) (cells_of back) (pages_above page.0 back behind.3 behind.2));
      };
    }

module _ {P : Type 0} (cells : P → Cells) where
  some_dropped : (items : List (Item P)) (half : ℕ) → half < length items → (item : Item P) × (rest : List (Item P)) × (drop half items ≡ item ∷ rest)
  some_dropped [] half inside = absurd (omega arith)
  some_dropped (i ∷ items) zero inside = (i, items, refl)
  some_dropped (i ∷ items) (suc half) inside = some_dropped items half (omega arith)

  -- a row of items cut at a place
  pub halved : (items front rest : List (Item P)) (half : ℕ) (first : Item P) → 0 < half → half < length items → front ≡ take half items → rest ≡ drop half items → first ≡ get_or rest 0 first → IsRow (pages_of cells items)
      → AreHalves (pages_of cells items) (pages_of cells front) first.from (pages_of cells rest)
  halved [] front rest half first above inside front_is rest_is first_is row = absurd (omega arith)
  halved (i ∷ items) front rest zero first above inside front_is rest_is first_is row = absurd (omega arith)
  halved (i ∷ items) front rest (suc half) first above inside front_is rest_is first_is row =
      let some = some_dropped items half (omega arith) in
      let cut : pages_of cells items ≡ pages_of cells (take half items) ++ pages_of cells (some.0 ∷ some.1) =
      ap (pages_of cells) (sym (take-append-drop half items)) ∙ map-append _ (take half items) (drop half items) ∙ ap (λ l. pages_of cells (take half items) ++ pages_of cells l) some.2 in
      let pages : pages_of cells (i ∷ items) ≡ pages_of cells (i ∷ take half items) ++ pages_of cells (some.0 ∷ some.1) = ap (λ l. pages_of cells (i ∷ []) ++ l) cut in
      let behind : rest ≡ some.0 ∷ some.1 = rest_is ∙ some.2 in
      let middle : first ≡ some.0 = first_is ∙ ap (λ l. get_or l 0 first) behind in
      let made = cut_row _ (pages_of cells (take half items)) _ (pages_of cells some.1) (subst IsRow pages row) in
      subst (λ (z : Pages × Pages × Cell × Pages). AreHalves z.0 z.1 z.2 z.3) (λ j. (sym pages j, pages_of cells (sym front_is j), (sym middle j).from, pages_of cells (sym behind j))) made
