-- Rows of pages: where a cell is read, and what a write in one page makes of the row.
use Rattle.std.proofs.Common.{◌≡◌, ℕ, ◌⊎◌, inl, inr, [], ◌∷◌, ◌++◌, All, List, refl, ap, sym, ◌∙◌, subst, append_assoc, Less}
use Rattle.std.proofs.lemmas.List.Elements.{All-nil, All-cons, All-head, All-tail, All-append, All-weaker}
use Rattle.ecf_lang.specs.declared.cell.Cell.{Cell}
use Rattle.ecf_lang.specs.Store.{Cells, cell_cmp, find_cell, put}
use Rattle.ecf_stores.specs.Pairs.{AreBelow, AreAbove}
use Rattle.ecf_stores.specs.OrderLaws.{cell_order_is_total}
use Rattle.ecf_stores.specs.CutLaws.{find_behind_front, find_before_back, put_behind_front, put_before_back}
use Rattle.ecf_versions.specs.Pages.{Pages, cells_of, IsFrom, IsBefore, ArePaged}
use Rattle.ecf_versions.proofs.OrderLaws.{below_from}

abbrev pub Page : Type 0
Page = Cell × Cells

pub cells_append : (front back : Pages) → cells_of (front ++ back) ≡ cells_of front ++ cells_of back
cells_append [] back = refl
cells_append (page ∷ front) back = ap (λ l. page.1 ++ l) (cells_append front back) ∙ sym (append_assoc page.1 (cells_of front) (cells_of back))

-- all of a part, from all of the whole
pub all_front : {A : Type 0} (P : A → Type 0) (front back : List A) → All P (front ++ back) → All P front
all_front P [] back all = All-nil P
all_front P (x ∷ front) back all = All-cons P x front (All-head P x (front ++ back) all) (all_front P front back (All-tail P x (front ++ back) all))

pub all_back : {A : Type 0} (P : A → Type 0) (front back : List A) → All P (front ++ back) → All P back
all_back P [] back all = all
all_back P (x ∷ front) back all = all_back P front back (All-tail P x (front ++ back) all)

-- what is before a row, and before the row behind its first page
pub before_rest : (cell : Cell) (page : Page) (pages : Pages) → IsBefore page.0 pages → cell_cmp cell page.0 ≡ Less → IsBefore cell pages
before_rest cell page [] next less = tt
before_rest cell page (q ∷ pages) next less = cell_order_is_total.trans cell page.0 q.0 less next

-- the cells of pages behind a cell are above it
pub pages_above : (cell : Cell) (pages : Pages) → ArePaged pages → IsBefore cell pages → AreAbove (cells_of pages) cell
pages_above cell [] paged next = All-nil (λ (pair : Cell × ℕ). cell_cmp cell pair.0 ≡ Less)
pages_above cell (page ∷ pages) paged next =
    All-append (λ (pair : Cell × ℕ). cell_cmp cell pair.0 ≡ Less) page.1 (cells_of pages)
    (All-weaker (λ (pair : Cell × ℕ). IsFrom page.0 pair.0) (λ (pair : Cell × ℕ). cell_cmp cell pair.0 ≡ Less) (λ pair from. below_from cell page.0 pair.0 next from) page.1 paged.0)
    (pages_above cell pages paged.3 (before_rest cell page pages paged.2 next))

-- the pages behind some others
pub behind_paged : (front : Pages) (page : Page) (back : Pages) → ArePaged (front ++ page ∷ back) → ArePaged (page ∷ back)
behind_paged [] page back paged = paged
behind_paged (f ∷ front) page back paged = behind_paged front page back paged.3

-- a page's least cell isn't above those of later ones
first_below : (cell : Cell) (first : Page) (front : Pages) (page : Page) (back : Pages) → ArePaged (first ∷ front ++ page ∷ back) → IsFrom page.0 cell → cell_cmp first.0 cell ≡ Less
first_below cell first [] page back paged from = below_from first.0 page.0 cell paged.2 from
first_below cell first (f ∷ front) page back paged from = cell_order_is_total.trans first.0 f.0 cell paged.2 (first_below cell f front page back paged.3 from)

-- the cells of pages before a cell's own are below it
pub pages_below : (cell : Cell) (front : Pages) (page : Page) (back : Pages) → ArePaged (front ++ page ∷ back) → IsFrom page.0 cell → AreBelow (cells_of front) cell
pages_below cell [] page back paged from = All-nil (λ (pair : Cell × ℕ). cell_cmp pair.0 cell ≡ Less)
pages_below cell (f ∷ front) page back paged from =
    All-append (λ (pair : Cell × ℕ). cell_cmp pair.0 cell ≡ Less) f.1 (cells_of front) (here front paged) (pages_below cell front page back paged.3 from)
  where
    here : (front : Pages) → ArePaged (f ∷ front ++ page ∷ back) → AreBelow f.1 cell
    here [] paged = All-weaker (λ (pair : Cell × ℕ). cell_cmp pair.0 page.0 ≡ Less) (λ (pair : Cell × ℕ). cell_cmp pair.0 cell ≡ Less) (λ pair less. below_from pair.0 page.0 cell less from) f.1 paged.1
    here (g ∷ front) paged =
        All-weaker (λ (pair : Cell × ℕ). cell_cmp pair.0 g.0 ≡ Less) (λ (pair : Cell × ℕ). cell_cmp pair.0 cell ≡ Less)
        (λ pair less. cell_order_is_total.trans pair.0 g.0 cell less (first_below cell g front page back paged.3 from)) f.1 paged.1

-- the cell belongs to this page: nothing is before it, or the cell isn't below it; and the cell is before what is behind it
pub record Belongs (cell : Cell) (front : Pages) (page : Page) (back : Pages) : Type 0 where
  pub from : (front ≡ []) ⊎ IsFrom page.0 cell
  pub next : IsBefore cell back

module _ (cell : Cell) (front : Pages) (page : Page) (back : Pages) (paged : ArePaged (front ++ page ∷ back)) (belongs : Belongs cell front page back) where
  pub front_below : AreBelow (cells_of front) cell
  front_below = elim belongs.from [
    | inl none ↦ subst (λ (pages : Pages). AreBelow (cells_of pages) cell) (sym none) (All-nil (λ (pair : Cell × ℕ). cell_cmp pair.0 cell ≡ Less))
    | inr from ↦ pages_below cell front page back paged from
  ]

  back_above : AreAbove (cells_of back) cell
  back_above = pages_above cell back (behind_paged front page back paged).3 belongs.next

  -- a cell is found on its own page
  pub find_on_page : find_cell (cells_of (front ++ page ∷ back)) cell ≡ find_cell page.1 cell
  find_on_page =
      ap (λ l. find_cell l cell) (cells_append front (page ∷ back)) ∙ find_behind_front (cells_of front) (page.1 ++ cells_of back) cell front_below
      ∙ find_before_back page.1 (cells_of back) cell back_above

  -- a write in its own page is a write into the row
  pub put_on_page : (value : ℕ) (news : Pages) → cells_of news ≡ put page.1 cell value → cells_of (front ++ (news ++ back)) ≡ put (cells_of (front ++ page ∷ back)) cell value
  put_on_page value news are =
      cells_append front (news ++ back) ∙ ap (λ l. cells_of front ++ l) (cells_append news back ∙ ap (λ l. l ++ cells_of back) are ∙ sym (put_before_back page.1 (cells_of back) cell value back_above))
      ∙ sym (put_behind_front (cells_of front) (page.1 ++ cells_of back) cell value front_below) ∙ ap (λ l. put l cell value) (sym (cells_append front (page ∷ back)))
