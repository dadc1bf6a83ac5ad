-- The row with its page put back.
use Rattle.std.proofs.Common.{◌≡◌, ◌∙◌, ap, subst, get_or, List}
use Rattle.std.specs.Arc.{arc_value}
use Rattle.std.proofs.lemmas.Result.{IfOk-weaker}
use Rattle.ecf_lang.specs.Store.{Cells, put}
use Rattle.ecf_versions.specs.Pages.{IsRow, cells_of}
use Rattle.ecf_versions.specs.Grown.{IsGrown}
use Rattle.ecf_versions.specs.Rows.{pages_of, insert_pages, grown_pages, IsPlace}
use Rattle.ecf_versions.specs.declared.rows.Item.{Item}
use Rattle.ecf_versions.proofs.RowLaws.{lower_of}
use Rattle.ecf_versions.proofs.PlaceLaws.{row_after, cells_after}
use Rattle.ecf_versions.proofs.rows.write_row.Goals as goal
use Rattle.ecf_versions.proofs.rows.write_row.Given as given

placed : (g : given.Over) (c : goal.After-put_back g) → IsPlace (pages_of g.P.Page.cells c.args.items.items) c.args.cell c.place-at.result
placed g c = subst (λ (l : List (Item g.row.P.Denot)). IsPlace (pages_of g.P.Page.cells l) c.args.cell c.place-at.result) c.as_slice.ensures.value c.place-at.ensures

grown : (g : given.Over) (c : goal.After-put_back g) → IsGrown g.P.Page.cells c.in_ok-grown.grown (put (g.P.Page.cells (arc_value (get_or c.args.items.items c.place-at.result c.remove-page.result).page)) c.args.cell c.args.value)
grown g c =
    let cells = g.P.Page.cells in
    let own : cells c.in_ok-own_page.field-0 ≡ cells (arc_value (get_or c.args.items.items c.place-at.result c.remove-page.result).page) = c.in_ok-own_page.ensures ∙ ap (λ item. cells (arc_value item.page)) c.remove-page.ensures.value in
    subst (λ (l : Cells). IsGrown cells c.in_ok-grown.grown (put l c.args.cell c.args.value)) own c.in_ok-grown.ensures

pub returns-clause-row : goal.returns-clause-row
returns-clause-row g c =
    let cells = g.P.Page.cells in
    IfOk-weaker c.put_back.result (λ after. pages_of cells after.items ≡ insert_pages (pages_of cells c.remove-page.new.self.items) c.place-at.result (grown_pages cells c.lower.result c.in_ok-grown.grown)) (λ after. IsRow (pages_of cells after.items))
    (λ after is. row_after cells c.args.items.items c.args.cell c.args.value c.place-at.result c.remove-page.result c.requires (placed g c) c.in_ok-grown.grown (grown g c) c.remove-page.new.self.items after.items c.lower.result c.remove-page.ensures.items (c.lower.ensures ∙ ap (λ item. lower_of c.args.cell item.from) c.remove-page.ensures.value) is)
    c.put_back.ensures.pages

pub returns-clause-cells : goal.returns-clause-cells
returns-clause-cells g c =
    let cells = g.P.Page.cells in
    IfOk-weaker c.put_back.result (λ after. pages_of cells after.items ≡ insert_pages (pages_of cells c.remove-page.new.self.items) c.place-at.result (grown_pages cells c.lower.result c.in_ok-grown.grown)) (λ after. cells_of (pages_of cells after.items) ≡ put (cells_of (pages_of cells c.args.items.items)) c.args.cell c.args.value)
    (λ after is. cells_after cells c.args.items.items c.args.cell c.args.value c.place-at.result c.remove-page.result c.requires (placed g c) c.in_ok-grown.grown (grown g c) c.remove-page.new.self.items after.items c.lower.result c.remove-page.ensures.items (c.lower.ensures ∙ ap (λ item. lower_of c.args.cell item.from) c.remove-page.ensures.value) is)
    c.put_back.ensures.pages
