-- A page with cells goes to its place.
use Rattle.std.proofs.Common.{sym, true≢false}
use Rattle.ecf_versions.proofs.PlaceLaws.{inserted}
use Rattle.ecf_versions.proofs.rows.insert_page.Goals as goal

pub returns-clause-pages : goal.returns-clause-pages
returns-clause-pages g c =
    inserted g.P.Page.cells c.args.items.items c.insert.new.self.items c.args.at (record { from = c.args.from; page = c.in_ok-page.page }) c.args.page c.in_ok-insert.ensures.items c.in_ok-page.ensures.ok
    (λ empty. true≢false (sym (c.if-is_empty.ensures.1 empty)))
