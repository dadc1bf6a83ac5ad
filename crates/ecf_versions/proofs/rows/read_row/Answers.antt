-- A cell reads what it reads on its page.
use Rattle.std.proofs.Common.{◌∙◌, ap}
use Rattle.ecf_lang.specs.Store.{read}
use Rattle.ecf_versions.proofs.PlaceLaws.{reads_at}
use Rattle.ecf_versions.proofs.rows.read_row.Goals as goal

pub returns : goal.returns
returns g c =
    let cells = g.P.Page.cells in
    c.get.ensures ∙ ap (λ page. read (cells page) c.args.cell) c.deref.ensures
    ∙ reads_at cells c.args.items.now c.args.cell c.place-at.result c.index-items-at.result c.requires c.place-at.ensures
