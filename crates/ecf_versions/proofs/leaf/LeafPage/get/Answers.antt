-- A cell that is found reads its value, and one that isn't reads 0.
use Rattle.std.proofs.Common.{◌∙◌, ap, sym, subst}
use Rattle.std.specs.Map.{keys_of}
use Rattle.ecf_lang.specs.Store.{Cells, read}
use Rattle.ecf_versions.specs.Places.{IsFound, IsGap}
use Rattle.ecf_versions.proofs.LeafLaws.{read_found, read_gap}
use Rattle.ecf_versions.proofs.leaf.LeafPage.get.Goals as goal

pub returns-in-Ok : goal.returns-in-Ok
returns-in-Ok c =
    let items : Cells = c.self.inside.items.items in
    let found : IsFound (keys_of items) c.args.cell c.in-Ok.at = subst (λ (l : Cells). IsFound (keys_of l) c.args.cell c.in-Ok.at) c.as_slice.ensures.value c.in-Ok.ensures in
    ap (λ pair. pair.1) c.index.ensures ∙ sym (read_found items c.args.cell c.in-Ok.at c.index.result.now found) ∙ ap (λ (l : Cells). read l c.args.cell) c.self.view_is

pub returns-in-Err : goal.returns-in-Err
returns-in-Err c =
    let items : Cells = c.self.inside.items.items in
    let gap : IsGap (keys_of items) c.args.cell c.in-Err.field-0 = subst (λ (l : Cells). IsGap (keys_of l) c.args.cell c.in-Err.field-0) c.as_slice.ensures.value c.in-Err.ensures in
    sym (read_gap items c.args.cell c.in-Err.field-0 gap) ∙ ap (λ (l : Cells). read l c.args.cell) c.self.view_is
