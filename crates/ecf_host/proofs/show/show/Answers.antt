-- What comes of each stage is what comes of the chain.
use Rattle.std.proofs.Common.{[], ap}
use Rattle.std.proofs.lemmas.Result.{err_from_is_err_and}
use Rattle.ecf_host.specs.Answers.{Answer}
use Rattle.ecf_host.specs.World.{shelf_state}
use Rattle.ecf_host.proofs.ShowLaws.{not_fetched, no_tree, show_lost, is_shown}
use Rattle.ecf_host.proofs.show.show.Goals as goal

pub returns-in_err-text : goal.returns-in_err-text
returns-in_err-text g c source =
    let p = err_from_is_err_and c.from_residual.result c.from_residual.ensures.1 in
    let before = shelf_state g.F.Shelf c.args.shelf.now in
    let after = shelf_state g.F.Shelf c.fetch_contract.new.shelf in
    rw (p.1, p.2) (not_fetched c.args.file.now before after source _ c.in_err-text.ensures.refused c.in_err-text.ensures.no_memory)

pub returns-in_err-tree : goal.returns-in_err-tree
returns-in_err-tree g c source =
    let p = err_from_is_err_and c.from_residual-in_err-tree.result c.from_residual-in_err-tree.ensures.1 in
    let before = shelf_state g.F.Shelf c.args.shelf.now in
    let after = shelf_state g.F.Shelf c.fetch_contract.new.shelf in
    rw (p.1, p.2) (no_tree c.args.file.now before after source c.as_slice.result.now (rw c.as_slice.ensures.value c.in_ok-text.ensures.text) c.in_ok-text.ensures.stands _ c.in_err-tree.ensures.refused)

pub returns-in_err-shown : goal.returns-in_err-shown
returns-in_err-shown g c source =
    let p = err_from_is_err_and c.from_residual-in_err-shown.result c.from_residual-in_err-shown.ensures.1 in
    let before = shelf_state g.F.Shelf c.args.shelf.now in
    let after = shelf_state g.F.Shelf c.fetch_contract.new.shelf in
    rw (p.1, p.2) (show_lost c.args.file.now before after source c.as_slice.result.now (rw c.as_slice.ensures.value c.in_ok-text.ensures.text) c.in_ok-text.ensures.stands)

pub returns : goal.returns
returns g c source =
    let before = shelf_state g.F.Shelf c.args.shelf.now in
    let after = shelf_state g.F.Shelf c.fetch_contract.new.shelf in
    is_shown c.args.file.now before after source c.as_slice.result.now (rw c.as_slice.ensures.value c.in_ok-text.ensures.text) c.in_ok-text.ensures.stands c.in_ok-tree.tree c.in_ok-tree.ensures.tree _
    (ap (λ text. let answer : Answer = record { status = 0; out = text; note = [] } in answer) c.in_ok-shown.ensures)
