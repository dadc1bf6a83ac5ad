-- The file was fetched and its contract accepted, or why not.
use Rattle.std.proofs.lemmas.Result.{err_from_is_err_and}
use Rattle.ecf_host.specs.World.{shelf_state}
use Rattle.ecf_host.proofs.RunLaws.{not_fetched, accepted, not_accepted}
use Rattle.ecf_host.proofs.run.accept.Goals as goal

pub returns-in_err-text-clause-refused : goal.returns-in_err-text-clause-refused
returns-in_err-text-clause-refused g c =
    let p = err_from_is_err_and c.from_residual.result c.from_residual.ensures.1 in
    let before = shelf_state g.F.Shelf c.args.shelf.now in
    let after = shelf_state g.F.Shelf c.fetch_contract.new.shelf in
    rw (p.1, p.2) (λ source. not_fetched c.args.file.now before after source _ c.in_err-text.ensures.refused c.in_err-text.ensures.no_memory)

pub returns-clause-accepted : goal.returns-clause-accepted
returns-clause-accepted g c =
    accepted c.args.file.now (shelf_state g.F.Shelf c.args.shelf.now) (shelf_state g.F.Shelf c.fetch_contract.new.shelf) c.as_slice.result.now (rw c.as_slice.ensures.value c.in_ok-text.ensures.text) c.in_ok-text.ensures.stands
    c.contract_of.result c.contract_of.ensures.contract

pub returns-clause-refused : goal.returns-clause-refused
returns-clause-refused g c =
    not_accepted c.args.file.now (shelf_state g.F.Shelf c.args.shelf.now) (shelf_state g.F.Shelf c.fetch_contract.new.shelf) c.as_slice.result.now (rw c.as_slice.ensures.value c.in_ok-text.ensures.text) c.in_ok-text.ensures.stands
    c.contract_of.result c.contract_of.ensures.refused
