-- What a text is as a contract is well formed.
use Rattle.ecf_host.proofs.TypeLaws.{contract_is_well_formed}
use Rattle.ecf_host.proofs.contract.contract_of.Goals as goal

pub returns-clause-well_formed : goal.returns-clause-well_formed
returns-clause-well_formed c = contract_is_well_formed c.numbered_form_is_well_formed.ensures c.args.text.now c.in_ok-typed.typed c.in_ok-typed.ensures.contract
