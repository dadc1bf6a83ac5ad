-- Each refusal of a stage is one of the chain.
use Rattle.std.proofs.lemmas.Result.{err_from_is_err_and}
use Rattle.ecf_host.proofs.ContractLaws.{lexing_refused, parsing_refused, typing_refused, contract_is}
use Rattle.ecf_host.proofs.contract.read_contract.Goals as goal

pub returns-in_err-tokens-clause-refused : goal.returns-in_err-tokens-clause-refused
returns-in_err-tokens-clause-refused c =
    let p = err_from_is_err_and c.from_residual.result c.from_residual.ensures.1 in
    rw (p.1, p.2) (lexing_refused c.args.text.now _ c.in_err-tokens.ensures.refused)

pub returns-in_err-tree-clause-refused : goal.returns-in_err-tree-clause-refused
returns-in_err-tree-clause-refused c =
    let p = err_from_is_err_and c.from_residual-in_err-tree.result c.from_residual-in_err-tree.ensures.1 in
    rw (p.1, p.2) (parsing_refused c.args.text.now c.as_slice.result.now _ (rw c.as_slice.ensures.value c.in_ok-tokens.ensures.tokens) c.in_err-tree.ensures.refused)

pub returns-clause-contract : goal.returns-clause-contract
returns-clause-contract c =
    contract_is c.args.text.now c.as_slice.result.now _ _ (rw c.as_slice.ensures.value c.in_ok-tokens.ensures.tokens) c.in_ok-tree.ensures.tree c.typed_of.ensures.typed

pub returns-clause-refused : goal.returns-clause-refused
returns-clause-refused c =
    typing_refused c.args.text.now c.as_slice.result.now _ _ (rw c.as_slice.ensures.value c.in_ok-tokens.ensures.tokens) c.in_ok-tree.ensures.tree c.typed_of.ensures.refused
