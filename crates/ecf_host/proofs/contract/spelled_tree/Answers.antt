-- Each refusal of a stage is one of the chain.
use Rattle.std.proofs.lemmas.Result.{err_from_is_err_and}
use Rattle.ecf_host.proofs.ShowLaws.{lexing_refuses, parsing_refuses, spelled_is}
use Rattle.ecf_host.proofs.contract.spelled_tree.Goals as goal

pub returns-in_err-tokens-clause-refused : goal.returns-in_err-tokens-clause-refused
returns-in_err-tokens-clause-refused c =
    let p = err_from_is_err_and c.from_residual.result c.from_residual.ensures.1 in
    rw (p.1, p.2) (lexing_refuses c.args.text.now _ c.in_err-tokens.ensures.refused)

pub returns-clause-tree : goal.returns-clause-tree
returns-clause-tree c = spelled_is c.args.text.now c.as_slice.result.now _ (rw c.as_slice.ensures.value c.in_ok-tokens.ensures.tokens) c.tree_of.ensures.tree

pub returns-clause-refused : goal.returns-clause-refused
returns-clause-refused c = parsing_refuses c.args.text.now c.as_slice.result.now _ (rw c.as_slice.ensures.value c.in_ok-tokens.ensures.tokens) c.tree_of.ensures.refused
