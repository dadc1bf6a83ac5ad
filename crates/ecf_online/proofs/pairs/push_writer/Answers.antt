use Rattle.std.proofs.Common.{◌++◌, option_to_list, sym, ap, ◌∙◌}
use Rattle.std.proofs.lemmas.List.{append-nil}
use Rattle.ecf_online.specs.Pairs.{pairs_to}
use Rattle.ecf_online.proofs.PairLaws.{pairs_none}
use Rattle.ecf_online.proofs.pairs.push_writer.Goals as goal

pub returns-in-None-clause-pairs : goal.returns-in-None-clause-pairs
returns-in-None-clause-pairs c =
    let items = c.args.pairs.now.items in
    sym (append-nil items) ∙ (ap (λ l. items ++ l) (sym (pairs_none c.args.j)) ∙ ap (λ o. items ++ pairs_to c.args.j (option_to_list o)) (sym c.in-None.is))
