use Rattle.std.proofs.Common.{◌++◌, sym, ap, ◌∙◌}
use Rattle.std.proofs.lemmas.List.{append-nil}
use Rattle.ecf_online.proofs.PairLaws.{pairs_to_apart, pairs_to_same}
use Rattle.ecf_online.proofs.pairs.push_pair.Goals as goal

pub returns-then-i-j-clause-pairs : goal.returns-then-i-j-clause-pairs
returns-then-i-j-clause-pairs c = c.push_reserved.ensures.items ∙ ap (λ l. c.args.pairs.now.items ++ l) (sym (pairs_to_apart c.args.i c.args.j c.if-i-j.true))

pub returns-else-i-j-clause-pairs : goal.returns-else-i-j-clause-pairs
returns-else-i-j-clause-pairs c = sym (append-nil c.args.pairs.now.items) ∙ ap (λ l. c.args.pairs.now.items ++ l) (sym (pairs_to_same c.args.i c.args.j c.if-i-j.false))
