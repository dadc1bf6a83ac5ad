use Rattle.std.proofs.Common.{◌==◌, sym, arith}
use Rattle.std.proofs.lemmas.Bool.{eq-eqb}
use Rattle.std.proofs.lemmas.List.Sums.{position_or_len_is}
use Rattle.ecf_graph.proofs.checks.place_of.Goals as goal

pub returns-then-list-k : goal.returns-then-list-k
returns-then-list-k c = sym (position_or_len_is (λ x. x == c.args.i) c.args.list.now c.loop-k.k 0 (omega arith) c.loop-k.invariant (λ _. eq-eqb _ _ c.if-list-k.true))

pub returns : goal.returns
returns c = sym (position_or_len_is (λ x. x == c.args.i) c.args.list.now _ 0 (omega arith) (λ k h. c.loop-k.invariant k (omega (arith, h))) (λ h. absurd (omega (arith, h))))
