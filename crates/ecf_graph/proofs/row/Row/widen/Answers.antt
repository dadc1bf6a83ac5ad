use Rattle.std.proofs.Common.{vec_len, refl, arith}
use Rattle.ecf_graph.proofs.BitLaws.{member_same, filled}
use Rattle.ecf_graph.proofs.row.Row.widen.Goals as goal

pub returns-in_ok-resize-clause-same : goal.returns-in_ok-resize-clause-same
returns-in_ok-resize-clause-same c = rw (← c.self.view_is) (member_same _ _ (filled c.self.inside.words.items c.resize.new.self.items (vec_len c.self.inside.words) c.args.most (grind arith) (grind arith) (grind arith) c.in_ok-resize.ensures.by_index.0 (λ k d. c.in_ok-resize.ensures.by_index.1 k d refl)))
