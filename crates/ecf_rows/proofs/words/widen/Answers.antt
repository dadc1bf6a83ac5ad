use Rattle.std.proofs.Common.{vec_len, refl, arith}
use Rattle.ecf_rows.proofs.WordLaws.{filled}
use Rattle.ecf_rows.proofs.words.widen.Goals as goal

pub returns-in_ok-resize-clause-widened : goal.returns-in_ok-resize-clause-widened
returns-in_ok-resize-clause-widened c = filled c.args.words.now.items c.resize.new.self.items (vec_len c.args.words.now) c.args.most (grind arith) (grind arith) (grind arith) c.in_ok-resize.ensures.by_index.0 (λ k d. c.in_ok-resize.ensures.by_index.1 k d refl)
