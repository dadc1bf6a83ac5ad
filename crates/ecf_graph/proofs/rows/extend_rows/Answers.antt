use Rattle.std.proofs.Common.{◌∙◌, arith}
use Rattle.ecf_graph.proofs.RowLaws.{in_row_more, words_more}
use Rattle.ecf_graph.proofs.rows.extend_rows.Goals as goal

pub rows-preserved : goal.rows-preserved
rows-preserved c = record {
  same = λ k i. rw c.in_ok-push.ensures.items (in_row_more _ _ c.new.ensures.none k i ∙ c.rows.invariant.same k i);
  words = λ k. rw c.in_ok-push.ensures.items (words_more _ _ c.new.ensures.words k ∙ c.rows.invariant.words k);
  from = omega (arith, c.in_ok-push.ensures.len);
  upto = omega (arith, c.in_ok-push.ensures.len);
}
