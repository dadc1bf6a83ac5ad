use Rattle.ecf_rows.proofs.LevelLaws.{no_levels}
use Rattle.ecf_rows.proofs.row_set.RowSet.new.Goals as goal

pub invariant_of-result : goal.invariant_of-result
invariant_of-result c = rw (c.new.ensures.items, c.new-2.ensures.items, c.new-3.ensures.items) no_levels
