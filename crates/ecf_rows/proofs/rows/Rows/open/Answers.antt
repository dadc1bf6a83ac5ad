use Rattle.std.proofs.Common.{List, ℕ, [], sym, subst}
use Rattle.ecf_rows.specs.Kept.{IsKept}
use Rattle.ecf_rows.proofs.ExtendLaws.{kept_alike, none_kept}
use Rattle.ecf_rows.proofs.rows.Rows.open.Goals as goal

pub invariant_of-rows : goal.invariant_of-rows
invariant_of-rows c = subst (λ (words : List ℕ). IsKept (record { submitters = c.new.result.items; states = c.new-2.result.items }) c.new-3.result.items words 0 0) (sym c.new-4.ensures)
    (kept_alike [] c.new.result.items [] c.new-2.result.items [] c.new-3.result.items [] 0 0 c.new.ensures.items c.new-2.ensures.items c.new-3.ensures.items none_kept)
