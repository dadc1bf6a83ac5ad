use Rattle.std.proofs.Common.{◌≡◌, true, drop}
use Rattle.ecf_plain.specs.Leads.{Comes, chained, all_of, any_of, all_after, any_after}
use Rattle.ecf_plain.specs.Plain.{are_plain, parts_plain}
use Rattle.ecf_plain.proofs.expressions.+expressions.Given as goal

-- what there was to give comes to the parts that are left
abbrev pub invariant-further-loop-op : goal.invariant-further-loop-op
invariant-further-loop-op g l = parts_plain l.parts ≡ true → Comes l.frame (chained l.locals.top l.fn.total l.parts) (chained l.locals.top l.total (drop l.op-index l.parts)) l.fn.state l.state

abbrev pub invariant-all-loop-part : goal.invariant-all-loop-part
invariant-all-loop-part g l = are_plain l.parts ≡ true → Comes l.frame (all_of l.locals.top l.parts) (all_after l.locals.top l.out (drop l.part-index l.others)) l.fn.state l.state

abbrev pub invariant-any-loop-part : goal.invariant-any-loop-part
invariant-any-loop-part g l = are_plain l.parts ≡ true → Comes l.frame (any_of l.locals.top l.parts) (any_after l.locals.top l.out (drop l.part-index l.others)) l.fn.state l.state
