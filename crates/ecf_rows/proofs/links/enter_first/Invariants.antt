use Rattle.ecf_rows.specs.Links.{HasEntered}
use Rattle.ecf_rows.proofs.links.enter_first.Given as goal

-- the first places so far are in the set
abbrev pub invariant-loop-k : goal.invariant-loop-k
invariant-loop-k l = HasEntered l.submitters l.before l.k l.fn.set l.set
