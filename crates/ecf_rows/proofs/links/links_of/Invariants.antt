use Rattle.std.proofs.Common.{◌≤◌, length, nat_eq}
use Rattle.indexmap.specs.IndexMap.{get}
use Rattle.ecf_rows.specs.Links.{AreLinks, FindsFirst}
use Rattle.ecf_rows.proofs.links.links_of.Given as goal

-- from the place on the links stand, and the first places are known
abbrev pub invariant-loop-k : goal.invariant-loop-k
invariant-loop-k l = record {
  within : l.k ≤ length l.submitters;
  next : AreLinks l.submitters l.before l.k l.next.items;
  first : FindsFirst l.submitters l.k (get nat_eq l.first);
}

abbrev pub decreases-loop-k : goal.decreases-loop-k
decreases-loop-k l = l.k
