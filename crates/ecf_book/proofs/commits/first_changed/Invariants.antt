use Rattle.std.proofs.Common.{◌≡◌, drop}
use Rattle.ecf_core.specs.Calls.{first_changed_read}
use Rattle.ecf_book.proofs.commits.first_changed.Given as goal

abbrev pub invariant-loop-cell : goal.invariant-loop-cell
invariant-loop-cell l = first_changed_read l.reads l.store ≡ first_changed_read (drop l.cell-index l.reads) l.store
