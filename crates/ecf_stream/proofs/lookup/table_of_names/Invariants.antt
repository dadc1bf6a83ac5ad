use Rattle.std.proofs.Common.{take}
use Rattle.ecf_stream.specs.Lookup.{FindsNames}
use Rattle.ecf_stream.proofs.lookup.table_of_names.Given as goal

-- the names so far are found
abbrev pub invariant-loop-number : goal.invariant-loop-number
invariant-loop-number l = FindsNames (take l.number l.names) l.table
