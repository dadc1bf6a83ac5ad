use Rattle.std.proofs.Common.{map, take}
use Rattle.ecf_stream.specs.Lookup.{FindsNames}
use Rattle.ecf_stream.proofs.lookup.table_of_objects.Given as goal

-- the names so far are found
abbrev pub invariant-loop-number : goal.invariant-loop-number
invariant-loop-number l = FindsNames (map (λ o. o.name) (take l.number l.objects)) l.table
