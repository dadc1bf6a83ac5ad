-- What an answer says of a placement.
use Rattle.std.specs.Prelude.{◌≡◌, ◌≢◌, []}
use Rattle.ecf_graph.specs.Placement.{Placement}
use Rattle.ecf_graph.specs.declared.placement.Ordered.{Ordered}
use Rattle.ecf_graph.specs.declared.placement.Ordered.TheVariants as ordered

-- all members are in the order, or there is a rest, and both are the placement's
abbrev pub IsOrdered : Ordered → Placement → Type 0
IsOrdered (ordered.All order) p = (order.items ≡ p.order) × (p.rest ≡ [])
IsOrdered (ordered.Stuck placed rest) p = (placed.items ≡ p.order) × (rest.items ≡ p.rest) × (p.rest ≢ [])
