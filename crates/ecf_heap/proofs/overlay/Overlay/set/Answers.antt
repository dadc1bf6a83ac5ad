-- A write over a store is a put into the store that the overlay stands for.
use Rattle.ecf_heap.proofs.OverlayLaws.{write_is_put}
use Rattle.ecf_heap.proofs.overlay.Overlay.set.Goals as goal

pub returns-clause-store : goal.returns-clause-store
returns-clause-store g c = rw (c.in_ok-insert.ensures.entries, ← c.self.view_is) (write_is_put _ c.self.invariant c.args.cell c.args.value)
