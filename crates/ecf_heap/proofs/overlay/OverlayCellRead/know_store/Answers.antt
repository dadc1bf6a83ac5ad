-- A store stays one under writes.
use Rattle.std.proofs.Common.{subst}
use Rattle.ecf_lang.specs.Store.{IsStore}
use Rattle.ecf_stores.specs.StoreLaws.{writes_keep_store}
use Rattle.ecf_heap.specs.Overlaid.{Overlaid, store_of}
use Rattle.ecf_heap.proofs.overlay.OverlayCellRead.know_store.Goals as goal

pub returns : goal.returns
returns g c = subst (λ (o : Overlaid). IsStore (store_of o)) c.self.view_is (writes_keep_store _ c.self.inside.written.entries c.self.invariant.base)
