-- What was written hides what the store holds.
use Rattle.std.proofs.Common.{◌∙◌, ap}
use Rattle.ecf_lang.specs.Store.{read}
use Rattle.ecf_heap.specs.Overlaid.{store_of}
use Rattle.ecf_heap.proofs.OverlayLaws.{reads_written, reads_base}
use Rattle.ecf_heap.proofs.overlay.OverlayCellRead.get.Goals as goal

pub returns-in-Some : goal.returns-in-Some
returns-in-Some g c = reads_written _ c.self.invariant c.args.cell _ c.in-Some.ensures.value ∙ ap (λ o. read (store_of o) c.args.cell) c.self.view_is

pub returns-in-None : goal.returns-in-None
returns-in-None g c = c.get-in-None.ensures ∙ reads_base _ c.self.invariant c.args.cell c.in-None.ensures.value ∙ ap (λ o. read (store_of o) c.args.cell) c.self.view_is
