use Rattle.std.proofs.Common.{ap, ◌∙◌}
use Rattle.ecf_book.specs.Kept.{journal_entries}
use Rattle.ecf_book.specs.Recorded.{Recorded, state_of}
use Rattle.ecf_book.proofs.SerialLaws.{entries_held}
use Rattle.ecf_book.proofs.book.Book.entries.Goals as goal

pub returns : goal.returns
returns c = c.as_slice.ensures.value ∙ entries_held _ _ c.self.invariant.holds ∙ ap (λ (b : Recorded). journal_entries (state_of b)) c.self.view_is
