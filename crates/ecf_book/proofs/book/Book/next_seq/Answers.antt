use Rattle.std.proofs.Common.{ap, ◌∙◌, arith}
use Rattle.ecf_core.specs.Book.{next_seq}
use Rattle.ecf_book.specs.Recorded.{Recorded, state_of}
use Rattle.ecf_book.proofs.StepLaws.{short_journal, next_number}
use Rattle.ecf_book.proofs.book.Book.next_seq.Goals as goal

pub overflow_cast-result : goal.overflow_cast-result
overflow_cast-result c =
    let short = short_journal c.finish_ends.ensures c.journal_grows.ensures _ _ c.self.invariant.holds in
    omega (arith, short, c.len.ensures, c.self.inside.entries.ok.0)

pub overflow_add-result : goal.overflow_add-result
overflow_add-result c =
    let short = short_journal c.finish_ends.ensures c.journal_grows.ensures _ _ c.self.invariant.holds in
    omega (arith, short, c.len.ensures, c.self.inside.entries.ok.0)

pub returns : goal.returns
returns c =
    let number = next_number _ _ _ _ c.self.invariant.holds.matches in
    omega (arith, c.len.ensures, c.self.inside.entries.ok.0, number) ∙ ap (λ (b : Recorded). next_seq (state_of b)) c.self.view_is
