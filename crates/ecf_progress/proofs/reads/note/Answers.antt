use Rattle.std.proofs.Common.{◌∙◌, ap, arith}
use Rattle.ecf_lang.specs.Store.{find_cell}
use Rattle.ecf_progress.proofs.ReadLaws.{FindAlike-push}
use Rattle.ecf_progress.proofs.reads.note.Goals as goal

pub returns-then-pairs-eq-FEW-clause-noted : goal.returns-then-pairs-eq-FEW-clause-noted
returns-then-pairs-eq-FEW-clause-noted c = λ few q. ap (λ l. find_cell l q) c.in_ok-insert.ensures.entries ∙ FindAlike-push _ _ c.args.cell c.args.value c.in_ok-put_all.ensures c.requires.absent q

pub returns-clause-noted : goal.returns-clause-noted
returns-clause-noted c = λ few q. ap (λ l. find_cell l q) c.in_ok-insert-2.ensures.entries ∙ FindAlike-push _ _ c.args.cell c.args.value (c.requires.alike (omega arith)) c.requires.absent q
