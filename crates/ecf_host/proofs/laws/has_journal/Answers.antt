use Rattle.ecf_host.proofs.JournalLaws.{has_journal}
use Rattle.ecf_host.proofs.laws.has_journal.Goals as goal

pub returns : goal.returns
returns c = has_journal c.legal_when_whole.ensures c.vetoed_where_not_free.ensures
