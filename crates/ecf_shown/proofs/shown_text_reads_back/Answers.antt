use Rattle.ecf_shown.proofs.ReadBackLaws.{reads_back}
use Rattle.ecf_shown.proofs.shown_text_reads_back.Goals as goal

pub returns : goal.returns
returns c = reads_back c.lexemes_begin_apart.ensures
