use Rattle.ecf_verdicts.proofs.VerdictLaws as laws
use Rattle.ecf_verdicts.proofs.vetoes_explain.Goals as goal

pub returns : goal.returns
returns c = laws.vetoes_explain
