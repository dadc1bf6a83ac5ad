use Rattle.ecf_verdicts.proofs.BlockLaws as laws
use Rattle.ecf_verdicts.proofs.free_in_blocks.Goals as goal

pub returns : goal.returns
returns c = laws.free_in_blocks
