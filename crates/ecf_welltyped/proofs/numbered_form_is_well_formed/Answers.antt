use Rattle.ecf_welltyped.proofs.TreeLaws as proved
use Rattle.ecf_welltyped.proofs.numbered_form_is_well_formed.Goals as goal

pub returns : goal.returns
returns c = proved.numbered_form_is_well_formed c.lexemes_are_spelled.ensures
