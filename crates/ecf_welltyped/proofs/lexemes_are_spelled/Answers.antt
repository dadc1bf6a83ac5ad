use Rattle.ecf_welltyped.proofs.SpellingLaws as proved
use Rattle.ecf_welltyped.proofs.lexemes_are_spelled.Goals as goal

pub returns : goal.returns
returns c = proved.lexemes_are_spelled c.tokens_in_place.ensures.spelled
