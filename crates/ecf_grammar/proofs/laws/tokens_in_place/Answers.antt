use Rattle.ecf_grammar.proofs.ReadingLaws.{tokens_are_spelled, tokens_stand_in_order}
use Rattle.ecf_grammar.proofs.laws.tokens_in_place.Goals as goal

pub returns-clause-spelled : goal.returns-clause-spelled
returns-clause-spelled c = tokens_are_spelled

pub returns-clause-in_order : goal.returns-clause-in_order
returns-clause-in_order c = tokens_stand_in_order
