use Rattle.ecf_grammar.proofs.LexemeLaws.{lexemes_begin_apart}
use Rattle.ecf_grammar.proofs.laws.lexemes_begin_apart.Goals as goal

pub returns : goal.returns
returns c = lexemes_begin_apart
