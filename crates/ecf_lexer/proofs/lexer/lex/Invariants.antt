use Rattle.std.proofs.Common.{length, ◌-◌}
use Rattle.ecf_lexer.specs.Progress.{ReadsTo}
use Rattle.ecf_lexer.proofs.lexer.lex.Given as goal

abbrev pub invariant-loop-at : goal.invariant-loop-at
invariant-loop-at l = ReadsTo l.source l.tokens.items l.at

abbrev pub decreases-loop-at : goal.decreases-loop-at
decreases-loop-at l = length l.source - l.at
