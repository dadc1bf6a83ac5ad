use Rattle.std.proofs.Common.{◌≡◌, ◌≤◌, length, ◌+◌, ◌*◌}
use Rattle.ecf_grammar.specs.declared.tokens.Sign.TheVariants as signs
use Rattle.ecf_parser.specs.Descent as spec
use Rattle.ecf_parser.specs.Parsers as reading
use Rattle.ecf_parser.proofs.StatementLoopLaws.{behind_arms}
use Rattle.ecf_parser.proofs.cursor.Cursor.+blocks.Given as goal

-- the tokens that are left, and how many lines are below one where none was read
abbrev pub decreases-stmts : goal.decreases-stmts
decreases-stmts l = 4 * length l.self.now + 2

abbrev pub decreases-stmt : goal.decreases-stmt
decreases-stmt l = 4 * length l.self.now + 1

abbrev pub decreases-if_stmt : goal.decreases-if_stmt
decreases-if_stmt l = 4 * length l.self.now

abbrev pub decreases-while_stmt : goal.decreases-while_stmt
decreases-while_stmt l = 4 * length l.self.now

abbrev pub decreases-elses : goal.decreases-elses
decreases-elses l = 4 * length l.self.now

abbrev pub decreases-arm : goal.decreases-arm
decreases-arm l = 4 * length l.self.now

abbrev pub decreases-block : goal.decreases-block
decreases-block l = 4 * length l.self.now

abbrev pub invariant-elses-arms : goal.invariant-elses-arms
invariant-elses-arms l = record { same : behind_arms l.arms (spec.elses spec.block l.self) ≡ spec.elses spec.block l.fn.self; no_more : length l.self ≤ length l.fn.self }

abbrev pub decreases-elses-arms : goal.decreases-elses-arms
decreases-elses-arms l = length l.self

abbrev pub invariant-stmts-statements : goal.invariant-stmts-statements
invariant-stmts-statements l = record { same : reading.front l.stmts (reading.until (reading.is_sign signs.CloseBrace) (spec.stmt spec.block) l.self) ≡ reading.until (reading.is_sign signs.CloseBrace) (spec.stmt spec.block) l.fn.self; no_more : length l.self ≤ length l.fn.self }

abbrev pub decreases-stmts-statements : goal.decreases-stmts-statements
decreases-stmts-statements l = length l.self
