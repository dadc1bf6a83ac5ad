use Rattle.std.proofs.Common.{◌≡◌, ◌<◌, ◌≤◌, length, ◌+◌, ◌*◌}
use Rattle.ecf_grammar.specs.declared.tokens.Sign.TheVariants as signs
use Rattle.ecf_grammar.specs.Spells as grammar
use Rattle.ecf_parser.specs.Descent as spec
use Rattle.ecf_parser.specs.Parsers as reading
use Rattle.ecf_parser.proofs.cursor.Cursor.+expressions.Given as goal

-- the tokens that are left, and how many lines are below one where none was read
abbrev pub decreases-expr : goal.decreases-expr
decreases-expr l = 16 * length l.self.now + 11

abbrev pub decreases-both : goal.decreases-both
decreases-both l = 16 * length l.self.now + 10

abbrev pub decreases-comparison : goal.decreases-comparison
decreases-comparison l = 16 * length l.self.now + 9

abbrev pub decreases-sum : goal.decreases-sum
decreases-sum l = 16 * length l.self.now + 8

abbrev pub decreases-product : goal.decreases-product
decreases-product l = 16 * length l.self.now + 7

abbrev pub decreases-unary : goal.decreases-unary
decreases-unary l = 16 * length l.self.now + 6

abbrev pub decreases-atom : goal.decreases-atom
decreases-atom l = 16 * length l.self.now + 5

abbrev pub decreases-external : goal.decreases-external
decreases-external l = 16 * length l.self.now + 4

abbrev pub decreases-target : goal.decreases-target
decreases-target l = 16 * length l.self.now + 3

abbrev pub decreases-invoke : goal.decreases-invoke
decreases-invoke l = 16 * length l.self.now + 3

abbrev pub decreases-arguments : goal.decreases-arguments
decreases-arguments l = 16 * length l.self.now + 2

abbrev pub decreases-exprs : goal.decreases-exprs
decreases-exprs l = 16 * length l.self.now + 12

abbrev pub decreases-ors : goal.decreases-ors
decreases-ors l = 16 * length l.self.now

abbrev pub decreases-ands : goal.decreases-ands
decreases-ands l = 16 * length l.self.now

abbrev pub decreases-terms : goal.decreases-terms
decreases-terms l = 16 * length l.self.now

abbrev pub decreases-factors : goal.decreases-factors
decreases-factors l = 16 * length l.self.now

abbrev pub invariant-ors-parts : goal.invariant-ors-parts
invariant-ors-parts l = record { same : reading.front l.rest (reading.each signs.Or (spec.both spec.expr) l.self) ≡ reading.each signs.Or (spec.both spec.expr) l.fn.self; no_more : length l.self ≤ length l.fn.self }

abbrev pub decreases-ors-parts : goal.decreases-ors-parts
decreases-ors-parts l = length l.self

abbrev pub invariant-ands-parts : goal.invariant-ands-parts
invariant-ands-parts l = record { same : reading.front l.rest (reading.each signs.And (spec.comparison spec.expr) l.self) ≡ reading.each signs.And (spec.comparison spec.expr) l.fn.self; no_more : length l.self ≤ length l.fn.self }

abbrev pub decreases-ands-parts : goal.decreases-ands-parts
decreases-ands-parts l = length l.self

abbrev pub invariant-terms-terms : goal.invariant-terms-terms
invariant-terms-terms l = record { same : reading.front l.rest (reading.chain grammar.sum_op (spec.product spec.expr) l.self) ≡ reading.chain grammar.sum_op (spec.product spec.expr) l.fn.self; no_more : length l.self ≤ length l.fn.self }

abbrev pub decreases-terms-terms : goal.decreases-terms-terms
decreases-terms-terms l = length l.self

abbrev pub invariant-factors-factors : goal.invariant-factors-factors
invariant-factors-factors l = record { same : reading.front l.rest (reading.chain grammar.product_op (spec.unary spec.expr) l.self) ≡ reading.chain grammar.product_op (spec.unary spec.expr) l.fn.self; no_more : length l.self ≤ length l.fn.self }

abbrev pub decreases-factors-factors : goal.decreases-factors-factors
decreases-factors-factors l = length l.self

abbrev pub invariant-exprs-further : goal.invariant-exprs-further
invariant-exprs-further l = record { same : reading.front l.args (reading.each signs.Comma spec.expr l.self) ≡ reading.list_of signs.Comma signs.CloseParen spec.expr l.fn.self; fewer : length l.self < length l.fn.self }

abbrev pub decreases-exprs-further : goal.decreases-exprs-further
decreases-exprs-further l = length l.self
