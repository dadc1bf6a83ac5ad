use Rattle.std.proofs.Common.{◌++◌, take}
use Rattle.std.specs.List.{flat_map}
use Rattle.ecf_grammar.specs.declared.tokens.Sign.TheVariants.{And, Or}
use Rattle.ecf_show.specs.declared.levels.TheConstants.{AND, COMPARE}
use Rattle.ecf_show.specs.Marks.{Wrote, spaced, comma}
use Rattle.ecf_show.specs.Expressions.{shown, expr_marks, part, further_part}
use Rattle.ecf_show.proofs.expressions.+expressions.Given as goal

-- the further parts so far
abbrev pub invariant-write_further-loop-op : goal.invariant-write_further-loop-op
invariant-write_further-loop-op l = Wrote l.initial.text.items l.text.items (flat_map (λ p. further_part l.fn.required (p.0, shown p.1)) (take l.op-index l.rest))

-- the further parts so far
abbrev pub invariant-write_conjunction-loop-expr : goal.invariant-write_conjunction-loop-expr
invariant-write_conjunction-loop-expr l = Wrote l.initial.text.items l.text.items (flat_map (λ e. spaced And ++ part COMPARE (shown e)) (take l.expr-index l.rest))

-- the further parts so far
abbrev pub invariant-write_disjunction-loop-expr : goal.invariant-write_disjunction-loop-expr
invariant-write_disjunction-loop-expr l = Wrote l.initial.text.items l.text.items (flat_map (λ e. spaced Or ++ part AND (shown e)) (take l.expr-index l.rest))

-- the further arguments so far
abbrev pub invariant-write_arguments-loop-arg : goal.invariant-write_arguments-loop-arg
invariant-write_arguments-loop-arg l = Wrote l.initial.text.items l.text.items (flat_map (λ arg. comma ++ expr_marks arg) (take l.arg-index l.rest))
