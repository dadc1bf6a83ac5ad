use Rattle.std.proofs.Common.{◌≡◌, drop}
use Rattle.ecf_plain.specs.Plain.{are_plain, parts_plain}
use Rattle.ecf_plain.proofs.plain.+plain_expressions.Given as goal

-- those so far have no call in them
abbrev pub invariant-further_are_plain-loop-part : goal.invariant-further_are_plain-loop-part
invariant-further_are_plain-loop-part l = parts_plain l.parts ≡ parts_plain (drop l.part-index l.parts)

abbrev pub invariant-exprs_are_plain-loop-expr : goal.invariant-exprs_are_plain-loop-expr
invariant-exprs_are_plain-loop-expr l = are_plain l.exprs ≡ are_plain (drop l.expr-index l.exprs)
