use Rattle.std.proofs.Common.{◌≡◌, map, drop}
use Rattle.ecf_plain.specs.Plain.{every, is_plain_stmt, arms_plain}
use Rattle.ecf_plain.proofs.plain.+plain_statements.Given as goal

-- those so far have no call in them
abbrev pub invariant-stmt_is_plain-loop-cond : goal.invariant-stmt_is_plain-loop-cond
invariant-stmt_is_plain-loop-cond l = arms_plain l.cond-items ≡ arms_plain (drop l.cond-index l.cond-items)

abbrev pub invariant-block_is_plain-loop-stmt : goal.invariant-block_is_plain-loop-stmt
invariant-block_is_plain-loop-stmt l = every (map is_plain_stmt l.stmt-items) ≡ every (map is_plain_stmt (drop l.stmt-index l.stmt-items))
