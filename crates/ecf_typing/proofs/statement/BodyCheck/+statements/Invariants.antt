use Rattle.std.proofs.Common.{◌≡◌, map, drop}
use Rattle.ecf_lang.specs.declared.tree.Stmt.TheVariants as tree
use Rattle.ecf_faults.specs.Statements.{sequence_of}
use Rattle.ecf_typing.specs.Passes.{stmt_at, arm_at, locals_of}
use Rattle.ecf_typing.proofs.StatementLaws.{Continues}
use Rattle.ecf_typing.proofs.statement.BodyCheck.+statements.Given as goal

-- the statements so far and those to come make up the whole
abbrev pub invariant-stmts-loop-stmt : goal.invariant-stmts-loop-stmt
invariant-stmts-loop-stmt l = Continues (sequence_of (map (stmt_at l.setting) l.stmts) (locals_of l.fn.self)) (map (stmt_at l.setting) (drop l.stmt-index l.stmts)) l.fn.self l.self l.made

-- the arms so far and those to come make up all
abbrev pub invariant-stmt-loop-cond : goal.invariant-stmt-loop-cond
invariant-stmt-loop-cond l = record {
  so_far : Continues (sequence_of (map (arm_at l.setting) l.cond-items) (locals_of l.fn.self)) (map (arm_at l.setting) (drop l.cond-index l.cond-items)) l.fn.self l.self l.made;
  is : l.fn.stmt ≡ tree.If l.cond-items l.last;
}
