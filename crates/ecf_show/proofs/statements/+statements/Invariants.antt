use Rattle.std.proofs.Common.{◌≡◌, ◌∷◌, take}
use Rattle.std.specs.List.{flat_map}
use Rattle.ecf_lang.specs.declared.tree.Stmt.TheVariants as stmt
use Rattle.ecf_show.specs.Marks.{Wrote}
use Rattle.ecf_show.specs.Marks.Mark.{Line}
use Rattle.ecf_show.specs.Statements.{stmt_marks}
use Rattle.ecf_show.proofs.StatementLaws.{Arms}
use Rattle.ecf_show.proofs.statements.+statements.Given as goal

-- the lines so far
abbrev pub invariant-write_lines-loop-stmt : goal.invariant-write_lines-loop-stmt
invariant-write_lines-loop-stmt l = Wrote l.initial.text.items l.text.items (flat_map (λ s. Line l.fn.depth ∷ stmt_marks s l.fn.depth) (take l.stmt-index l.stmts))

-- the arms so far, and what goes before the next one
abbrev pub invariant-write_stmt-loop-cond : goal.invariant-write_stmt-loop-cond
invariant-write_stmt-loop-cond l = record {
  is : l.fn.stmt ≡ stmt.If l.cond-items l.last;
  arms : Arms l.cond-items l.fn.depth l.cond-index l.opening l.fn.text.items l.text.items;
}
