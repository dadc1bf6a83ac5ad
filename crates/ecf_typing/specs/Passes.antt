-- What the check of a part of a setting's body leaves.
use Rattle.std.specs.Prelude.{◌≡◌, Option}
use Rattle.std.specs.Option.{option_map}
use Rattle.ecf_lang.specs.declared.tree.Stmt.{Stmt}
use Rattle.ecf_lang.specs.declared.tree.Block.{Block}
use Rattle.ecf_lang.specs.declared.tree.Expr.{Expr}
use Rattle.ecf_lang.specs.declared.typed.TypedExpr.{TypedExpr}
use Rattle.ecf_lang.specs.declared.typed.TypedStmt.{TypedStmt}
use Rattle.ecf_lang.specs.declared.typed.TypedBlock.{TypedBlock}
use Rattle.ecf_faults.specs.Tables.{Locals}
use Rattle.ecf_faults.specs.Statements.{Passage, Stretch, stmt_passage, block_passage, arm_step, last_step}
use Rattle.ecf_faults.specs.Least.{least_with}
use Rattle.ecf_typing.specs.declared.statement.BodyCheck.{BodyCheck}
use Rattle.ecf_typing.specs.declared.statement.Setting.{Setting}
use Rattle.ecf_typing.specs.Views.{contents_of, view_of}

-- the locals in the middle of a method's body
abbrev pub locals_of : BodyCheck → Locals
locals_of check = record { visible = contents_of check.visible; next = check.next }

-- a stretch was gone through: its form was made, its faults were noted, and the locals are those behind it
pub record Passes {Form : Type 0} (p : Passage Form) (old new : BodyCheck) (form : Form) : Type 0 where
  pub made : form ≡ p.form
  pub noted : new.faults.first ≡ least_with old.faults.first p.faults
  pub after : locals_of new ≡ p.after

abbrev pub stmt_at : Setting → Stmt → Stretch TypedStmt
stmt_at setting stmt = stmt_passage (view_of setting.around.now) setting.answer stmt

abbrev pub block_at : Setting → Block → Stretch TypedBlock
block_at setting block = block_passage (view_of setting.around.now) setting.answer block

abbrev pub arm_at : Setting → Expr × Block → Stretch (TypedExpr × TypedBlock)
arm_at setting arm = arm_step (view_of setting.around.now) setting.answer (arm.0, block_at setting arm.1)

abbrev pub last_at : Setting → Option Block → Stretch (Option TypedBlock)
last_at setting last = last_step (view_of setting.around.now) setting.answer (option_map (block_at setting) last)
