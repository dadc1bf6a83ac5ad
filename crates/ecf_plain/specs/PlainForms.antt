-- Which forms have no call in them: one equation a form.
use Rattle.std.proofs.Common.{◌≡◌, ℕ, Bool, true, false, List, map, Option, Some, None, refl, ap, sym, ◌∙◌}
use Rattle.std.specs.Prelude.{◌&&◌}
use Rattle.std.specs.Option.{option_map}
use Rattle.ecf_lang.specs.declared.tree.Op.{Op}
use Rattle.ecf_lang.specs.declared.tree.Ty.{Ty}
use Rattle.ecf_lang.specs.declared.typed.Place.{Place}
use Rattle.ecf_lang.specs.declared.typed.Assignee.{Assignee}
use Rattle.ecf_lang.specs.declared.typed.TypedExpr.{TypedExpr, TypedExpr-F, roll-TypedExpr, fold-roll-TypedExpr, map-TypedExpr}
use Rattle.ecf_lang.specs.declared.typed.TypedExpr.TheVariants as expr
use Rattle.ecf_lang.specs.declared.typed.TypedCall.{TypedCall, fold-TypedCall}
use Rattle.ecf_lang.specs.declared.typed.TypedCall.TheVariants as call
use Rattle.ecf_lang.specs.declared.typed.TypedStmt.{TypedStmt, TypedStmt-F, roll-TypedStmt, fold-roll-TypedStmt, map-TypedStmt}
use Rattle.ecf_lang.specs.declared.typed.TypedStmt.TheVariants as stmt
use Rattle.ecf_lang.specs.declared.typed.TypedBlock.{TypedBlock, out-TypedBlock, fold_out-TypedBlock}
use Rattle.ecf_plain.specs.Plain.{every, every_part, every_arm, last_plain, plain_call, plain_expr, plain_stmt, plain_block, is_plain, are_plain, parts_plain, is_plain_stmt, is_plain_block, arms_plain}

abbrev call_is : TypedCall → Bool
call_is c = fold-TypedCall Bool Bool plain_call plain_expr c

plain_roll : (e : TypedExpr-F TypedCall TypedExpr) → is_plain (roll-TypedExpr e) ≡ plain_expr (map-TypedExpr _ _ _ _ call_is is_plain e)
unfolding is_plain
plain_roll e = fold-roll-TypedExpr Bool Bool plain_call plain_expr e

pub plain_number : (v : ℕ) → is_plain (expr.Number v) ≡ true
plain_number v = ap is_plain (sym (expr.rolls-Number v)) ∙ plain_roll _

pub plain_flag : (b : Bool) → is_plain (expr.Flag b) ≡ true
plain_flag b = ap is_plain (sym (expr.rolls-Flag b)) ∙ plain_roll _

pub plain_here : is_plain expr.Here ≡ true
plain_here = ap is_plain (sym expr.rolls-Here) ∙ plain_roll _

pub plain_name : (place : Place) → is_plain (expr.Name place) ≡ true
plain_name place = ap is_plain (sym (expr.rolls-Name place)) ∙ plain_roll _

pub plain_at : (field : ℕ) (key : TypedExpr) → is_plain (expr.At field key) ≡ is_plain key
plain_at field key = ap is_plain (sym (expr.rolls-At field key)) ∙ plain_roll _

pub plain_not : (e : TypedExpr) → is_plain (expr.Not e) ≡ is_plain e
plain_not e = ap is_plain (sym (expr.rolls-Not e)) ∙ plain_roll _

pub plain_sum : (first : TypedExpr) (rest : List (Op × TypedExpr)) → is_plain (expr.Sum first rest) ≡ is_plain first && parts_plain rest
plain_sum first rest = ap is_plain (sym (expr.rolls-Sum first rest)) ∙ plain_roll _

pub plain_product : (first : TypedExpr) (rest : List (Op × TypedExpr)) → is_plain (expr.Product first rest) ≡ is_plain first && parts_plain rest
plain_product first rest = ap is_plain (sym (expr.rolls-Product first rest)) ∙ plain_roll _

pub plain_compare : (left : TypedExpr) (op : Op) (right : TypedExpr) → is_plain (expr.Compare left op right) ≡ is_plain left && is_plain right
plain_compare left op right = ap is_plain (sym (expr.rolls-Compare left op right)) ∙ plain_roll _

pub plain_and : (parts : List TypedExpr) → is_plain (expr.And parts) ≡ are_plain parts
plain_and parts = ap is_plain (sym (expr.rolls-And parts)) ∙ plain_roll _

pub plain_or : (parts : List TypedExpr) → is_plain (expr.Or parts) ≡ are_plain parts
plain_or parts = ap is_plain (sym (expr.rolls-Or parts)) ∙ plain_roll _

-- a call isn't plain
pub call_not_plain : (c : TypedCall) → is_plain (expr.Call c) ≡ false
call_not_plain c = ap is_plain (sym (expr.rolls-Call c)) ∙ plain_roll _

stmt_roll : (t : TypedStmt-F TypedStmt TypedBlock) → is_plain_stmt (roll-TypedStmt t) ≡ plain_stmt (map-TypedStmt _ _ _ _ is_plain_stmt is_plain_block t)
unfolding is_plain_stmt is_plain_block
stmt_roll t = fold-roll-TypedStmt Bool Bool plain_stmt plain_block t

pub plain_let : (n : ℕ) (ty : Ty) (e : TypedExpr) → is_plain_stmt (stmt.Let n ty e) ≡ is_plain e
plain_let n ty e = ap is_plain_stmt (sym (stmt.rolls-Let n ty e)) ∙ stmt_roll _

pub try_not_plain : (n : ℕ) (target : TypedExpr) (name : ℕ) (args : List TypedExpr) → is_plain_stmt (stmt.Try n target name args) ≡ false
try_not_plain n target name args = ap is_plain_stmt (sym (stmt.rolls-Try n target name args)) ∙ stmt_roll _

pub plain_set : (to : Assignee) (e : TypedExpr) → is_plain_stmt (stmt.Set to e) ≡ is_plain e
plain_set to e = ap is_plain_stmt (sym (stmt.rolls-Set to e)) ∙ stmt_roll _

pub plain_set_at : (field : ℕ) (key e : TypedExpr) → is_plain_stmt (stmt.SetAt field key e) ≡ is_plain key && is_plain e
plain_set_at field key e = ap is_plain_stmt (sym (stmt.rolls-SetAt field key e)) ∙ stmt_roll _

pub plain_while : (cond : TypedExpr) (body : TypedBlock) → is_plain_stmt (stmt.While cond body) ≡ is_plain cond && is_plain_block body
plain_while cond body = ap is_plain_stmt (sym (stmt.rolls-While cond body)) ∙ stmt_roll _

pub plain_return : (e : TypedExpr) → is_plain_stmt (stmt.Return e) ≡ is_plain e
plain_return e = ap is_plain_stmt (sym (stmt.rolls-Return e)) ∙ stmt_roll _

pub plain_revert : (e : TypedExpr) → is_plain_stmt (stmt.Revert e) ≡ is_plain e
plain_revert e = ap is_plain_stmt (sym (stmt.rolls-Revert e)) ∙ stmt_roll _

pub do_not_plain : (c : TypedCall) → is_plain_stmt (stmt.Do c) ≡ false
do_not_plain c = ap is_plain_stmt (sym (stmt.rolls-Do c)) ∙ stmt_roll _

pub plain_if : (arms : List (TypedExpr × TypedBlock)) (last : Option TypedBlock) → is_plain_stmt (stmt.If arms last) ≡ arms_plain arms && last_plain (option_map is_plain_block last)
plain_if arms None = ap is_plain_stmt (sym (stmt.rolls-If arms None)) ∙ stmt_roll _
plain_if arms (Some last) = ap is_plain_stmt (sym (stmt.rolls-If arms (Some last))) ∙ stmt_roll _

pub plain_block_is : (b : TypedBlock) → is_plain_block b ≡ every (map is_plain_stmt (out-TypedBlock b).stmts)
unfolding is_plain_stmt is_plain_block
plain_block_is b = fold_out-TypedBlock Bool Bool plain_stmt plain_block b
