-- What each form of expressions, calls, statements and blocks comes to: one equation a form.
use Rattle.std.proofs.Common.{◌≡◌, ℕ, Bool, List, map, Option, Some, None, ap, sym, ◌∙◌}
use Rattle.std.specs.Option.{option_map}
use Rattle.ecf_lang.specs.declared.tree.Op.{Op}
use Rattle.ecf_lang.specs.declared.tree.Ty.{Ty}
use Rattle.ecf_lang.specs.declared.tree.Expr.{Expr, Expr-F, roll-Expr, fold-roll-Expr, map-Expr}
use Rattle.ecf_lang.specs.declared.tree.Expr.TheVariants as expr
use Rattle.ecf_lang.specs.declared.tree.CallExpr.{CallExpr, CallExpr-F, roll-CallExpr, fold-roll-CallExpr, map-CallExpr}
use Rattle.ecf_lang.specs.declared.tree.CallExpr.TheVariants as call
use Rattle.ecf_lang.specs.declared.tree.Stmt.{Stmt, Stmt-F, roll-Stmt, fold-roll-Stmt, map-Stmt}
use Rattle.ecf_lang.specs.declared.tree.Stmt.TheVariants as stmt
use Rattle.ecf_lang.specs.declared.tree.Block.{Block, out-Block, roll-Block, fold_out-Block, out-roll-Block}
use Rattle.ecf_lang.specs.declared.typed.TypedExpr.{TypedExpr}
use Rattle.ecf_lang.specs.declared.typed.TypedCall.{TypedCall}
use Rattle.ecf_lang.specs.declared.typed.TypedStmt.{TypedStmt}
use Rattle.ecf_lang.specs.declared.typed.TypedBlock.{TypedBlock}
use Rattle.ecf_faults.specs.Tables.{Table, Surroundings, Locals}
use Rattle.ecf_faults.specs.Expressions.{Report, report_of, call_report_of, expr_step, call_step}
use Rattle.ecf_faults.specs.Statements.{Stretch, stmt_passage, block_passage, stmt_step, block_step, block_end, sequence_of}

module _ (around : Surroundings) (visible : Table (ℕ × Ty)) where
  abbrev report : Expr → Report TypedExpr
  report e = report_of around visible e

  abbrev call_report : CallExpr → Report TypedCall
  call_report c = call_report_of around visible c

  expr_roll : (e : Expr-F CallExpr Expr) → report_of around visible (roll-Expr e) ≡ expr_step around visible (map-Expr _ _ _ _ call_report report e)
  unfolding report_of call_report_of
  expr_roll e = fold-roll-Expr (Report TypedCall) (Report TypedExpr) (call_step around) (expr_step around visible) e

  call_roll : (c : CallExpr-F CallExpr Expr) → call_report_of around visible (roll-CallExpr c) ≡ call_step around (map-CallExpr _ _ _ _ call_report report c)
  unfolding report_of call_report_of
  call_roll c = fold-roll-CallExpr (Report TypedCall) (Report TypedExpr) (call_step around) (expr_step around visible) c

  pub report_number : (at value : ℕ) → report_of around visible (expr.Number at value) ≡ expr_step around visible (Expr-F.Number at value)
  report_number at value = ap report (sym (expr.rolls-Number at value)) ∙ expr_roll _

  pub report_flag : (at : ℕ) (value : Bool) → report_of around visible (expr.Flag at value) ≡ expr_step around visible (Expr-F.Flag at value)
  report_flag at value = ap report (sym (expr.rolls-Flag at value)) ∙ expr_roll _

  pub report_here : (at : ℕ) → report_of around visible (expr.Here at) ≡ expr_step around visible (Expr-F.Here at)
  report_here at = ap report (sym (expr.rolls-Here at)) ∙ expr_roll _

  pub report_name : (at : ℕ) (name : List ℕ) → report_of around visible (expr.Name at name) ≡ expr_step around visible (Expr-F.Name at name)
  report_name at name = ap report (sym (expr.rolls-Name at name)) ∙ expr_roll _

  pub report_at : (at : ℕ) (name : List ℕ) (key : Expr) → report_of around visible (expr.At at name key) ≡ expr_step around visible (Expr-F.At at name (report key))
  report_at at name key = ap report (sym (expr.rolls-At at name key)) ∙ expr_roll _

  pub report_call : (c : CallExpr) → report_of around visible (expr.Call c) ≡ expr_step around visible (Expr-F.Call (call_report c))
  report_call c = ap report (sym (expr.rolls-Call c)) ∙ expr_roll _

  pub report_not : (at : ℕ) (inner : Expr) → report_of around visible (expr.Not at inner) ≡ expr_step around visible (Expr-F.Not at (report inner))
  report_not at inner = ap report (sym (expr.rolls-Not at inner)) ∙ expr_roll _

  pub report_product : (first : Expr) (rest : List (Op × Expr)) → report_of around visible (expr.Product first rest) ≡ expr_step around visible (Expr-F.Product (report first) (map (λ part. (part.0, report part.1)) rest))
  report_product first rest = ap report (sym (expr.rolls-Product first rest)) ∙ expr_roll _

  pub report_sum : (first : Expr) (rest : List (Op × Expr)) → report_of around visible (expr.Sum first rest) ≡ expr_step around visible (Expr-F.Sum (report first) (map (λ part. (part.0, report part.1)) rest))
  report_sum first rest = ap report (sym (expr.rolls-Sum first rest)) ∙ expr_roll _

  pub report_compare : (left : Expr) (op : Op) (right : Expr) → report_of around visible (expr.Compare left op right) ≡ expr_step around visible (Expr-F.Compare (report left) op (report right))
  report_compare left op right = ap report (sym (expr.rolls-Compare left op right)) ∙ expr_roll _

  pub report_and : (parts : List Expr) → report_of around visible (expr.And parts) ≡ expr_step around visible (Expr-F.And (map report parts))
  report_and parts = ap report (sym (expr.rolls-And parts)) ∙ expr_roll _

  pub report_or : (parts : List Expr) → report_of around visible (expr.Or parts) ≡ expr_step around visible (Expr-F.Or (map report parts))
  report_or parts = ap report (sym (expr.rolls-Or parts)) ∙ expr_roll _

  pub report_external : (at : ℕ) (target : Expr) (name_at : ℕ) (name : List ℕ) (args : List Expr) → call_report_of around visible (call.External at target name_at name args) ≡ call_step around (CallExpr-F.External at (report target) name_at name (map report args))
  report_external at target name_at name args = ap call_report (sym (call.rolls-External at target name_at name args)) ∙ call_roll _

  pub report_internal : (at name_at : ℕ) (name : List ℕ) (args : List Expr) → call_report_of around visible (call.Internal at name_at name args) ≡ call_step around (CallExpr-F.Internal at name_at name (map report args))
  report_internal at name_at name args = ap call_report (sym (call.rolls-Internal at name_at name args)) ∙ call_roll _

module _ (around : Surroundings) (answer : Ty) where
  abbrev passage : Stmt → Stretch TypedStmt
  passage s = stmt_passage around answer s

  abbrev block : Block → Stretch TypedBlock
  block b = block_passage around answer b

  pub stmt_roll : (s : Stmt-F Stmt Block) → stmt_passage around answer (roll-Stmt s) ≡ stmt_step around answer (map-Stmt _ _ _ _ passage block s)
  unfolding stmt_passage block_passage
  stmt_roll s = fold-roll-Stmt (Stretch TypedStmt) (Stretch TypedBlock) (stmt_step around answer) (block_step around answer) s

  pub passage_let : (at : ℕ) (name : List ℕ) (ty : Ty) (e : Expr) (locals : Locals) → stmt_passage around answer (stmt.Let at name ty e) locals ≡ stmt_step around answer (Stmt-F.Let at name ty e) locals
  passage_let at name ty e locals = ap (λ s. passage s locals) (sym (stmt.rolls-Let at name ty e)) ∙ ap (λ f. f locals) (stmt_roll _)

  pub passage_try : (at : ℕ) (name : List ℕ) (ty : Ty) (c : CallExpr) (locals : Locals) → stmt_passage around answer (stmt.Try at name ty c) locals ≡ stmt_step around answer (Stmt-F.Try at name ty c) locals
  passage_try at name ty c locals = ap (λ s. passage s locals) (sym (stmt.rolls-Try at name ty c)) ∙ ap (λ f. f locals) (stmt_roll _)

  pub passage_set : (at : ℕ) (name : List ℕ) (e : Expr) (locals : Locals) → stmt_passage around answer (stmt.Set at name e) locals ≡ stmt_step around answer (Stmt-F.Set at name e) locals
  passage_set at name e locals = ap (λ s. passage s locals) (sym (stmt.rolls-Set at name e)) ∙ ap (λ f. f locals) (stmt_roll _)

  pub passage_set_at : (at : ℕ) (name : List ℕ) (key e : Expr) (locals : Locals) → stmt_passage around answer (stmt.SetAt at name key e) locals ≡ stmt_step around answer (Stmt-F.SetAt at name key e) locals
  passage_set_at at name key e locals = ap (λ s. passage s locals) (sym (stmt.rolls-SetAt at name key e)) ∙ ap (λ f. f locals) (stmt_roll _)

  pub passage_while : (cond : Expr) (body : Block) (locals : Locals) → stmt_passage around answer (stmt.While cond body) locals ≡ stmt_step around answer (Stmt-F.While cond (block body)) locals
  passage_while cond body locals = ap (λ s. passage s locals) (sym (stmt.rolls-While cond body)) ∙ ap (λ f. f locals) (stmt_roll _)

  pub passage_return : (e : Expr) (locals : Locals) → stmt_passage around answer (stmt.Return e) locals ≡ stmt_step around answer (Stmt-F.Return e) locals
  passage_return e locals = ap (λ s. passage s locals) (sym (stmt.rolls-Return e)) ∙ ap (λ f. f locals) (stmt_roll _)

  pub passage_revert : (e : Expr) (locals : Locals) → stmt_passage around answer (stmt.Revert e) locals ≡ stmt_step around answer (Stmt-F.Revert e) locals
  passage_revert e locals = ap (λ s. passage s locals) (sym (stmt.rolls-Revert e)) ∙ ap (λ f. f locals) (stmt_roll _)

  pub passage_do : (c : CallExpr) (locals : Locals) → stmt_passage around answer (stmt.Do c) locals ≡ stmt_step around answer (Stmt-F.Do c) locals
  passage_do c locals = ap (λ s. passage s locals) (sym (stmt.rolls-Do c)) ∙ ap (λ f. f locals) (stmt_roll _)

  pub passage_if : (arms : List (Expr × Block)) (last : Option Block) (locals : Locals) → stmt_passage around answer (stmt.If arms last) locals ≡ stmt_step around answer (Stmt-F.If (map (λ arm. (arm.0, block arm.1)) arms) (option_map block last)) locals
  passage_if arms None locals = ap (λ s. passage s locals) (sym (stmt.rolls-If arms None)) ∙ ap (λ f. f locals) (stmt_roll _)
  passage_if arms (Some last) locals = ap (λ s. passage s locals) (sym (stmt.rolls-If arms (Some last))) ∙ ap (λ f. f locals) (stmt_roll _)

  pub passage_block : (b : Block) (locals : Locals) → block_passage around answer b locals ≡ block_end locals (sequence_of (map passage (out-Block b).stmts) locals)
  unfolding stmt_passage block_passage
  passage_block b locals = ap (λ f. f locals) (fold_out-Block (Stretch TypedStmt) (Stretch TypedBlock) (stmt_step around answer) (block_step around answer) b)

  pub passage_rolled : (stmts : List Stmt) (locals : Locals) → block_passage around answer (roll-Block (record { stmts = stmts })) locals ≡ block_end locals (sequence_of (map passage stmts) locals)
  passage_rolled stmts locals = passage_block (roll-Block (record { stmts = stmts })) locals ∙ ap (λ b. block_end locals (sequence_of (map passage b.stmts) locals)) (out-roll-Block _)
