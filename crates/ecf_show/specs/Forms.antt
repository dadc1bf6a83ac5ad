-- How each form of expressions, calls, statements and blocks is written: one equation a form.
use Rattle.std.proofs.Common.{◌≡◌, ℕ, Bool, List, map, Option, Some, None, ap, sym, ◌∙◌}
use Rattle.std.specs.Option.{option_map}
use Rattle.ecf_lang.specs.declared.tree.Op.{Op}
use Rattle.ecf_lang.specs.declared.tree.Ty.{Ty}
use Rattle.ecf_lang.specs.declared.tree.Expr.{Expr, Expr-F, roll-Expr, fold-roll-Expr, map-Expr}
use Rattle.ecf_lang.specs.declared.tree.Expr.TheVariants as expr
use Rattle.ecf_lang.specs.declared.tree.CallExpr.{CallExpr, CallExpr-F, roll-CallExpr, fold-roll-CallExpr, map-CallExpr}
use Rattle.ecf_lang.specs.declared.tree.CallExpr.TheVariants as call
use Rattle.ecf_lang.specs.declared.tree.Stmt.{Stmt, Stmt-F, roll-Stmt, fold-roll-Stmt, map-Stmt}
use Rattle.ecf_lang.specs.declared.tree.Stmt.TheVariants as stmt
use Rattle.ecf_lang.specs.declared.tree.Block.{Block, out-Block, roll-Block, fold_out-Block, out-roll-Block}
use Rattle.ecf_show.specs.Expressions.{Shown, ShownCall, shown, shown_call, expr_step, call_step}
use Rattle.ecf_show.specs.Statements.{Layout, stmt_marks, block_marks, stmt_step, block_step, braced}

expr_roll : (e : Expr-F CallExpr Expr) → shown (roll-Expr e) ≡ expr_step (map-Expr _ _ _ _ shown_call shown e)
unfolding shown shown_call
expr_roll e = fold-roll-Expr ShownCall Shown call_step expr_step e

call_roll : (c : CallExpr-F CallExpr Expr) → shown_call (roll-CallExpr c) ≡ call_step (map-CallExpr _ _ _ _ shown_call shown c)
unfolding shown shown_call
call_roll c = fold-roll-CallExpr ShownCall Shown call_step expr_step c

pub shown_number : (at value : ℕ) → shown (expr.Number at value) ≡ expr_step (Expr-F.Number at value)
shown_number at value = ap shown (sym (expr.rolls-Number at value)) ∙ expr_roll _

pub shown_flag : (at : ℕ) (value : Bool) → shown (expr.Flag at value) ≡ expr_step (Expr-F.Flag at value)
shown_flag at value = ap shown (sym (expr.rolls-Flag at value)) ∙ expr_roll _

pub shown_here : (at : ℕ) → shown (expr.Here at) ≡ expr_step (Expr-F.Here at)
shown_here at = ap shown (sym (expr.rolls-Here at)) ∙ expr_roll _

pub shown_name : (at : ℕ) (name : List ℕ) → shown (expr.Name at name) ≡ expr_step (Expr-F.Name at name)
shown_name at name = ap shown (sym (expr.rolls-Name at name)) ∙ expr_roll _

pub shown_at : (at : ℕ) (name : List ℕ) (key : Expr) → shown (expr.At at name key) ≡ expr_step (Expr-F.At at name (shown key))
shown_at at name key = ap shown (sym (expr.rolls-At at name key)) ∙ expr_roll _

pub shown_called : (c : CallExpr) → shown (expr.Call c) ≡ expr_step (Expr-F.Call (shown_call c))
shown_called c = ap shown (sym (expr.rolls-Call c)) ∙ expr_roll _

pub shown_not : (at : ℕ) (inner : Expr) → shown (expr.Not at inner) ≡ expr_step (Expr-F.Not at (shown inner))
shown_not at inner = ap shown (sym (expr.rolls-Not at inner)) ∙ expr_roll _

pub shown_product : (first : Expr) (rest : List (Op × Expr)) → shown (expr.Product first rest) ≡ expr_step (Expr-F.Product (shown first) (map (λ p. (p.0, shown p.1)) rest))
shown_product first rest = ap shown (sym (expr.rolls-Product first rest)) ∙ expr_roll _

pub shown_sum : (first : Expr) (rest : List (Op × Expr)) → shown (expr.Sum first rest) ≡ expr_step (Expr-F.Sum (shown first) (map (λ p. (p.0, shown p.1)) rest))
shown_sum first rest = ap shown (sym (expr.rolls-Sum first rest)) ∙ expr_roll _

pub shown_compare : (left : Expr) (op : Op) (right : Expr) → shown (expr.Compare left op right) ≡ expr_step (Expr-F.Compare (shown left) op (shown right))
shown_compare left op right = ap shown (sym (expr.rolls-Compare left op right)) ∙ expr_roll _

pub shown_and : (parts : List Expr) → shown (expr.And parts) ≡ expr_step (Expr-F.And (map shown parts))
shown_and parts = ap shown (sym (expr.rolls-And parts)) ∙ expr_roll _

pub shown_or : (parts : List Expr) → shown (expr.Or parts) ≡ expr_step (Expr-F.Or (map shown parts))
shown_or parts = ap shown (sym (expr.rolls-Or parts)) ∙ expr_roll _

pub shown_external : (at : ℕ) (target : Expr) (name_at : ℕ) (name : List ℕ) (args : List Expr) → shown_call (call.External at target name_at name args) ≡ call_step (CallExpr-F.External at (shown target) name_at name (map shown args))
shown_external at target name_at name args = ap shown_call (sym (call.rolls-External at target name_at name args)) ∙ call_roll _

pub shown_internal : (at name_at : ℕ) (name : List ℕ) (args : List Expr) → shown_call (call.Internal at name_at name args) ≡ call_step (CallExpr-F.Internal at name_at name (map shown args))
shown_internal at name_at name args = ap shown_call (sym (call.rolls-Internal at name_at name args)) ∙ call_roll _

stmt_roll : (s : Stmt-F Stmt Block) → stmt_marks (roll-Stmt s) ≡ stmt_step (map-Stmt _ _ _ _ stmt_marks block_marks s)
unfolding stmt_marks block_marks
stmt_roll s = fold-roll-Stmt Layout Layout stmt_step block_step s

pub marks_let : (at : ℕ) (name : List ℕ) (ty : Ty) (e : Expr) (depth : ℕ) → stmt_marks (stmt.Let at name ty e) depth ≡ stmt_step (Stmt-F.Let at name ty e) depth
marks_let at name ty e depth = ap (λ s. stmt_marks s depth) (sym (stmt.rolls-Let at name ty e)) ∙ ap (λ f. f depth) (stmt_roll _)

pub marks_try : (at : ℕ) (name : List ℕ) (ty : Ty) (c : CallExpr) (depth : ℕ) → stmt_marks (stmt.Try at name ty c) depth ≡ stmt_step (Stmt-F.Try at name ty c) depth
marks_try at name ty c depth = ap (λ s. stmt_marks s depth) (sym (stmt.rolls-Try at name ty c)) ∙ ap (λ f. f depth) (stmt_roll _)

pub marks_set : (at : ℕ) (name : List ℕ) (e : Expr) (depth : ℕ) → stmt_marks (stmt.Set at name e) depth ≡ stmt_step (Stmt-F.Set at name e) depth
marks_set at name e depth = ap (λ s. stmt_marks s depth) (sym (stmt.rolls-Set at name e)) ∙ ap (λ f. f depth) (stmt_roll _)

pub marks_set_at : (at : ℕ) (name : List ℕ) (key e : Expr) (depth : ℕ) → stmt_marks (stmt.SetAt at name key e) depth ≡ stmt_step (Stmt-F.SetAt at name key e) depth
marks_set_at at name key e depth = ap (λ s. stmt_marks s depth) (sym (stmt.rolls-SetAt at name key e)) ∙ ap (λ f. f depth) (stmt_roll _)

pub marks_while : (cond : Expr) (body : Block) (depth : ℕ) → stmt_marks (stmt.While cond body) depth ≡ stmt_step (Stmt-F.While cond (block_marks body)) depth
marks_while cond body depth = ap (λ s. stmt_marks s depth) (sym (stmt.rolls-While cond body)) ∙ ap (λ f. f depth) (stmt_roll _)

pub marks_return : (e : Expr) (depth : ℕ) → stmt_marks (stmt.Return e) depth ≡ stmt_step (Stmt-F.Return e) depth
marks_return e depth = ap (λ s. stmt_marks s depth) (sym (stmt.rolls-Return e)) ∙ ap (λ f. f depth) (stmt_roll _)

pub marks_revert : (e : Expr) (depth : ℕ) → stmt_marks (stmt.Revert e) depth ≡ stmt_step (Stmt-F.Revert e) depth
marks_revert e depth = ap (λ s. stmt_marks s depth) (sym (stmt.rolls-Revert e)) ∙ ap (λ f. f depth) (stmt_roll _)

pub marks_do : (c : CallExpr) (depth : ℕ) → stmt_marks (stmt.Do c) depth ≡ stmt_step (Stmt-F.Do c) depth
marks_do c depth = ap (λ s. stmt_marks s depth) (sym (stmt.rolls-Do c)) ∙ ap (λ f. f depth) (stmt_roll _)

pub marks_if : (arms : List (Expr × Block)) (last : Option Block) (depth : ℕ) → stmt_marks (stmt.If arms last) depth ≡ stmt_step (Stmt-F.If (map (λ arm. (arm.0, block_marks arm.1)) arms) (option_map block_marks last)) depth
marks_if arms None depth = ap (λ s. stmt_marks s depth) (sym (stmt.rolls-If arms None)) ∙ ap (λ f. f depth) (stmt_roll _)
marks_if arms (Some last) depth = ap (λ s. stmt_marks s depth) (sym (stmt.rolls-If arms (Some last))) ∙ ap (λ f. f depth) (stmt_roll _)

pub marks_block : (b : Block) (depth : ℕ) → block_marks b depth ≡ braced depth (map stmt_marks (out-Block b).stmts)
unfolding stmt_marks block_marks
marks_block b depth = ap (λ f. f depth) (fold_out-Block Layout Layout stmt_step block_step b)

pub marks_rolled : (stmts : List Stmt) (depth : ℕ) → block_marks (roll-Block (record { stmts = stmts })) depth ≡ braced depth (map stmt_marks stmts)
marks_rolled stmts depth = marks_block (roll-Block (record { stmts = stmts })) depth ∙ ap (λ b. braced depth (map stmt_marks b.stmts)) (out-roll-Block _)
