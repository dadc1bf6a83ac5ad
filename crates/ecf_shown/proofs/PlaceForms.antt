-- Each form of expressions, calls, statements and blocks with each place 0: one equation a form.
use Rattle.std.proofs.Common.{◌≡◌, ℕ, Bool, List, map, Option, Some, None, [], ◌∷◌, refl, ap, sym, ◌∙◌}
use Rattle.std.specs.Option.{option_map}
use Rattle.ecf_lang.specs.declared.tree.Op.{Op}
use Rattle.ecf_lang.specs.declared.tree.Ty.{Ty}
use Rattle.ecf_lang.specs.declared.tree.Expr.{Expr, Expr-F, roll-Expr, fold-roll-Expr, map-Expr}
use Rattle.ecf_lang.specs.declared.tree.Expr.TheVariants as expr
use Rattle.ecf_lang.specs.declared.tree.CallExpr.{CallExpr, CallExpr-F, roll-CallExpr, fold-roll-CallExpr, map-CallExpr}
use Rattle.ecf_lang.specs.declared.tree.CallExpr.TheVariants as call
use Rattle.ecf_lang.specs.declared.tree.Stmt.{Stmt, Stmt-F, roll-Stmt, fold-roll-Stmt, map-Stmt}
use Rattle.ecf_lang.specs.declared.tree.Stmt.TheVariants as stmt
use Rattle.ecf_lang.specs.declared.tree.Block.{Block, Block-F, roll-Block, fold-roll-Block, map-Block}
use Rattle.ecf_shown.specs.Places.{expr_without, call_without, stmt_without, block_without, expr_at_zero, call_at_zero, stmt_at_zero}

expr_roll : (e : Expr-F CallExpr Expr) → expr_without (roll-Expr e) ≡ expr_at_zero (map-Expr _ _ _ _ call_without expr_without e)
unfolding expr_without call_without
expr_roll e = fold-roll-Expr CallExpr Expr call_at_zero expr_at_zero e

call_roll : (c : CallExpr-F CallExpr Expr) → call_without (roll-CallExpr c) ≡ call_at_zero (map-CallExpr _ _ _ _ call_without expr_without c)
unfolding expr_without call_without
call_roll c = fold-roll-CallExpr CallExpr Expr call_at_zero expr_at_zero c

pub without_number : (at value : ℕ) → expr_without (expr.Number at value) ≡ expr.Number 0 value
without_number at value = ap expr_without (sym (expr.rolls-Number at value)) ∙ expr_roll _

pub without_flag : (at : ℕ) (value : Bool) → expr_without (expr.Flag at value) ≡ expr.Flag 0 value
without_flag at value = ap expr_without (sym (expr.rolls-Flag at value)) ∙ expr_roll _

pub without_here : (at : ℕ) → expr_without (expr.Here at) ≡ expr.Here 0
without_here at = ap expr_without (sym (expr.rolls-Here at)) ∙ expr_roll _

pub without_name : (at : ℕ) (name : List ℕ) → expr_without (expr.Name at name) ≡ expr.Name 0 name
without_name at name = ap expr_without (sym (expr.rolls-Name at name)) ∙ expr_roll _

pub without_at : (at : ℕ) (name : List ℕ) (key : Expr) → expr_without (expr.At at name key) ≡ expr.At 0 name (expr_without key)
without_at at name key = ap expr_without (sym (expr.rolls-At at name key)) ∙ expr_roll _

pub without_called : (c : CallExpr) → expr_without (expr.Call c) ≡ expr.Call (call_without c)
without_called c = ap expr_without (sym (expr.rolls-Call c)) ∙ expr_roll _

pub without_not : (at : ℕ) (inner : Expr) → expr_without (expr.Not at inner) ≡ expr.Not 0 (expr_without inner)
without_not at inner = ap expr_without (sym (expr.rolls-Not at inner)) ∙ expr_roll _

pub without_product : (first : Expr) (rest : List (Op × Expr)) → expr_without (expr.Product first rest) ≡ expr.Product (expr_without first) (map (λ (p : Op × Expr). (p.0, expr_without p.1)) rest)
without_product first rest = ap expr_without (sym (expr.rolls-Product first rest)) ∙ expr_roll _

pub without_sum : (first : Expr) (rest : List (Op × Expr)) → expr_without (expr.Sum first rest) ≡ expr.Sum (expr_without first) (map (λ (p : Op × Expr). (p.0, expr_without p.1)) rest)
without_sum first rest = ap expr_without (sym (expr.rolls-Sum first rest)) ∙ expr_roll _

pub without_compare : (left : Expr) (op : Op) (right : Expr) → expr_without (expr.Compare left op right) ≡ expr.Compare (expr_without left) op (expr_without right)
without_compare left op right = ap expr_without (sym (expr.rolls-Compare left op right)) ∙ expr_roll _

pub without_and : (parts : List Expr) → expr_without (expr.And parts) ≡ expr.And (map expr_without parts)
without_and parts = ap expr_without (sym (expr.rolls-And parts)) ∙ expr_roll _

pub without_or : (parts : List Expr) → expr_without (expr.Or parts) ≡ expr.Or (map expr_without parts)
without_or parts = ap expr_without (sym (expr.rolls-Or parts)) ∙ expr_roll _

pub without_external : (at : ℕ) (target : Expr) (name_at : ℕ) (name : List ℕ) (args : List Expr) → call_without (call.External at target name_at name args) ≡ call.External 0 (expr_without target) 0 name (map expr_without args)
without_external at target name_at name args = ap call_without (sym (call.rolls-External at target name_at name args)) ∙ call_roll _

pub without_internal : (at name_at : ℕ) (name : List ℕ) (args : List Expr) → call_without (call.Internal at name_at name args) ≡ call.Internal 0 0 name (map expr_without args)
without_internal at name_at name args = ap call_without (sym (call.rolls-Internal at name_at name args)) ∙ call_roll _

stmt_roll : (s : Stmt-F Stmt Block) → stmt_without (roll-Stmt s) ≡ stmt_at_zero (map-Stmt _ _ _ _ stmt_without block_without s)
unfolding stmt_without block_without
stmt_roll s = fold-roll-Stmt Stmt Block stmt_at_zero roll-Block s

block_roll : (b : Block-F Stmt Block) → block_without (roll-Block b) ≡ roll-Block (map-Block _ _ _ _ stmt_without block_without b)
unfolding stmt_without block_without
block_roll b = fold-roll-Block Stmt Block stmt_at_zero roll-Block b

pub without_let : (at : ℕ) (name : List ℕ) (ty : Ty) (e : Expr) → stmt_without (stmt.Let at name ty e) ≡ stmt.Let 0 name ty (expr_without e)
without_let at name ty e = ap stmt_without (sym (stmt.rolls-Let at name ty e)) ∙ stmt_roll _

pub without_try : (at : ℕ) (name : List ℕ) (ty : Ty) (c : CallExpr) → stmt_without (stmt.Try at name ty c) ≡ stmt.Try 0 name ty (call_without c)
without_try at name ty c = ap stmt_without (sym (stmt.rolls-Try at name ty c)) ∙ stmt_roll _

pub without_set : (at : ℕ) (name : List ℕ) (e : Expr) → stmt_without (stmt.Set at name e) ≡ stmt.Set 0 name (expr_without e)
without_set at name e = ap stmt_without (sym (stmt.rolls-Set at name e)) ∙ stmt_roll _

pub without_set_at : (at : ℕ) (name : List ℕ) (key e : Expr) → stmt_without (stmt.SetAt at name key e) ≡ stmt.SetAt 0 name (expr_without key) (expr_without e)
without_set_at at name key e = ap stmt_without (sym (stmt.rolls-SetAt at name key e)) ∙ stmt_roll _

pub without_while : (cond : Expr) (body : Block) → stmt_without (stmt.While cond body) ≡ stmt.While (expr_without cond) (block_without body)
without_while cond body = ap stmt_without (sym (stmt.rolls-While cond body)) ∙ stmt_roll _

pub without_return : (e : Expr) → stmt_without (stmt.Return e) ≡ stmt.Return (expr_without e)
without_return e = ap stmt_without (sym (stmt.rolls-Return e)) ∙ stmt_roll _

pub without_revert : (e : Expr) → stmt_without (stmt.Revert e) ≡ stmt.Revert (expr_without e)
without_revert e = ap stmt_without (sym (stmt.rolls-Revert e)) ∙ stmt_roll _

pub without_do : (c : CallExpr) → stmt_without (stmt.Do c) ≡ stmt.Do (call_without c)
without_do c = ap stmt_without (sym (stmt.rolls-Do c)) ∙ stmt_roll _

arms_fuse : (arms : List (Expr × Block)) → map {B = Expr × Block} (λ (arm : Expr × Block). (expr_without arm.0, arm.1)) (map {B = Expr × Block} (λ (arm : Expr × Block). (arm.0, block_without arm.1)) arms) ≡ map {B = Expr × Block} (λ (arm : Expr × Block). (expr_without arm.0, block_without arm.1)) arms
arms_fuse [] = refl
arms_fuse (arm ∷ arms) = ap (λ more. (expr_without arm.0, block_without arm.1) ∷ more) (arms_fuse arms)

pub without_if : (arms : List (Expr × Block)) (last : Option Block) → stmt_without (stmt.If arms last) ≡ stmt.If (map (λ (arm : Expr × Block). (expr_without arm.0, block_without arm.1)) arms) (option_map block_without last)
without_if arms None = ap stmt_without (sym (stmt.rolls-If arms None)) ∙ stmt_roll _ ∙ ap (λ x. stmt.If x None) (arms_fuse arms)
without_if arms (Some last) = ap stmt_without (sym (stmt.rolls-If arms (Some last))) ∙ stmt_roll _ ∙ ap (λ x. stmt.If x (Some (block_without last))) (arms_fuse arms)

pub without_block : (stmts : List Stmt) → block_without (roll-Block (record { stmts = stmts })) ≡ roll-Block (record { stmts = map stmt_without stmts })
without_block stmts = block_roll _
