-- Trees without the places of their tokens.
use Rattle.std.specs.Prelude.{map}
use Rattle.std.specs.Option.{option_map}
use Rattle.ecf_lang.specs.declared.tree.Const.{Const}
use Rattle.ecf_lang.specs.declared.tree.Const.TheVariants as const
use Rattle.ecf_lang.specs.declared.tree.Param.{Param}
use Rattle.ecf_lang.specs.declared.tree.Expr.{Expr, Expr-F, fold-Expr}
use Rattle.ecf_lang.specs.declared.tree.Expr.TheVariants as expr
use Rattle.ecf_lang.specs.declared.tree.CallExpr.{CallExpr, CallExpr-F, fold-CallExpr}
use Rattle.ecf_lang.specs.declared.tree.CallExpr.TheVariants as called
use Rattle.ecf_lang.specs.declared.tree.Stmt.{Stmt, Stmt-F, fold-Stmt}
use Rattle.ecf_lang.specs.declared.tree.Stmt.TheVariants as stmt
use Rattle.ecf_lang.specs.declared.tree.Block.{Block, fold-Block, roll-Block}
use Rattle.ecf_lang.specs.declared.tree.Member.{Member}
use Rattle.ecf_lang.specs.declared.tree.Member.TheVariants as member
use Rattle.ecf_lang.specs.declared.tree.ObjectDecl.{ObjectDecl}
use Rattle.ecf_lang.specs.declared.tree.Tree.{Tree}

abbrev pub call_at_zero : CallExpr-F CallExpr Expr → CallExpr
call_at_zero (CallExpr-F.External at target name_at name args) = called.External 0 target 0 name args
call_at_zero (CallExpr-F.Internal at name_at name args) = called.Internal 0 0 name args

abbrev pub expr_at_zero : Expr-F CallExpr Expr → Expr
expr_at_zero (Expr-F.Number at value) = expr.Number 0 value
expr_at_zero (Expr-F.Flag at value) = expr.Flag 0 value
expr_at_zero (Expr-F.Here at) = expr.Here 0
expr_at_zero (Expr-F.Name at name) = expr.Name 0 name
expr_at_zero (Expr-F.At at name key) = expr.At 0 name key
expr_at_zero (Expr-F.Call call) = expr.Call call
expr_at_zero (Expr-F.Not at inner) = expr.Not 0 inner
expr_at_zero (Expr-F.Product first rest) = expr.Product first rest
expr_at_zero (Expr-F.Sum first rest) = expr.Sum first rest
expr_at_zero (Expr-F.Compare left op right) = expr.Compare left op right
expr_at_zero (Expr-F.And parts) = expr.And parts
expr_at_zero (Expr-F.Or parts) = expr.Or parts

-- an expression with each place 0
unfoldable pub expr_without : Expr → Expr
expr_without = fold-Expr CallExpr Expr call_at_zero expr_at_zero

-- a call with each place 0
unfoldable pub call_without : CallExpr → CallExpr
call_without = fold-CallExpr CallExpr Expr call_at_zero expr_at_zero

abbrev pub stmt_at_zero : Stmt-F Stmt Block → Stmt
stmt_at_zero (Stmt-F.Let at name ty value) = stmt.Let 0 name ty (expr_without value)
stmt_at_zero (Stmt-F.Try at name ty call) = stmt.Try 0 name ty (call_without call)
stmt_at_zero (Stmt-F.Set at name value) = stmt.Set 0 name (expr_without value)
stmt_at_zero (Stmt-F.SetAt at name key value) = stmt.SetAt 0 name (expr_without key) (expr_without value)
stmt_at_zero (Stmt-F.If arms last) = stmt.If (map (λ arm. (expr_without arm.0, arm.1)) arms) last
stmt_at_zero (Stmt-F.While cond body) = stmt.While (expr_without cond) body
stmt_at_zero (Stmt-F.Return value) = stmt.Return (expr_without value)
stmt_at_zero (Stmt-F.Revert value) = stmt.Revert (expr_without value)
stmt_at_zero (Stmt-F.Do call) = stmt.Do (call_without call)

-- a statement with each place 0
unfoldable pub stmt_without : Stmt → Stmt
stmt_without = fold-Stmt Stmt Block stmt_at_zero roll-Block

-- a block with each place 0
unfoldable pub block_without : Block → Block
block_without = fold-Block Stmt Block stmt_at_zero roll-Block

abbrev pub const_without : Const → Const
const_without (const.Number at value) = const.Number 0 value
const_without (const.Flag at value) = const.Flag 0 value
const_without (const.Name at name) = const.Name 0 name

abbrev pub param_without : Param → Param
param_without param = record { at = 0; name = param.name; ty = param.ty }

abbrev pub member_without : Member → Member
member_without (member.Field at name ty first) = member.Field 0 name ty (option_map const_without first)
member_without (member.Map at name key value first) = member.Map 0 name key value (map (λ entry. (const_without entry.0, const_without entry.1)) first)
member_without (member.Method at name params answer body) = member.Method 0 name (map param_without params) answer (block_without body)

abbrev pub object_without : ObjectDecl → ObjectDecl
object_without object = record { at = 0; name = object.name; members = map member_without object.members }

-- a tree with each place 0
abbrev pub without_places : Tree → Tree
without_places tree = record { objects = map object_without tree.objects }
