-- Which expressions and statements have no call in them.
use Rattle.std.specs.Prelude.{Bool, true, false, ◌&&◌, List, [], ◌∷◌, map, Option, Some, None}
use Rattle.ecf_lang.specs.declared.tree.Op.{Op}
use Rattle.ecf_lang.specs.declared.typed.TypedExpr.{TypedExpr, TypedExpr-F, fold-TypedExpr}
use Rattle.ecf_lang.specs.declared.typed.TypedCall.{TypedCall-F}
use Rattle.ecf_lang.specs.declared.typed.TypedStmt.{TypedStmt, TypedStmt-F, fold-TypedStmt}
use Rattle.ecf_lang.specs.declared.typed.TypedBlock.{TypedBlock, TypedBlock-F, fold-TypedBlock}

-- all of them
abbrev pub every : List Bool → Bool
every [] = true
every (one ∷ others) = one && every others

-- all that stand behind an operator
abbrev pub every_part : List (Op × Bool) → Bool
every_part [] = true
every_part (one ∷ others) = one.1 && every_part others

-- a call
abbrev pub plain_call : TypedCall-F Bool Bool → Bool
plain_call call = false

-- an expression, from its parts
abbrev pub plain_expr : TypedExpr-F Bool Bool → Bool
plain_expr (TypedExpr-F.At field key) = key
plain_expr (TypedExpr-F.Call call) = false
plain_expr (TypedExpr-F.Not inner) = inner
plain_expr (TypedExpr-F.Product first rest) = first && every_part rest
plain_expr (TypedExpr-F.Sum first rest) = first && every_part rest
plain_expr (TypedExpr-F.Compare left op right) = left && right
plain_expr (TypedExpr-F.And parts) = every parts
plain_expr (TypedExpr-F.Or parts) = every parts
plain_expr _ = true

-- whether an expression has no call in it
unfoldable pub is_plain : TypedExpr → Bool
is_plain = fold-TypedExpr Bool Bool plain_call plain_expr

-- whether none of these has one
abbrev pub are_plain : List TypedExpr → Bool
are_plain exprs = every (map is_plain exprs)

-- the same of the further parts of a sum or product
abbrev pub parts_plain : List (Op × TypedExpr) → Bool
parts_plain parts = every_part (map (λ part. (part.0, is_plain part.1)) parts)

-- of the arms of an `if`, from their blocks
abbrev pub every_arm : List (TypedExpr × Bool) → Bool
every_arm [] = true
every_arm (one ∷ others) = (is_plain one.0 && one.1) && every_arm others

-- of its last block, if it has one
abbrev pub last_plain : Option Bool → Bool
last_plain None = true
last_plain (Some block) = block

-- a statement, from its blocks
abbrev pub plain_stmt : TypedStmt-F Bool Bool → Bool
plain_stmt (TypedStmt-F.Let n ty value) = is_plain value
plain_stmt (TypedStmt-F.Try n target name args) = false
plain_stmt (TypedStmt-F.Set to value) = is_plain value
plain_stmt (TypedStmt-F.SetAt field key value) = is_plain key && is_plain value
plain_stmt (TypedStmt-F.If arms last) = every_arm arms && last_plain last
plain_stmt (TypedStmt-F.While cond body) = is_plain cond && body
plain_stmt (TypedStmt-F.Return value) = is_plain value
plain_stmt (TypedStmt-F.Revert value) = is_plain value
plain_stmt (TypedStmt-F.Do call) = false

-- a block, from its statements
abbrev pub plain_block : TypedBlock-F Bool Bool → Bool
plain_block block = every block.stmts

-- whether a statement has no call in it
unfoldable pub is_plain_stmt : TypedStmt → Bool
is_plain_stmt = fold-TypedStmt Bool Bool plain_stmt plain_block

-- whether a block has none
unfoldable pub is_plain_block : TypedBlock → Bool
is_plain_block = fold-TypedBlock Bool Bool plain_stmt plain_block

-- whether none of these arms has one
abbrev pub arms_plain : List (TypedExpr × TypedBlock) → Bool
arms_plain arms = every_arm (map (λ arm. (arm.0, is_plain_block arm.1)) arms)
