-- How much the machine may still do without a charge.
use Rattle.std.specs.Prelude.{ℕ, ◌+◌, List, [], ◌∷◌}
use Rattle.ecf_lang.specs.declared.tree.Op.{Op}
use Rattle.ecf_lang.specs.declared.typed.TypedExpr.{TypedExpr, TypedExpr-F, fold-TypedExpr}
use Rattle.ecf_lang.specs.declared.typed.TypedBlock.{TypedBlock}
use Rattle.ecf_lang.specs.declared.typed.TypedCall.{TypedCall, TypedCall-F, fold-TypedCall}
use Rattle.ecf_lang.specs.declared.tx.TxCall.{TxCall}
use Rattle.ecf_machine.specs.declared.task.Task.{Task}
use Rattle.ecf_machine.specs.declared.task.Task.TheVariants as task
use Rattle.ecf_machine.specs.declared.task.Doing.{Doing}
use Rattle.ecf_machine.specs.declared.task.Doing.TheVariants as doing

-- the sum of the sizes of a list's elements
abbrev pub total_size : {A : Type 0} → (A → ℕ) → List A → ℕ
total_size size [] = 0
total_size size (x ∷ xs) = size x + total_size size xs

-- more than the steps of a call up to its first charge, from its parts
abbrev pub call_step : TypedCall-F ℕ ℕ → ℕ
call_step (TypedCall-F.External target name args) = target + total_size (λ arg. arg + 3) args + 4
call_step (TypedCall-F.Internal name args) = total_size (λ arg. arg + 3) args + 4

-- and of an expression
abbrev pub expr_step : TypedExpr-F ℕ ℕ → ℕ
expr_step (TypedExpr-F.Product first rest) = first + total_size (λ part. part.1 + 2) rest + 4
expr_step (TypedExpr-F.Sum first rest) = first + total_size (λ part. part.1 + 2) rest + 4
expr_step (TypedExpr-F.At field key) = key + 2
expr_step (TypedExpr-F.Not inner) = inner + 2
expr_step (TypedExpr-F.Compare left op right) = left + right + 4
expr_step (TypedExpr-F.And parts) = total_size (λ part. part + 3) parts + 4
expr_step (TypedExpr-F.Or parts) = total_size (λ part. part + 3) parts + 4
expr_step (TypedExpr-F.Call call) = call + 1
expr_step _ = 2

-- more than the steps of an expression up to its first charge
unfoldable pub size_of : TypedExpr → ℕ
size_of = fold-TypedExpr ℕ ℕ call_step expr_step

-- more than the steps of a call up to its first charge
unfoldable pub call_size : TypedCall → ℕ
call_size = fold-TypedCall ℕ ℕ call_step expr_step

-- of the further parts of a sum or product
abbrev pub parts_size : List (Op × TypedExpr) → ℕ
parts_size parts = total_size (λ part. size_of part.1 + 2) parts

-- of arguments, or of the parts of an `&&` or `||`
abbrev pub args_size : List TypedExpr → ℕ
args_size args = total_size (λ arg. size_of arg + 3) args

-- of the conditions of an `if`
abbrev pub arms_size : List (TypedExpr × TypedBlock) → ℕ
arms_size arms = total_size (λ arm. size_of arm.0 + 3) arms

-- of a transaction's calls, which aren't charged
abbrev pub calls_size : List TxCall → ℕ
calls_size calls = total_size (λ call. 9) calls

-- what a task may take, once it has its value, up to the next charge
abbrev pub task_size : Task → ℕ
task_size (task.First rest) = parts_size rest.now + 2
task_size (task.Left op right) = size_of right.now + 2
task_size (task.Target caught name args) = args_size args.now + 3
task_size (task.Argument callee args) = args_size args.now + 2
task_size (task.Key field expr) = size_of expr.now + 2
task_size (task.Choose block arms last) = arms_size arms.now + 4
task_size (task.Again n cond body) = size_of cond.now + 2
task_size (task.Next stmts) = 3
task_size (task.Calls calls) = calls_size calls.now + 1
task_size _ = 1

-- and what tasks may take
abbrev pub load : List Task → ℕ
load tasks = total_size task_size tasks

-- what comes next may take, with these tasks after it, up to the next charge
abbrev pub measure : List Task → Doing → ℕ
measure tasks (doing.Body stmts) = 3 + load tasks
measure tasks (doing.Eval expr) = size_of expr.now + load tasks
measure tasks (doing.Give value) = 1 + load tasks
measure tasks (doing.Back value) = 1 + load tasks
measure tasks (doing.Stop cause) = 1 + load tasks
measure tasks (doing.Over outcome) = 0
