-- Of each form of statement and of blocks: its faults, its numbered form, and the locals behind it.
use Rattle.std.specs.Prelude.{ℕ, ◌+◌, nat_lt, not, if◌then◌else◌, List, [], ◌∷◌, ◌++◌, map, Option, Some, None, is_some}
use Rattle.ecf_lang.specs.declared.limits.TheConstants.{MAX_LOCALS}
use Rattle.ecf_lang.specs.declared.tree.Ty.{Ty}
use Rattle.ecf_lang.specs.declared.tree.Ty.TheVariants.{Num, Flag}
use Rattle.ecf_lang.specs.declared.tree.Expr.{Expr}
use Rattle.ecf_lang.specs.declared.tree.Stmt.{Stmt, Stmt-F, fold-Stmt}
use Rattle.ecf_lang.specs.declared.tree.Block.{Block, Block-F, fold-Block}
use Rattle.ecf_lang.specs.declared.typed.TypedExpr.{TypedExpr}
use Rattle.ecf_lang.specs.declared.typed.TypedExpr.TheVariants as typed
use Rattle.ecf_lang.specs.declared.typed.TypedCall.{TypedCall, TypedCall-F, out-TypedCall}
use Rattle.ecf_lang.specs.declared.typed.TypedStmt.{TypedStmt}
use Rattle.ecf_lang.specs.declared.typed.TypedStmt.TheVariants as stmt
use Rattle.ecf_lang.specs.declared.typed.TypedBlock.{TypedBlock, roll-TypedBlock}
use Rattle.ecf_lang.specs.declared.typed.Assignee.{Assignee}
use Rattle.ecf_lang.specs.declared.typed.Assignee.TheVariants as assignee
use Rattle.ecf_faults.specs.declared.What.TheVariants as what
use Rattle.ecf_faults.specs.declared.Fault.{Fault}
use Rattle.ecf_faults.specs.declared.Referent.{Referent}
use Rattle.ecf_faults.specs.declared.Referent.TheVariants.{Local, Field, Object, Map, Nothing}
use Rattle.ecf_faults.specs.Tables.{declaration_of, with_declaration, Surroundings, Locals}
use Rattle.ecf_faults.specs.Expressions.{Report, fault, fault_if, faults_for, type_faults, referent, map_faults, key_type, value_type, map_number, report_of, call_report_of}

-- what there is to say of a stretch of a method's body
pub record Passage (Form : Type 0) : Type 0 where
  pub faults : List Fault
  pub form : Form
  -- the locals behind it
  pub after : Locals

-- a stretch of a method's body, from the locals before it
abbrev pub Stretch : Type 0 → Type 0
Stretch Form = Locals → Passage Form

-- two passages, and what their forms make
abbrev pub pair_of : {A B C : Type 0} → (A → B → C) → Passage A → Passage B → Passage C
pair_of make first second = record { faults = first.faults ++ second.faults; form = make first.form second.form; after = second.after }

-- a passage and a stretch behind it
abbrev pub then_stretch : {A B C : Type 0} → (A → B → C) → Passage A → Stretch B → Passage C
then_stretch make first next = pair_of make first (next first.after)

-- stretches one behind the other
abbrev pub sequence_of : {A : Type 0} → List (Stretch A) → Stretch (List A)
sequence_of [] locals = record { faults = []; form = []; after = locals }
sequence_of (first ∷ others) locals = then_stretch (λ a as'. a ∷ as') (first locals) (sequence_of others)

-- ---- declared locals

-- one that is declared while a local of its name is visible, or past a limit on their number
abbrev pub local_faults : ℕ → ℕ → List ℕ → Locals → List Fault
local_faults limit at name locals =
    fault_if (is_some (declaration_of locals.visible name)) at what.TwoLocals ++ fault_if (not (nat_lt locals.next limit)) at what.TooManyLocals

-- the number behind a local's; it stays where there are as many as a method may have
abbrev pub next_number : ℕ → ℕ
next_number n = if nat_lt n MAX_LOCALS then n + 1 else n

abbrev pub with_local : List ℕ → Ty → Locals → Locals
with_local name ty locals = record { visible = with_declaration locals.visible name (locals.next, ty); next = next_number locals.next }

-- ---- the left side of an assignment without an index, by what its name stands for

abbrev pub assignee_faults : ℕ → Referent → List Fault
assignee_faults at (Local n ty) = []
assignee_faults at (Field n ty) = []
assignee_faults at (Object n) = fault at what.Misused ∷ []
assignee_faults at Map = fault at what.Misused ∷ []
assignee_faults at Nothing = fault at what.UnknownName ∷ []

abbrev pub assignee_type : Referent → Option Ty
assignee_type (Local n ty) = Some ty
assignee_type (Field n ty) = Some ty
assignee_type _ = None

abbrev pub assignee_form : Referent → Assignee
assignee_form (Local n ty) = assignee.Local n
assignee_form (Field n ty) = assignee.Plain n
assignee_form _ = assignee.Local 0

-- ---- statements

-- a `try` to a local
abbrev pub try_form : ℕ → TypedCall-F TypedCall TypedExpr → TypedStmt
try_form n (TypedCall-F.External target name args) = stmt.Try n target name args
try_form n (TypedCall-F.Internal name args) = stmt.Try n typed.Here name args

-- a block: what it declares is visible to its end, and its numbers stay used
abbrev pub block_end : Locals → Passage (List TypedStmt) → Passage TypedBlock
block_end before inner = record {
  faults = inner.faults;
  form = roll-TypedBlock (record { stmts = inner.form });
  after = record { visible = before.visible; next = inner.after.next };
}

module _ (around : Surroundings) (answer : Ty) where
  abbrev pub report_at : Locals → Expr → Report TypedExpr
  report_at locals e = report_of around locals.visible e

  -- an expression of which a type is required, and what its form makes
  abbrev pub made_of : {A : Type 0} → (TypedExpr → A) → Option Ty → Expr → Stretch A
  made_of make want e locals = record { faults = faults_for want (report_at locals e); form = make (report_at locals e).form; after = locals }

  -- an expression of which a type is required
  abbrev pub value : Option Ty → Expr → Stretch TypedExpr
  value want e locals = record { faults = faults_for want (report_at locals e); form = (report_at locals e).form; after = locals }

  -- a condition with its block
  abbrev pub arm_step : Expr × Stretch TypedBlock → Stretch (TypedExpr × TypedBlock)
  arm_step (cond, block) locals = then_stretch (λ c b. (c, b)) (value (Some Flag) cond locals) block

  -- the last block, where there is one
  abbrev pub last_step : Option (Stretch TypedBlock) → Stretch (Option TypedBlock)
  last_step None locals = record { faults = []; form = None; after = locals }
  last_step (Some block) locals = then_stretch (λ _ b. Some b) (record { faults = []; form = tt {0}; after = locals }) block

  abbrev pub stmt_step : Stmt-F (Stretch TypedStmt) (Stretch TypedBlock) → Stretch TypedStmt
  stmt_step (Stmt-F.Let at name ty e) locals = record {
    faults = faults_for (Some ty) (report_at locals e) ++ local_faults MAX_LOCALS at name locals;
    form = stmt.Let (locals.next) ty (report_at locals e).form;
    after = with_local name ty locals;
  }
  stmt_step (Stmt-F.Try at name ty call) locals =
      let c = call_report_of around locals.visible call in
      record {
        faults = c.faults ++ type_faults (Some Flag) (Some ty) c.place ++ local_faults MAX_LOCALS at name locals;
        form = try_form (locals.next) (out-TypedCall c.form);
        after = with_local name ty locals;
      }
  stmt_step (Stmt-F.Set at name e) locals =
      let left = referent around locals.visible name in
      record {
        faults = assignee_faults at left ++ faults_for (assignee_type left) (report_at locals e);
        form = stmt.Set (assignee_form left) (report_at locals e).form;
        after = locals;
      }
  stmt_step (Stmt-F.SetAt at name key e) locals =
      let own = declaration_of around.own name in
      record {
        faults = map_faults at own ++ faults_for (key_type own) (report_at locals key) ++ faults_for (value_type own) (report_at locals e);
        form = stmt.SetAt (map_number own) (report_at locals key).form (report_at locals e).form;
        after = locals;
      }
  stmt_step (Stmt-F.If arms last) locals = then_stretch stmt.If (sequence_of (map arm_step arms) locals) (last_step last)
  stmt_step (Stmt-F.While cond body) locals = then_stretch stmt.While (value (Some Flag) cond locals) body
  stmt_step (Stmt-F.Return e) locals = made_of stmt.Return (Some answer) e locals
  stmt_step (Stmt-F.Revert e) locals = made_of stmt.Revert (Some Num) e locals
  stmt_step (Stmt-F.Do call) locals =
      let c = call_report_of around locals.visible call in
      record { faults = c.faults; form = stmt.Do c.form; after = locals }

  abbrev pub block_step : Block-F (Stretch TypedStmt) (Stretch TypedBlock) → Stretch TypedBlock
  block_step block locals = block_end locals (sequence_of block.stmts locals)

  unfoldable pub stmt_passage : Stmt → Stretch TypedStmt
  stmt_passage = fold-Stmt (Stretch TypedStmt) (Stretch TypedBlock) stmt_step block_step

  unfoldable pub block_passage : Block → Stretch TypedBlock
  block_passage = fold-Block (Stretch TypedStmt) (Stretch TypedBlock) stmt_step block_step
