-- Each form of statement, of parts that are as they should be where they have no fault, is so too; and so are stretches of them.
use Rattle.std.proofs.Common.{◌≡◌, ℕ, suc, ◌^◌, ◌<◌, ◌≤◌, ◌==◌, false, not, cond, List, [], ◌∷◌, ◌++◌, map, Option, Some, None, is_some, refl, sym, subst, ap, ◌∙◌, arith, ◌⊎◌, inl, inr}
use Rattle.std.specs.Prelude.{nat_lt, find}
use Rattle.std.specs.List.{AllByRecursion}
use Rattle.std.specs.Option.{option_map}
use Rattle.std.proofs.lemmas.Bool.Decides.{nat_tests}
use Rattle.ecf_lang.specs.declared.limits.TheConstants.{MAX_LOCALS}
use Rattle.ecf_lang.specs.declared.tree.Ty.{Ty}
use Rattle.ecf_lang.specs.declared.tree.Ty.TheVariants.{Num, Flag}
use Rattle.ecf_lang.specs.declared.tree.Expr.{Expr}
use Rattle.ecf_lang.specs.declared.tree.CallExpr.{CallExpr}
use Rattle.ecf_lang.specs.declared.tree.Stmt.{Stmt, Stmt-F}
use Rattle.ecf_lang.specs.declared.tree.Block.{Block}
use Rattle.ecf_lang.specs.declared.typed.FieldKind.{FieldKind}
use Rattle.ecf_lang.specs.declared.typed.FieldKind.TheVariants as kind
use Rattle.ecf_lang.specs.declared.typed.Typed.{Typed}
use Rattle.ecf_lang.specs.declared.typed.TypedObject.{TypedObject}
use Rattle.ecf_lang.specs.declared.typed.Assignee.TheVariants as assignee
use Rattle.ecf_lang.specs.declared.typed.TypedExpr.{TypedExpr}
use Rattle.ecf_lang.specs.declared.typed.TypedCall.{TypedCall, out-TypedCall, out-roll-TypedCall}
use Rattle.ecf_lang.specs.declared.typed.TypedCall.TheVariants as called
use Rattle.ecf_lang.specs.declared.typed.TypedStmt.{TypedStmt}
use Rattle.ecf_lang.specs.declared.typed.TypedStmt.TheVariants as stmt
use Rattle.ecf_lang.specs.declared.typed.TypedBlock.{TypedBlock}
use Rattle.ecf_wellformed.specs.Typing.{Scope, Sees, AssigneeHas, Calls, IsStmt, AreStmts, IsBlock, AreArms, IsLast}
use Rattle.ecf_faults.specs.Tables.{Table, declaration_of, Surroundings, Locals}
use Rattle.ecf_faults.specs.Expressions.{fault_if, faults_for, type_faults, referent_of, referent, map_faults, key_type, value_type, report_of, call_report_of}
use Rattle.ecf_faults.specs.Statements.{Passage, Stretch, sequence_of, local_faults, next_number, with_local, assignee_faults, assignee_type, assignee_form, try_form, block_end, value, arm_step, last_step, stmt_step, stmt_passage, block_passage}
use Rattle.ecf_welltyped.proofs.ListLaws.{is_below, itself, none_front, none_behind, not_so, as_required, number_kept}
use Rattle.ecf_welltyped.proofs.TableLaws.{one_more}
use Rattle.ecf_welltyped.proofs.ExpressionLaws.{HasField, Agrees, AreSeen, IsTyped, IsTypedCall, has_type, indexed}

another : (n m : ℕ) → m < n → (n == m) ≡ false
another n m less = grind (arith, nat_tests)

newest_is_seen : (scope : Scope) (n : ℕ) (ty : Ty) → Sees ((n, ty) ∷ scope) n ty
newest_is_seen scope n ty = ap (λ b. cond b (Some (n, ty)) (find (λ v. v.0 == n) scope)) (itself n)

older_is_seen : (scope : Scope) (n m : ℕ) (ty other : Ty) → m < n → Sees scope m other → Sees ((n, ty) ∷ scope) m other
older_is_seen scope n m ty other less sees = ap (λ b. cond b (Some (n, ty)) (find (λ v. v.0 == m) scope)) (another n m less) ∙ sees

next_is_suc : (n : ℕ) → n < MAX_LOCALS → next_number n ≡ suc n
next_is_suc n few = grind (arith, nat_tests)

-- the locals are those of the scope, each with a smaller number than the next one, and there are few
pub record AreLocals (scope : Scope) (locals : Locals) : Type 0 where
  pub seen : (name : List ℕ) (n : ℕ) (ty : Ty) → declaration_of locals.visible name ≡ Some (n, ty) → (n < locals.next) × Sees scope n ty
  pub few : locals.next ≤ MAX_LOCALS

-- a declared local is the newest one of the scope, whatever else is declared
newest : (scope : Scope) (locals : Locals) (ty : Ty) (next : ℕ) → next ≡ suc locals.next → AreLocals scope locals → (name : List ℕ) (n : ℕ) (other : Ty)
    → (declaration_of locals.visible name ≡ Some (n, other)) ⊎ (◌≡◌ {A = ℕ × Ty} (locals.next, ty) (n, other)) → (n < next) × Sees ((locals.next, ty) ∷ scope) n other
newest scope locals ty next is are name n other (inl e) =
    let old = are.seen name n other e in
    (omega (arith, old.0), older_is_seen scope locals.next n ty other old.0 old.1)
newest scope locals ty next is are name n other (inr new) =
    subst (λ (one : ℕ × Ty). (one.0 < next) × Sees ((locals.next, ty) ∷ scope) one.0 one.1) new (omega arith, newest_is_seen scope locals.next ty)

pub with_local_are : (limit at : ℕ) (name : List ℕ) (ty : Ty) (scope : Scope) (locals : Locals) → limit ≤ MAX_LOCALS → AreLocals scope locals → local_faults limit at name locals ≡ []
    → ((with_local name ty locals).next ≡ suc locals.next) × AreLocals ((locals.next, ty) ∷ scope) (with_local name ty locals)
with_local_are limit at name ty scope locals low are none =
    let below = is_below locals.next limit (not_so (not (nat_lt locals.next limit)) at _ (none_behind (fault_if (is_some (declaration_of locals.visible name)) at _) (fault_if (not (nat_lt locals.next limit)) at _) none)) in
    let is = next_is_suc locals.next (omega (arith, below, low)) in (
      is,
      record {
        seen = λ other n of_type e. newest scope locals ty (next_number locals.next) is are other n of_type (one_more locals.visible name (locals.next, ty) other (n, of_type) e);
        few = omega (arith, is, below, low);
      },
    )

-- a call that is external in its form
pub record IsExternal (c : TypedCall) : Type 0 where
  pub target : TypedExpr
  pub name : ℕ
  pub args : List TypedExpr
  pub is : c ≡ called.External target name args

try_form_is : (n : ℕ) (c : TypedCall) (x : IsExternal c) → try_form n (out-TypedCall c) ≡ stmt.Try n x.target x.name x.args
try_form_is n c x = ap (λ c. try_form n (out-TypedCall c)) (x.is ∙ sym (called.rolls-External x.target x.name x.args)) ∙ ap (try_form n) (out-roll-TypedCall _)

-- ---- what statements come to

module _ (typed : Typed) (own : TypedObject) (around : Surroundings) (agrees : Agrees typed own around) (answer : Ty) where
  -- a statement goes from a scope to one behind it
  pub record GoesOn (scope : Scope) (locals : Locals) (p : Passage TypedStmt) : Type 0 where
    pub behind : Scope
    pub is : IsStmt typed own answer scope locals.next p.form behind p.after.next
    pub after : AreLocals behind p.after
    pub more : locals.next ≤ p.after.next

  -- a stretch keeps what is visible
  pub record Keeps {Form : Type 0} (Is : ℕ → Form → ℕ → Type 0) (locals : Locals) (p : Passage Form) : Type 0 where
    pub is : Is locals.next p.form p.after.next
    pub same : p.after.visible ≡ locals.visible
    pub few : p.after.next ≤ MAX_LOCALS
    pub more : locals.next ≤ p.after.next

  abbrev pub Goes : Scope → Locals → Passage TypedStmt → Type 0
  Goes scope locals p = p.faults ≡ [] → GoesOn scope locals p

  -- a statement, a block, and a condition with its block, at whatever scope
  abbrev pub IsFitStmt : Stmt → Type 0
  IsFitStmt s = (scope : Scope) (locals : Locals) → AreLocals scope locals → Goes scope locals (stmt_passage around answer s locals)

  abbrev pub IsFitBlock : Block → Type 0
  IsFitBlock b = (scope : Scope) (locals : Locals) → AreLocals scope locals → (block_passage around answer b locals).faults ≡ [] → Keeps (IsBlock typed own answer scope) locals (block_passage around answer b locals)

  abbrev pub IsFitExpr : Expr → Type 0
  IsFitExpr e = (scope : Scope) (visible : Table (ℕ × Ty)) → AreSeen typed own scope visible → IsTyped typed own scope (report_of around visible e)

  abbrev pub IsFitCallExpr : CallExpr → Type 0
  IsFitCallExpr c = (scope : Scope) (visible : Table (ℕ × Ty)) → AreSeen typed own scope visible → IsTypedCall typed own scope (call_report_of around visible c)

  abbrev pub IsFitArm : Expr × Block → Type 0
  IsFitArm arm = IsFitExpr arm.0 × IsFitBlock arm.1

  seen : (scope : Scope) (locals : Locals) → AreLocals scope locals → AreSeen typed own scope locals.visible
  seen scope locals are = λ name n ty e. (are.seen name n ty e).1

  kept : {Form : Type 0} (Is : ℕ → Form → ℕ → Type 0) (scope : Scope) (locals : Locals) (p : Passage Form) → AreLocals scope locals → Keeps Is locals p → AreLocals scope p.after
  kept Is scope locals p are keeps = record {
    seen = λ name n ty e. let old = are.seen name n ty (subst (λ table. declaration_of table name ≡ Some (n, ty)) keeps.same e) in (omega (arith, old.0, keeps.more), old.1);
    few = keeps.few;
  }

  -- ---- each form

  pub let_goes : (at : ℕ) (name : List ℕ) (ty : Ty) (e : Expr) → IsFitExpr e → (scope : Scope) (locals : Locals) → AreLocals scope locals → Goes scope locals (stmt_step around answer (Stmt-F.Let at name ty e) locals)
  let_goes at name ty e is scope locals are none =
      let report = report_of around locals.visible e in
      let after = with_local_are MAX_LOCALS at name ty scope locals (omega arith) are (none_behind (faults_for (Some ty) report) (local_faults MAX_LOCALS at name locals) none) in
      record {
        behind = (locals.next, ty) ∷ scope;
        is = subst (IsStmt typed own answer scope locals.next (stmt.Let locals.next ty report.form) ((locals.next, ty) ∷ scope)) (sym after.0)
            (IsStmt.let_local (has_type typed own scope ty report (is scope locals.visible (seen scope locals are)) (none_front (faults_for (Some ty) report) (local_faults MAX_LOCALS at name locals) none)));
        after = after.1;
        more = omega (arith, after.0);
      }

  pub try_goes : (at : ℕ) (name : List ℕ) (ty : Ty) (c : CallExpr) → IsFitCallExpr c → (scope : Scope) (locals : Locals) → IsExternal (call_report_of around locals.visible c).form → AreLocals scope locals
      → Goes scope locals (stmt_step around answer (Stmt-F.Try at name ty c) locals)
  try_goes at name ty c is scope locals external are none =
      let report = call_report_of around locals.visible c in
      let types = type_faults (Some Flag) (Some ty) report.place in
      let after = with_local_are MAX_LOCALS at name ty scope locals (omega arith) are (none_behind (report.faults ++ types) (local_faults MAX_LOCALS at name locals) none) in
      let first = none_front (report.faults ++ types) (local_faults MAX_LOCALS at name locals) none in
      let call = is scope locals.visible (seen scope locals are) (none_front report.faults types first) in
      let flag = as_required Flag ty report.place (none_behind report.faults types first) in
      record {
        behind = (locals.next, ty) ∷ scope;
        is = subst (λ form. IsStmt typed own answer scope locals.next form ((locals.next, ty) ∷ scope) (with_local name ty locals).next) (sym (try_form_is locals.next report.form external))
            (subst (IsStmt typed own answer scope locals.next (stmt.Try locals.next external.target external.name external.args) ((locals.next, ty) ∷ scope)) (sym after.0)
            (subst (λ kind. IsStmt typed own answer scope locals.next (stmt.Try locals.next external.target external.name external.args) ((locals.next, kind) ∷ scope) (suc locals.next)) flag
            (IsStmt.try_call (subst (λ c. Calls typed own scope c call.0) external.is call.2))));
        after = after.1;
        more = omega (arith, after.0);
      }

  -- what is set, by what its name stands for
  assignee_is : (scope : Scope) (local : Option (ℕ × Ty)) (field : Option (ℕ × FieldKind)) (object : Option (ℕ × ℕ)) (at : ℕ) → ((n : ℕ) (ty : Ty) → local ≡ Some (n, ty) → Sees scope n ty)
      → ((n : ℕ) (k : FieldKind) → field ≡ Some (n, k) → HasField typed own n k) → assignee_faults at (referent_of local field object) ≡ []
      → (ty : Ty) × (assignee_type (referent_of local field object) ≡ Some ty) × AssigneeHas typed own scope (assignee_form (referent_of local field object)) ty
  assignee_is scope (Some (n, ty)) field object at locals fields none = (ty, refl, AssigneeHas.local (locals n ty refl))
  assignee_is scope None (Some (n, kind.Plain ty)) object at locals fields none =
      let f = fields n (kind.Plain ty) refl in
      (ty, refl, subst (λ m. AssigneeHas typed own scope (assignee.Plain m) ty) (sym (number_kept (2 ^ 8) n f.small)) (AssigneeHas.plain f.at f.of_kind))
  assignee_is scope None (Some (n, kind.Map key value)) (Some (o, token)) at locals fields none = absurd cc
  assignee_is scope None (Some (n, kind.Map key value)) None at locals fields none = absurd cc
  assignee_is scope None None (Some (o, token)) at locals fields none = absurd cc
  assignee_is scope None None None at locals fields none = absurd cc

  pub set_goes : (at : ℕ) (name : List ℕ) (e : Expr) → IsFitExpr e → (scope : Scope) (locals : Locals) → AreLocals scope locals → Goes scope locals (stmt_step around answer (Stmt-F.Set at name e) locals)
  set_goes at name e is scope locals are none =
      let report = report_of around locals.visible e in
      let left = referent around locals.visible name in
      let to = assignee_is scope (declaration_of locals.visible name) (declaration_of around.own name) (declaration_of around.objects name) at (seen scope locals are name) (agrees.fields name)
      (none_front (assignee_faults at left) (faults_for (assignee_type left) report) none) in
      record {
        behind = scope;
        is = IsStmt.set to.2 (has_type typed own scope to.0 report (is scope locals.visible (seen scope locals are))
            (subst (λ want. faults_for want report ≡ []) to.1 (none_behind (assignee_faults at left) (faults_for (assignee_type left) report) none)));
        after = are;
        more = omega arith;
      }

  pub set_at_goes : (at : ℕ) (name : List ℕ) (key e : Expr) → IsFitExpr key → IsFitExpr e → (scope : Scope) (locals : Locals) → AreLocals scope locals → Goes scope locals (stmt_step around answer (Stmt-F.SetAt at name key e) locals)
  set_at_goes at name key e key_is is scope locals are none =
      let field = declaration_of around.own name in
      let index = report_of around locals.visible key in
      let report = report_of around locals.visible e in
      let left = none_front (map_faults at field ++ faults_for (key_type field) index) (faults_for (value_type field) report) none in
      let has = indexed typed own scope field at index (agrees.fields name) (key_is scope locals.visible (seen scope locals are)) (none_front (map_faults at field) (faults_for (key_type field) index) left)
      (none_behind (map_faults at field) (faults_for (key_type field) index) left) in
      record {
        behind = scope;
        is = subst (λ m. IsStmt typed own answer scope locals.next (stmt.SetAt m index.form report.form) scope locals.next) (sym has.4)
            (IsStmt.set_at has.5 has.6 (has_type typed own scope has.2 report (is scope locals.visible (seen scope locals are))
            (subst (λ want. faults_for want report ≡ []) has.3 (none_behind (map_faults at field ++ faults_for (key_type field) index) (faults_for (value_type field) report) none))));
        after = are;
        more = omega arith;
      }

  pub return_goes : (e : Expr) → IsFitExpr e → (scope : Scope) (locals : Locals) → AreLocals scope locals → Goes scope locals (stmt_step around answer (Stmt-F.Return e) locals)
  return_goes e is scope locals are none =
      record { behind = scope; is = IsStmt.return (has_type typed own scope answer (report_of around locals.visible e) (is scope locals.visible (seen scope locals are)) none); after = are; more = omega arith }

  pub revert_goes : (e : Expr) → IsFitExpr e → (scope : Scope) (locals : Locals) → AreLocals scope locals → Goes scope locals (stmt_step around answer (Stmt-F.Revert e) locals)
  revert_goes e is scope locals are none =
      record { behind = scope; is = IsStmt.revert (has_type typed own scope Num (report_of around locals.visible e) (is scope locals.visible (seen scope locals are)) none); after = are; more = omega arith }

  pub do_goes : (c : CallExpr) → IsFitCallExpr c → (scope : Scope) (locals : Locals) → AreLocals scope locals → Goes scope locals (stmt_step around answer (Stmt-F.Do c) locals)
  do_goes c is scope locals are none =
      record { behind = scope; is = IsStmt.do_call (is scope locals.visible (seen scope locals are) none).2; after = are; more = omega arith }

  pub while_goes : (cond : Expr) (body : Block) → IsFitExpr cond → IsFitBlock body → (scope : Scope) (locals : Locals) → AreLocals scope locals
      → Goes scope locals (stmt_step around answer (Stmt-F.While cond (block_passage around answer body)) locals)
  while_goes cond body cond_is body_is scope locals are none =
      let report = report_of around locals.visible cond in
      let inner = block_passage around answer body locals in
      let keeps = body_is scope locals are (none_behind (faults_for (Some Flag) report) inner.faults none) in
      record {
        behind = scope;
        is = IsStmt.while (has_type typed own scope Flag report (cond_is scope locals.visible (seen scope locals are)) (none_front (faults_for (Some Flag) report) inner.faults none)) keeps.is;
        after = kept (IsBlock typed own answer scope) scope locals inner are keeps;
        more = keeps.more;
      }

  -- ---- arms and the last block

  -- conditions with their blocks, as a stretch
  abbrev arms_stretch : List (Expr × Block) → Stretch (List (TypedExpr × TypedBlock))
  arms_stretch arms = sequence_of (map (arm_step around answer) (map (λ arm. (arm.0, block_passage around answer arm.1)) arms))

  arms_keep : (arms : List (Expr × Block)) → AllByRecursion IsFitArm arms → (scope : Scope) (locals : Locals) → AreLocals scope locals → (arms_stretch arms locals).faults ≡ []
      → Keeps (AreArms typed own answer scope) locals (arms_stretch arms locals)
  arms_keep [] fit scope locals are none = record { is = AreArms.no_arm; same = refl; few = are.few; more = omega arith }
  arms_keep (arm ∷ arms) fit scope locals are none =
      let report = report_of around locals.visible arm.0 in
      let inner = block_passage around answer arm.1 locals in
      let others = arms_stretch arms inner.after in
      let first = none_front (faults_for (Some Flag) report ++ inner.faults) others.faults none in
      let keeps = fit.0.1 scope locals are (none_behind (faults_for (Some Flag) report) inner.faults first) in
      let rest = arms_keep arms fit.1 scope inner.after (kept (IsBlock typed own answer scope) scope locals inner are keeps) (none_behind (faults_for (Some Flag) report ++ inner.faults) others.faults none) in
      record {
        is = AreArms.arm (has_type typed own scope Flag report (fit.0.0 scope locals.visible (seen scope locals are)) (none_front (faults_for (Some Flag) report) inner.faults first)) keeps.is rest.is;
        same = rest.same ∙ keeps.same;
        few = rest.few;
        more = omega (arith, keeps.more, rest.more);
      }

  abbrev pub IsFitLast : Option Block → Type 0
  IsFitLast None = Unit {0}
  IsFitLast (Some body) = IsFitBlock body

  last_keeps : (last : Option Block) → IsFitLast last → (scope : Scope) (locals : Locals) → AreLocals scope locals → (last_step around answer (option_map (block_passage around answer) last) locals).faults ≡ []
      → Keeps (IsLast typed own answer scope) locals (last_step around answer (option_map (block_passage around answer) last) locals)
  last_keeps None fit scope locals are none = record { is = IsLast.no_last; same = refl; few = are.few; more = omega arith }
  last_keeps (Some body) fit scope locals are none =
      let keeps = fit scope locals are none in
      record { is = IsLast.last keeps.is; same = keeps.same; few = keeps.few; more = keeps.more }

  pub if_goes : (first : Expr × Block) (arms : List (Expr × Block)) (last : Option Block) → AllByRecursion IsFitArm (first ∷ arms) → IsFitLast last → (scope : Scope) (locals : Locals) → AreLocals scope locals
      → Goes scope locals (stmt_step around answer (Stmt-F.If (map (λ arm. (arm.0, block_passage around answer arm.1)) (first ∷ arms)) (option_map (block_passage around answer) last)) locals)
  if_goes first arms last fit last_fit scope locals are none =
      let all = arms_stretch (first ∷ arms) locals in
      let end = last_step around answer (option_map (block_passage around answer) last) all.after in
      let keeps = arms_keep (first ∷ arms) fit scope locals are (none_front all.faults end.faults none) in
      let between = kept (AreArms typed own answer scope) scope locals all are keeps in
      let ends = last_keeps last last_fit scope all.after between (none_behind all.faults end.faults none) in
      record {
        behind = scope;
        is = IsStmt.choice keeps.is ends.is;
        after = kept (IsLast typed own answer scope) scope all.after end between ends;
        more = omega (arith, keeps.more, ends.more);
      }

  -- ---- statements one behind the other

  pub record Ends (scope : Scope) (locals : Locals) (p : Passage (List TypedStmt)) : Type 0 where
    pub is : AreStmts typed own answer scope locals.next p.form p.after.next
    pub few : p.after.next ≤ MAX_LOCALS
    pub more : locals.next ≤ p.after.next

  stmts_end : (stmts : List Stmt) → AllByRecursion IsFitStmt stmts → (scope : Scope) (locals : Locals) → AreLocals scope locals → (sequence_of (map (stmt_passage around answer) stmts) locals).faults ≡ []
      → Ends scope locals (sequence_of (map (stmt_passage around answer) stmts) locals)
  stmts_end [] fit scope locals are none = record { is = AreStmts.no_stmt; few = are.few; more = omega arith }
  stmts_end (s ∷ stmts) fit scope locals are none =
      let first = stmt_passage around answer s locals in
      let others = sequence_of (map (stmt_passage around answer) stmts) first.after in
      let goes = fit.0 scope locals are (none_front first.faults others.faults none) in
      let rest = stmts_end stmts fit.1 goes.behind first.after goes.after (none_behind first.faults others.faults none) in
      record { is = AreStmts.stmts goes.is rest.is; few = rest.few; more = omega (arith, goes.more, rest.more) }

  pub block_keeps : (stmts : List Stmt) → AllByRecursion IsFitStmt stmts → (scope : Scope) (locals : Locals) → AreLocals scope locals
      → (block_end locals (sequence_of (map (stmt_passage around answer) stmts) locals)).faults ≡ [] → Keeps (IsBlock typed own answer scope) locals (block_end locals (sequence_of (map (stmt_passage around answer) stmts) locals))
  block_keeps stmts fit scope locals are none =
      let ends = stmts_end stmts fit scope locals are none in
      record { is = IsBlock.block ends.is; same = refl; few = ends.few; more = ends.more }
