-- What each form of the language does, at a state: one equation a form.
use Rattle.std.proofs.Common.{◌≡◌, ℕ, suc, Bool, List, map, Option, Some, None, refl, ap, sym, ◌∙◌}
use Rattle.std.specs.Prelude.{slice_set}
use Rattle.std.specs.Option.{option_map}
use Rattle.ecf_lang.specs.declared.costs.TheConstants.{STATEMENT, LEAF, READ, WRITE, OPERATOR, EXTERNAL_CALL, INTERNAL_CALL}
use Rattle.ecf_lang.specs.declared.tree.Op.{Op}
use Rattle.ecf_lang.specs.declared.tree.Ty.{Ty}
use Rattle.ecf_lang.specs.declared.run.Cause.TheVariants.{User}
use Rattle.ecf_lang.specs.declared.typed.Place.{Place}
use Rattle.ecf_lang.specs.declared.typed.Assignee.{Assignee}
use Rattle.ecf_lang.specs.declared.typed.TypedExpr.{TypedExpr, TypedExpr-F, roll-TypedExpr, fold-roll-TypedExpr, map-TypedExpr}
use Rattle.ecf_lang.specs.declared.typed.TypedExpr.TheVariants as expr
use Rattle.ecf_lang.specs.declared.typed.TypedCall.{TypedCall, TypedCall-F, roll-TypedCall, fold-roll-TypedCall, map-TypedCall}
use Rattle.ecf_lang.specs.declared.typed.TypedCall.TheVariants as call
use Rattle.ecf_lang.specs.declared.typed.TypedStmt.{TypedStmt, TypedStmt-F, roll-TypedStmt, fold-roll-TypedStmt, map-TypedStmt}
use Rattle.ecf_lang.specs.declared.typed.TypedStmt.TheVariants as stmt
use Rattle.ecf_lang.specs.declared.typed.TypedBlock.{TypedBlock, out-TypedBlock, fold_out-TypedBlock}
use Rattle.ecf_lang.specs.declared.typed.Typed.{Typed}
use Rattle.ecf_lang.specs.Store.{Store}
use Rattle.ecf_lang.specs.Part.{State, Part, ◌>>=◌, ◌>>◌, pure, revert, write_cell}
use Rattle.ecf_lang.specs.Meaning.{Frame, Continues, Returns, Action, value_of, answer_of, expr_step, call_step, stmt_of, block_of, stmt_step, block_step, charge, own_cell, fetch, name_value, chain, all_true, any_true, first_then, each, at_zero, or_revert, op_value, sequence, flag_of, value_at, branch, turns, assign, ways, checked_call, body_of, frame_of}
use Rattle.ecf_lang.specs.Fits.{method_at}

module _ (store : Store) (frame : Frame) where
  module _ (locals : List ℕ) where
    abbrev value : TypedExpr → Part ℕ
    value e = value_of store frame locals e

    abbrev answer : TypedCall → Part ℕ
    answer c = answer_of store frame locals c

    value_roll : (e : TypedExpr-F TypedCall TypedExpr) → value_of store frame locals (roll-TypedExpr e) ≡ expr_step store frame locals (map-TypedExpr _ _ _ _ answer value e)
    unfolding value_of answer_of
    value_roll e = fold-roll-TypedExpr (Part ℕ) (Part ℕ) (call_step store frame) (expr_step store frame locals) e

    answer_roll : (c : TypedCall-F TypedCall TypedExpr) → answer_of store frame locals (roll-TypedCall c) ≡ call_step store frame (map-TypedCall _ _ _ _ answer value c)
    unfolding value_of answer_of
    answer_roll c = fold-roll-TypedCall (Part ℕ) (Part ℕ) (call_step store frame) (expr_step store frame locals) c

    pub value_number : (v : ℕ) (s : State) → value (expr.Number v) s ≡ (charge store frame LEAF >> pure v) s
    value_number v s = ap (λ e. value e s) (sym (expr.rolls-Number v)) ∙ ap (λ f. f s) (value_roll _)

    pub value_flag : (b : Bool) (s : State) → value (expr.Flag b) s ≡ (charge store frame LEAF >> pure (flag_of b)) s
    value_flag b s = ap (λ e. value e s) (sym (expr.rolls-Flag b)) ∙ ap (λ f. f s) (value_roll _)

    pub value_here : (s : State) → value (expr.Here) s ≡ (charge store frame LEAF >> pure frame.here) s
    value_here s = ap (λ e. value e s) (sym (expr.rolls-Here)) ∙ ap (λ f. f s) (value_roll _)

    pub value_name : (place : Place) (s : State) → value (expr.Name place) s ≡ name_value store frame locals place s
    value_name place s = ap (λ e. value e s) (sym (expr.rolls-Name place)) ∙ ap (λ f. f s) (value_roll _)

    pub value_map_at : (field : ℕ) (key : TypedExpr) (s : State) → value (expr.At field key) s ≡ (value key >>= (λ k. charge store frame READ >> fetch store frame field k)) s
    value_map_at field key s = ap (λ e. value e s) (sym (expr.rolls-At field key)) ∙ ap (λ f. f s) (value_roll _)

    pub value_call : (c : TypedCall) (s : State) → value (expr.Call c) s ≡ answer c s
    value_call c s = ap (λ e. value e s) (sym (expr.rolls-Call c)) ∙ ap (λ f. f s) (value_roll _)

    pub value_not : (e : TypedExpr) (s : State) → value (expr.Not e) s ≡ (value e >>= (λ x. charge store frame OPERATOR >> pure (at_zero x 1 0))) s
    value_not e s = ap (λ e. value e s) (sym (expr.rolls-Not e)) ∙ ap (λ f. f s) (value_roll _)

    pub value_product : (first : TypedExpr) (rest : List (Op × TypedExpr)) (s : State) → value (expr.Product first rest) s ≡ (value first >>= (λ x. chain store frame x (map (λ p. (p.0, value p.1)) rest))) s
    value_product first rest s = ap (λ e. value e s) (sym (expr.rolls-Product first rest)) ∙ ap (λ f. f s) (value_roll _)

    pub value_sum : (first : TypedExpr) (rest : List (Op × TypedExpr)) (s : State) → value (expr.Sum first rest) s ≡ (value first >>= (λ x. chain store frame x (map (λ p. (p.0, value p.1)) rest))) s
    value_sum first rest s = ap (λ e. value e s) (sym (expr.rolls-Sum first rest)) ∙ ap (λ f. f s) (value_roll _)

    pub value_compare : (left : TypedExpr) (op : Op) (right : TypedExpr) (s : State) → value (expr.Compare left op right) s ≡ (value left >>= (λ x. value right >>= (λ y. charge store frame OPERATOR >> or_revert (op_value op x y)))) s
    value_compare left op right s = ap (λ e. value e s) (sym (expr.rolls-Compare left op right)) ∙ ap (λ f. f s) (value_roll _)

    pub value_and : (parts : List TypedExpr) (s : State) → value (expr.And parts) s ≡ first_then store frame (map value parts) (all_true store frame) s
    value_and parts s = ap (λ e. value e s) (sym (expr.rolls-And parts)) ∙ ap (λ f. f s) (value_roll _)

    pub value_or : (parts : List TypedExpr) (s : State) → value (expr.Or parts) s ≡ first_then store frame (map value parts) (any_true store frame) s
    value_or parts s = ap (λ e. value e s) (sym (expr.rolls-Or parts)) ∙ ap (λ f. f s) (value_roll _)

    pub answer_external : (target : TypedExpr) (name : ℕ) (args : List TypedExpr) (s : State) → answer (call.External target name args) s ≡ (value target >>= (λ to. each store frame (map value args) (λ xs. charge store frame EXTERNAL_CALL >> frame.opens.external to name xs))) s
    answer_external target name args s = ap (λ c. answer c s) (sym (call.rolls-External target name args)) ∙ ap (λ f. f s) (answer_roll _)

    pub answer_internal : (name : ℕ) (args : List TypedExpr) (s : State) → answer (call.Internal name args) s ≡ each store frame (map value args) (λ xs. charge store frame INTERNAL_CALL >> frame.opens.internal name xs) s
    answer_internal name args s = ap (λ c. answer c s) (sym (call.rolls-Internal name args)) ∙ ap (λ f. f s) (answer_roll _)

  abbrev stmt_does : TypedStmt → Action
  stmt_does t = stmt_of store frame t

  abbrev block : TypedBlock → Action
  block b = block_of store frame b

  stmt_roll : (t : TypedStmt-F TypedStmt TypedBlock) → stmt_of store frame (roll-TypedStmt t) ≡ stmt_step store frame (map-TypedStmt _ _ _ _ stmt_does block t)
  unfolding stmt_of block_of
  stmt_roll t = fold-roll-TypedStmt Action Action (stmt_step store frame) (block_step store frame) t

  pub stmt_let : (n : ℕ) (ty : Ty) (e : TypedExpr) (locals : List ℕ) (s : State) → stmt_does (stmt.Let n ty e) locals s ≡ (charge store frame STATEMENT >> (value_at store frame e locals >>= (λ v. pure (Continues (slice_set locals n v))))) s
  stmt_let n ty e locals s = ap (λ t. stmt_does t locals s) (sym (stmt.rolls-Let n ty e)) ∙ ap (λ f. f locals s) (stmt_roll _)

  pub stmt_try : (n : ℕ) (target : TypedExpr) (name : ℕ) (args : List TypedExpr) (locals : List ℕ) (s : State) → stmt_does (stmt.Try n target name args) locals s ≡ (charge store frame STATEMENT >> (value_at store frame target locals >>= (λ to. each store frame (map (λ arg. value_at store frame arg locals) args) (λ xs. charge store frame EXTERNAL_CALL >> frame.opens.attempt to name xs) >>= (λ v. pure (Continues (slice_set locals n v)))))) s
  stmt_try n target name args locals s = ap (λ t. stmt_does t locals s) (sym (stmt.rolls-Try n target name args)) ∙ ap (λ f. f locals s) (stmt_roll _)

  pub stmt_set : (to : Assignee) (e : TypedExpr) (locals : List ℕ) (s : State) → stmt_does (stmt.Set to e) locals s ≡ (charge store frame STATEMENT >> (value_at store frame e locals >>= (λ v. assign store frame to v locals))) s
  stmt_set to e locals s = ap (λ t. stmt_does t locals s) (sym (stmt.rolls-Set to e)) ∙ ap (λ f. f locals s) (stmt_roll _)

  pub stmt_set_at : (field : ℕ) (key e : TypedExpr) (locals : List ℕ) (s : State) → stmt_does (stmt.SetAt field key e) locals s ≡ (charge store frame STATEMENT >> (value_at store frame key locals >>= (λ k. value_at store frame e locals >>= (λ v. charge store frame WRITE >> (write_cell frame.inv (own_cell store frame field k) v >> pure (Continues locals)))))) s
  stmt_set_at field key e locals s = ap (λ t. stmt_does t locals s) (sym (stmt.rolls-SetAt field key e)) ∙ ap (λ f. f locals s) (stmt_roll _)

  pub stmt_while : (cond : TypedExpr) (body : TypedBlock) (locals : List ℕ) (s : State) → stmt_does (stmt.While cond body) locals s ≡ (charge store frame STATEMENT >> (λ state. turns store frame (suc state.fuel) cond (block body) locals state)) s
  stmt_while cond body locals s = ap (λ t. stmt_does t locals s) (sym (stmt.rolls-While cond body)) ∙ ap (λ f. f locals s) (stmt_roll _)

  pub stmt_return : (e : TypedExpr) (locals : List ℕ) (s : State) → stmt_does (stmt.Return e) locals s ≡ (charge store frame STATEMENT >> (value_at store frame e locals >>= (λ v. pure (Returns v)))) s
  stmt_return e locals s = ap (λ t. stmt_does t locals s) (sym (stmt.rolls-Return e)) ∙ ap (λ f. f locals s) (stmt_roll _)

  pub stmt_revert : (e : TypedExpr) (locals : List ℕ) (s : State) → stmt_does (stmt.Revert e) locals s ≡ (charge store frame STATEMENT >> (value_at store frame e locals >>= (λ v. revert (User v)))) s
  stmt_revert e locals s = ap (λ t. stmt_does t locals s) (sym (stmt.rolls-Revert e)) ∙ ap (λ f. f locals s) (stmt_roll _)

  pub stmt_do : (c : TypedCall) (locals : List ℕ) (s : State) → stmt_does (stmt.Do c) locals s ≡ (charge store frame STATEMENT >> (answer_of store frame locals c >>= (λ _. pure (Continues locals)))) s
  stmt_do c locals s = ap (λ t. stmt_does t locals s) (sym (stmt.rolls-Do c)) ∙ ap (λ f. f locals s) (stmt_roll _)

  pub stmt_if : (arms : List (TypedExpr × TypedBlock)) (last : Option TypedBlock) (locals : List ℕ) (s : State) → stmt_does (stmt.If arms last) locals s ≡ (charge store frame STATEMENT >> branch store frame (map (λ arm. (arm.0, block arm.1)) arms) (option_map block last) locals) s
  stmt_if arms None locals s = ap (λ t. stmt_does t locals s) (sym (stmt.rolls-If arms None)) ∙ ap (λ f. f locals s) (stmt_roll _)
  stmt_if arms (Some last) locals s = ap (λ t. stmt_does t locals s) (sym (stmt.rolls-If arms (Some last))) ∙ ap (λ f. f locals s) (stmt_roll _)

  pub block_is : (b : TypedBlock) (locals : List ℕ) (s : State) → block b locals s ≡ sequence store frame (map stmt_does (out-TypedBlock b).stmts) locals s
  unfolding stmt_of block_of
  block_is b locals s = ap (λ f. f locals s) (fold_out-TypedBlock Action Action (stmt_step store frame) (block_step store frame) b)

module _ (typed : Typed) (store : Store) where
  -- a new invocation, where one more frame may be opened
  pub anew_is : (room to name : ℕ) (args : List ℕ) (s : State) → (ways typed store (suc room)).anew to name args s ≡ checked_call typed store (ways typed store room) to name args s
  unfolding ways
  anew_is room to name args s = refl

  -- an internal call, where one more frame may be opened
  pub within_is : (room here inv name : ℕ) (args : List ℕ) (s : State) → (ways typed store (suc room)).within here inv name args s ≡ body_of store (frame_of typed store (ways typed store room) here inv) (method_at typed here name) args s
  unfolding ways
  within_is room here inv name args s = refl
