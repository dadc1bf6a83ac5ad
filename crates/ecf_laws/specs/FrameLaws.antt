-- The induction over the forms of the language. A relation of parts of runs that each way of making parts keeps
-- holds of what any form does in two frames of one object.
use Rattle.std.proofs.Common.{◌≡◌, ℕ, zero, suc, List, [], ◌∷◌, map, Option, Some, None, sym, subst}
use Rattle.std.specs.Prelude.{Result, Ok, Err}
use Rattle.ecf_lang.specs.declared.cell.Cell.{Cell}
use Rattle.ecf_lang.specs.declared.costs.TheConstants.{STATEMENT, LEAF, READ, WRITE, OPERATOR, TEST, EXTERNAL_CALL, INTERNAL_CALL}
use Rattle.ecf_lang.specs.declared.run.Cause.{Cause}
use Rattle.ecf_lang.specs.declared.run.Cause.TheVariants.{User, NoMethod}
use Rattle.ecf_lang.specs.declared.tree.Op.{Op}
use Rattle.ecf_lang.specs.declared.typed.Place.{Place}
use Rattle.ecf_lang.specs.declared.typed.Place.TheVariants as place
use Rattle.ecf_lang.specs.declared.typed.Assignee.{Assignee}
use Rattle.ecf_lang.specs.declared.typed.Assignee.TheVariants as assignee
use Rattle.ecf_lang.specs.declared.typed.TypedMethod.{TypedMethod}
use Rattle.ecf_lang.specs.declared.typed.TypedExpr.{TypedExpr, TypedExpr-F, roll-TypedExpr, fold-roll-TypedExpr, map-TypedExpr, ind-TypedExpr}
use Rattle.ecf_lang.specs.declared.typed.TypedCall.{TypedCall, TypedCall-F, roll-TypedCall, fold-roll-TypedCall, map-TypedCall, ind-TypedCall}
use Rattle.ecf_lang.specs.declared.typed.TypedStmt.{TypedStmt, TypedStmt-F, roll-TypedStmt, fold-roll-TypedStmt, map-TypedStmt, ind-TypedStmt}
use Rattle.ecf_lang.specs.declared.typed.TypedBlock.{TypedBlock, TypedBlock-F, roll-TypedBlock, fold-roll-TypedBlock, map-TypedBlock, ind-TypedBlock}
use Rattle.ecf_lang.specs.Store.{Store}
use Rattle.ecf_lang.specs.Part.{Part, ◌>>=◌, pure, revert, pay, read_cell, write_cell}
use Rattle.ecf_lang.specs.Meaning.{Opens, Frame, Flow, Continues, Returns, Action, go_on, value_of, answer_of, expr_step, call_step, stmt_of, block_of, stmt_step, block_step, name_value, chain, all_true, any_true, first_then, each, at_zero, or_revert, op_value, sequence, flag_of, branch, turns, assign, body_of, locals_of, flow_answer}

-- a read of a cell, behind its charge
abbrev pub charged_read : Store → ℕ → Cell → Part ℕ
charged_read store inv cell = pay inv READ >>= (λ _. read_cell store inv cell)

-- a write of a number into a cell, behind its charge, and then a value
abbrev pub charged_write : {T : Type 0} → ℕ → Cell → ℕ → T → Part T
charged_write inv cell value x = pay inv WRITE >>= (λ _. write_cell inv cell value >>= (λ _. pure x))

-- the ways in which parts are made keep the relation of a part in one frame of an object to the same part in another
pub record IsClosed (A B : Store) (here i j : ℕ) (R : (T : Type 0) → Part T → Part T → Type 0) : Type 1 where
  pub pures : {T : Type 0} (x : T) → R _ (pure x) (pure x)
  pub reverts : {T : Type 0} (cause : Cause) → R T (revert cause) (revert cause)
  pub binds : {S T : Type 0} {m n : Part S} {f g : S → Part T} → R _ m n → ((x : S) → R _ (f x) (g x)) → R _ (m >>= f) (n >>= g)
  pub pays : (n : ℕ) → R _ (pay i n) (pay j n)
  pub reads : (field key : ℕ) → R _ (charged_read A i (record { object = here; field = field; key = key })) (charged_read B j (record { object = here; field = field; key = key }))
  pub writes : {T : Type 0} (field key value : ℕ) (x : T) → R _ (charged_write i (record { object = here; field = field; key = key }) value x) (charged_write j (record { object = here; field = field; key = key }) value x)
  pub loops : (a b : Opens) (cond : TypedExpr) (d e : Action) →
      ((locals : List ℕ) → R _ (value_of A (record { here = here; inv = i; opens = a }) locals cond) (value_of B (record { here = here; inv = j; opens = b }) locals cond)) →
      ((locals : List ℕ) → R _ (d locals) (e locals)) → (locals : List ℕ) →
      R _ (λ s. turns A (record { here = here; inv = i; opens = a }) (suc s.fuel) cond d locals s) (λ s. turns B (record { here = here; inv = j; opens = b }) (suc s.fuel) cond e locals s)

-- what the calls in two frames do
pub record OpensAlike (R : (T : Type 0) → Part T → Part T → Type 0) (a b : Opens) : Type 0 where
  pub internal : (name : ℕ) (args : List ℕ) → R _ (a.internal name args) (b.internal name args)
  pub external : (to name : ℕ) (args : List ℕ) → R _ (a.external to name args) (b.external to name args)
  pub attempt : (to name : ℕ) (args : List ℕ) → R _ (a.attempt to name args) (b.attempt to name args)

module _ (A B : Store) (here i j : ℕ) (R : (T : Type 0) → Part T → Part T → Type 0) (closed : IsClosed A B here i j R) where
  or_reverts : (r : Result ℕ Cause) → R _ (or_revert r) (or_revert r)
  or_reverts (Ok v) = closed.pures v
  or_reverts (Err cause) = closed.reverts cause

  zero_or : {T : Type 0} (x : ℕ) {k l m n : Part T} → R _ k l → R _ m n → R _ (at_zero x k m) (at_zero x l n)
  zero_or zero h l = h
  zero_or (suc x) h l = l

  module _ (a b : Opens) (opens : OpensAlike R a b) where
    abbrev f : Frame
    f = record { here = here; inv = i; opens = a }

    abbrev g : Frame
    g = record { here = here; inv = j; opens = b }

    abbrev Alike : {T : Type 0} → Part T → Part T → Type 0
    Alike m n = R _ m n

    module _ (locals : List ℕ) where
      abbrev Value : TypedExpr → Type 0
      Value e = Alike (value_of A f locals e) (value_of B g locals e)

      abbrev Answer : TypedCall → Type 0
      Answer c = Alike (answer_of A f locals c) (answer_of B g locals c)

      chained : (x : ℕ) (rest : List (Op × ((e : TypedExpr) × Value e))) → Alike (chain A f x (map (λ (p : Op × TypedExpr). (p.0, value_of A f locals p.1)) (map (λ (p : Op × ((e : TypedExpr) × Value e)). (p.0, p.1.0)) rest))) (chain B g x (map (λ (p : Op × TypedExpr). (p.0, value_of B g locals p.1)) (map (λ (p : Op × ((e : TypedExpr) × Value e)). (p.0, p.1.0)) rest)))
      chained x [] = closed.pures x
      chained x (p ∷ rest) = closed.binds p.1.1 (λ y. closed.binds (closed.pays OPERATOR) (λ _. closed.binds (or_reverts (op_value p.0 x y)) (λ z. chained z rest)))

      all_trues : (x : ℕ) (es : List ((e : TypedExpr) × Value e)) → Alike (all_true A f x (map (value_of A f locals) (map (λ e. e.0) es))) (all_true B g x (map (value_of B g locals) (map (λ e. e.0) es)))
      all_trues x [] = closed.pures x
      all_trues x (e ∷ es) = closed.binds (closed.pays TEST) (λ _. zero_or x (closed.pures x) (closed.binds e.1 (λ y. all_trues y es)))

      any_trues : (x : ℕ) (es : List ((e : TypedExpr) × Value e)) → Alike (any_true A f x (map (value_of A f locals) (map (λ e. e.0) es))) (any_true B g x (map (value_of B g locals) (map (λ e. e.0) es)))
      any_trues x [] = closed.pures x
      any_trues x (e ∷ es) = closed.binds (closed.pays TEST) (λ _. zero_or x (closed.binds e.1 (λ y. any_trues y es)) (closed.pures x))

      eaches : (es : List ((e : TypedExpr) × Value e)) (p q : List ℕ → Part ℕ) → ((xs : List ℕ) → Alike (p xs) (q xs)) → Alike (each A f (map (value_of A f locals) (map (λ e. e.0) es)) p) (each B g (map (value_of B g locals) (map (λ e. e.0) es)) q)
      eaches [] p q h = h []
      eaches (e ∷ es) p q h = closed.binds e.1 (λ x. eaches es (λ xs. p (x ∷ xs)) (λ xs. q (x ∷ xs)) (λ xs. h (x ∷ xs)))

      firsts_and : (es : List ((e : TypedExpr) × Value e)) → Alike (first_then A f (map (value_of A f locals) (map (λ e. e.0) es)) (all_true A f)) (first_then B g (map (value_of B g locals) (map (λ e. e.0) es)) (all_true B g))
      firsts_and [] = closed.pures 0
      firsts_and (e ∷ es) = closed.binds e.1 (λ x. all_trues x es)

      firsts_or : (es : List ((e : TypedExpr) × Value e)) → Alike (first_then A f (map (value_of A f locals) (map (λ e. e.0) es)) (any_true A f)) (first_then B g (map (value_of B g locals) (map (λ e. e.0) es)) (any_true B g))
      firsts_or [] = closed.pures 0
      firsts_or (e ∷ es) = closed.binds e.1 (λ x. any_trues x es)

      names : (p : Place) → Alike (name_value A f locals p) (name_value B g locals p)
      names (place.Local n) = closed.binds (closed.pays LEAF) (λ _. closed.pures _)
      names (place.Plain field) = closed.reads field 0
      names (place.Object object) = closed.binds (closed.pays LEAF) (λ _. closed.pures object)

      abbrev Parts : Type 0
      Parts = TypedExpr-F ((c : TypedCall) × Answer c) ((e : TypedExpr) × Value e)

      expr_layer : (y : Parts) → Alike (expr_step A f locals (map-TypedExpr _ _ _ _ (answer_of A f locals) (value_of A f locals) (map-TypedExpr _ _ _ _ (λ c. c.0) (λ e. e.0) y))) (expr_step B g locals (map-TypedExpr _ _ _ _ (answer_of B g locals) (value_of B g locals) (map-TypedExpr _ _ _ _ (λ c. c.0) (λ e. e.0) y)))
      expr_layer (TypedExpr-F.Number v) = closed.binds (closed.pays LEAF) (λ _. closed.pures v)
      expr_layer (TypedExpr-F.Flag v) = closed.binds (closed.pays LEAF) (λ _. closed.pures (flag_of v))
      expr_layer TypedExpr-F.Here = closed.binds (closed.pays LEAF) (λ _. closed.pures here)
      expr_layer (TypedExpr-F.Name p) = names p
      expr_layer (TypedExpr-F.At field key) = closed.binds key.1 (λ k. closed.reads field k)
      expr_layer (TypedExpr-F.Call call) = call.1
      expr_layer (TypedExpr-F.Not e) = closed.binds e.1 (λ x. closed.binds (closed.pays OPERATOR) (λ _. closed.pures (at_zero x 1 0)))
      expr_layer (TypedExpr-F.Product first rest) = closed.binds first.1 (λ x. chained x rest)
      expr_layer (TypedExpr-F.Sum first rest) = closed.binds first.1 (λ x. chained x rest)
      expr_layer (TypedExpr-F.Compare left op right) = closed.binds left.1 (λ x. closed.binds right.1 (λ y. closed.binds (closed.pays OPERATOR) (λ _. or_reverts (op_value op x y))))
      expr_layer (TypedExpr-F.And parts) = firsts_and parts
      expr_layer (TypedExpr-F.Or parts) = firsts_or parts

      call_layer : (y : TypedCall-F ((c : TypedCall) × Answer c) ((e : TypedExpr) × Value e)) → Alike (call_step A f (map-TypedCall _ _ _ _ (answer_of A f locals) (value_of A f locals) (map-TypedCall _ _ _ _ (λ c. c.0) (λ e. e.0) y))) (call_step B g (map-TypedCall _ _ _ _ (answer_of B g locals) (value_of B g locals) (map-TypedCall _ _ _ _ (λ c. c.0) (λ e. e.0) y)))
      call_layer (TypedCall-F.External target name args) = closed.binds target.1 (λ to. eaches args _ _ (λ xs. closed.binds (closed.pays EXTERNAL_CALL) (λ _. opens.external to name xs)))
      call_layer (TypedCall-F.Internal name args) = eaches args _ _ (λ xs. closed.binds (closed.pays INTERNAL_CALL) (λ _. opens.internal name xs))

    expr_roll : (store : Store) (frame : Frame) (locals : List ℕ) (e : TypedExpr-F TypedCall TypedExpr) → value_of store frame locals (roll-TypedExpr e) ≡ expr_step store frame locals (map-TypedExpr _ _ _ _ (answer_of store frame locals) (value_of store frame locals) e)
    unfolding value_of answer_of
    expr_roll store frame locals e = fold-roll-TypedExpr (Part ℕ) (Part ℕ) (call_step store frame) (expr_step store frame locals) e

    call_roll : (store : Store) (frame : Frame) (locals : List ℕ) (c : TypedCall-F TypedCall TypedExpr) → answer_of store frame locals (roll-TypedCall c) ≡ call_step store frame (map-TypedCall _ _ _ _ (answer_of store frame locals) (value_of store frame locals) c)
    unfolding value_of answer_of
    call_roll store frame locals c = fold-roll-TypedCall (Part ℕ) (Part ℕ) (call_step store frame) (expr_step store frame locals) c

    expr_rolled : (locals : List ℕ) (l : TypedExpr-F TypedCall TypedExpr) → Alike (expr_step A f locals (map-TypedExpr _ _ _ _ (answer_of A f locals) (value_of A f locals) l)) (expr_step B g locals (map-TypedExpr _ _ _ _ (answer_of B g locals) (value_of B g locals) l)) → Value locals (roll-TypedExpr l)
    expr_rolled locals l h = subst (λ m. Alike m (value_of B g locals (roll-TypedExpr l))) (sym (expr_roll A f locals l)) (subst (λ n. Alike (expr_step A f locals (map-TypedExpr _ _ _ _ (answer_of A f locals) (value_of A f locals) l)) n) (sym (expr_roll B g locals l)) h)

    call_rolled : (locals : List ℕ) (l : TypedCall-F TypedCall TypedExpr) → Alike (call_step A f (map-TypedCall _ _ _ _ (answer_of A f locals) (value_of A f locals) l)) (call_step B g (map-TypedCall _ _ _ _ (answer_of B g locals) (value_of B g locals) l)) → Answer locals (roll-TypedCall l)
    call_rolled locals l h = subst (λ m. Alike m (answer_of B g locals (roll-TypedCall l))) (sym (call_roll A f locals l)) (subst (λ n. Alike (call_step A f (map-TypedCall _ _ _ _ (answer_of A f locals) (value_of A f locals) l)) n) (sym (call_roll B g locals l)) h)

    pub value_alike : (locals : List ℕ) (e : TypedExpr) → Value locals e
    value_alike locals = ind-TypedExpr (Answer locals) (Value locals)
        (λ x y is. subst (λ l. Answer locals (roll-TypedCall l)) is (call_rolled locals _ (call_layer locals y)))
        (λ x y is. subst (λ l. Value locals (roll-TypedExpr l)) is (expr_rolled locals _ (expr_layer locals y)))

    pub answer_alike : (locals : List ℕ) (c : TypedCall) → Answer locals c
    answer_alike locals = ind-TypedCall (Answer locals) (Value locals)
        (λ x y is. subst (λ l. Answer locals (roll-TypedCall l)) is (call_rolled locals _ (call_layer locals y)))
        (λ x y is. subst (λ l. Value locals (roll-TypedExpr l)) is (expr_rolled locals _ (expr_layer locals y)))

    abbrev DoesAlike : TypedStmt → Type 0
    DoesAlike t = (locals : List ℕ) → Alike (stmt_of A f t locals) (stmt_of B g t locals)

    abbrev BlockAlike : TypedBlock → Type 0
    BlockAlike b = (locals : List ℕ) → Alike (block_of A f b locals) (block_of B g b locals)

    on_alike : (flow : Flow) (d e : Action) → ((locals : List ℕ) → Alike (d locals) (e locals)) → Alike (go_on flow d) (go_on flow e)
    on_alike (Continues locals) d e h = h locals
    on_alike (Returns v) d e h = closed.pures (Returns v)

    turn_alike : (stmts : List ((t : TypedStmt) × DoesAlike t)) (locals : List ℕ) → Alike (sequence A f (map (stmt_of A f) (map (λ t. t.0) stmts)) locals) (sequence B g (map (stmt_of B g) (map (λ t. t.0) stmts)) locals)
    turn_alike [] locals = closed.pures (Continues locals)
    turn_alike (t ∷ stmts) locals = closed.binds (t.1 locals) (λ flow. on_alike flow _ _ (λ after. turn_alike stmts after))

    assign_alike : (to : Assignee) (v : ℕ) (locals : List ℕ) → Alike (assign A f to v locals) (assign B g to v locals)
    assign_alike (assignee.Local n) v locals = closed.pures _
    assign_alike (assignee.Plain field) v locals = closed.writes field 0 v (Continues locals)

    chosen_alike : (arms : List (TypedExpr × ((b : TypedBlock) × BlockAlike b))) (last other : Option Action) → ((locals : List ℕ) → Alike (branch A f [] last locals) (branch B g [] other locals)) → (locals : List ℕ) → Alike
        (branch A f (map (λ (arm : TypedExpr × TypedBlock). (arm.0, block_of A f arm.1)) (map (λ (arm : TypedExpr × ((b : TypedBlock) × BlockAlike b)). (arm.0, arm.1.0)) arms)) last locals)
        (branch B g (map (λ (arm : TypedExpr × TypedBlock). (arm.0, block_of B g arm.1)) (map (λ (arm : TypedExpr × ((b : TypedBlock) × BlockAlike b)). (arm.0, arm.1.0)) arms)) other locals)
    chosen_alike [] last other h locals = h locals
    chosen_alike (arm ∷ arms) last other h locals = closed.binds (value_alike locals arm.0) (λ x. zero_or x (chosen_alike arms last other h locals) (arm.1.1 locals))

    args_alike : (locals : List ℕ) (es : List TypedExpr) (p q : List ℕ → Part ℕ) → ((xs : List ℕ) → Alike (p xs) (q xs)) → Alike (each A f (map (λ e. value_of A f locals e) es) p) (each B g (map (λ e. value_of B g locals e) es) q)
    args_alike locals [] p q h = h []
    args_alike locals (e ∷ es) p q h = closed.binds (value_alike locals e) (λ x. args_alike locals es (λ xs. p (x ∷ xs)) (λ xs. q (x ∷ xs)) (λ xs. h (x ∷ xs)))

    abbrev StmtParts : Type 0
    StmtParts = TypedStmt-F ((t : TypedStmt) × DoesAlike t) ((b : TypedBlock) × BlockAlike b)

    stmt_layer : (y : StmtParts) (locals : List ℕ) → Alike (stmt_step A f (map-TypedStmt _ _ _ _ (stmt_of A f) (block_of A f) (map-TypedStmt _ _ _ _ (λ t. t.0) (λ b. b.0) y)) locals) (stmt_step B g (map-TypedStmt _ _ _ _ (stmt_of B g) (block_of B g) (map-TypedStmt _ _ _ _ (λ t. t.0) (λ b. b.0) y)) locals)
    stmt_layer (TypedStmt-F.Let n ty e) locals = closed.binds (closed.pays STATEMENT) (λ _. closed.binds (value_alike locals e) (λ v. closed.pures _))
    stmt_layer (TypedStmt-F.Try n target name args) locals = closed.binds (closed.pays STATEMENT) (λ _. closed.binds (value_alike locals target) (λ to. closed.binds (args_alike locals args _ _ (λ xs. closed.binds (closed.pays EXTERNAL_CALL) (λ _. opens.attempt to name xs))) (λ v. closed.pures _)))
    stmt_layer (TypedStmt-F.Set to e) locals = closed.binds (closed.pays STATEMENT) (λ _. closed.binds (value_alike locals e) (λ v. assign_alike to v locals))
    stmt_layer (TypedStmt-F.SetAt field key e) locals = closed.binds (closed.pays STATEMENT) (λ _. closed.binds (value_alike locals key) (λ k. closed.binds (value_alike locals e) (λ v. closed.writes field k v (Continues locals))))
    stmt_layer (TypedStmt-F.If arms None) locals = closed.binds (closed.pays STATEMENT) (λ _. chosen_alike arms None None (λ after. closed.pures (Continues after)) locals)
    stmt_layer (TypedStmt-F.If arms (Some last)) locals = closed.binds (closed.pays STATEMENT) (λ _. chosen_alike arms (Some (block_of A f last.0)) (Some (block_of B g last.0)) last.1 locals)
    stmt_layer (TypedStmt-F.While cond body) locals = closed.binds (closed.pays STATEMENT) (λ _. closed.loops a b cond _ _ (λ after. value_alike after cond) body.1 locals)
    stmt_layer (TypedStmt-F.Return e) locals = closed.binds (closed.pays STATEMENT) (λ _. closed.binds (value_alike locals e) (λ v. closed.pures (Returns v)))
    stmt_layer (TypedStmt-F.Revert e) locals = closed.binds (closed.pays STATEMENT) (λ _. closed.binds (value_alike locals e) (λ v. closed.reverts (User v)))
    stmt_layer (TypedStmt-F.Do call) locals = closed.binds (closed.pays STATEMENT) (λ _. closed.binds (answer_alike locals call) (λ _. closed.pures (Continues locals)))

    block_layer : (y : TypedBlock-F ((t : TypedStmt) × DoesAlike t) ((b : TypedBlock) × BlockAlike b)) (locals : List ℕ) → Alike (block_step A f (map-TypedBlock _ _ _ _ (stmt_of A f) (block_of A f) (map-TypedBlock _ _ _ _ (λ t. t.0) (λ b. b.0) y)) locals) (block_step B g (map-TypedBlock _ _ _ _ (stmt_of B g) (block_of B g) (map-TypedBlock _ _ _ _ (λ t. t.0) (λ b. b.0) y)) locals)
    block_layer y locals = turn_alike y.stmts locals

    stmt_roll : (store : Store) (frame : Frame) (t : TypedStmt-F TypedStmt TypedBlock) → stmt_of store frame (roll-TypedStmt t) ≡ stmt_step store frame (map-TypedStmt _ _ _ _ (stmt_of store frame) (block_of store frame) t)
    unfolding stmt_of block_of
    stmt_roll store frame t = fold-roll-TypedStmt Action Action (stmt_step store frame) (block_step store frame) t

    block_roll : (store : Store) (frame : Frame) (b : TypedBlock-F TypedStmt TypedBlock) → block_of store frame (roll-TypedBlock b) ≡ block_step store frame (map-TypedBlock _ _ _ _ (stmt_of store frame) (block_of store frame) b)
    unfolding stmt_of block_of
    block_roll store frame b = fold-roll-TypedBlock Action Action (stmt_step store frame) (block_step store frame) b

    stmt_rolled : (l : TypedStmt-F TypedStmt TypedBlock) → ((locals : List ℕ) → Alike (stmt_step A f (map-TypedStmt _ _ _ _ (stmt_of A f) (block_of A f) l) locals) (stmt_step B g (map-TypedStmt _ _ _ _ (stmt_of B g) (block_of B g) l) locals)) → DoesAlike (roll-TypedStmt l)
    stmt_rolled l h locals = subst (λ (d : Action). Alike (d locals) (stmt_of B g (roll-TypedStmt l) locals)) (sym (stmt_roll A f l)) (subst (λ (e : Action). Alike (stmt_step A f (map-TypedStmt _ _ _ _ (stmt_of A f) (block_of A f) l) locals) (e locals)) (sym (stmt_roll B g l)) (h locals))

    block_rolled : (l : TypedBlock-F TypedStmt TypedBlock) → ((locals : List ℕ) → Alike (block_step A f (map-TypedBlock _ _ _ _ (stmt_of A f) (block_of A f) l) locals) (block_step B g (map-TypedBlock _ _ _ _ (stmt_of B g) (block_of B g) l) locals)) → BlockAlike (roll-TypedBlock l)
    block_rolled l h locals = subst (λ (d : Action). Alike (d locals) (block_of B g (roll-TypedBlock l) locals)) (sym (block_roll A f l)) (subst (λ (e : Action). Alike (block_step A f (map-TypedBlock _ _ _ _ (stmt_of A f) (block_of A f) l) locals) (e locals)) (sym (block_roll B g l)) (h locals))

    pub stmt_alike : (t : TypedStmt) → DoesAlike t
    stmt_alike = ind-TypedStmt DoesAlike BlockAlike
        (λ x y is. subst (λ l. DoesAlike (roll-TypedStmt l)) is (stmt_rolled _ (stmt_layer y)))
        (λ x y is. subst (λ l. BlockAlike (roll-TypedBlock l)) is (block_rolled _ (block_layer y)))

    pub block_alike : (b : TypedBlock) → BlockAlike b
    block_alike = ind-TypedBlock DoesAlike BlockAlike
        (λ x y is. subst (λ l. DoesAlike (roll-TypedStmt l)) is (stmt_rolled _ (stmt_layer y)))
        (λ x y is. subst (λ l. BlockAlike (roll-TypedBlock l)) is (block_rolled _ (block_layer y)))

    pub body_alike : (method : Option TypedMethod) (args : List ℕ) → Alike (body_of A f method args) (body_of B g method args)
    body_alike None args = closed.reverts NoMethod
    body_alike (Some method) args = closed.binds (block_alike method.body (locals_of method args)) (λ flow. closed.pures (flow_answer flow))
