-- A run computed by the kernel: what each form does, by recursion on a value that shows how the form is built.
use Rattle.std.proofs.Common.{◌≡◌, ℕ, zero, suc, Bool, List, [], ◌∷◌, map, Option, Some, None, refl, ap, sym, ◌∙◌}
use Rattle.std.specs.Prelude.{slice_set}
use Rattle.ecf_lang.specs.declared.costs.TheConstants.{STATEMENT, TURN, WRITE, EXTERNAL_CALL}
use Rattle.ecf_lang.specs.declared.tree.Op.{Op}
use Rattle.ecf_lang.specs.declared.tree.Ty.{Ty}
use Rattle.ecf_lang.specs.declared.run.Cause.TheVariants.{User}
use Rattle.ecf_lang.specs.declared.typed.Place.{Place}
use Rattle.ecf_lang.specs.declared.typed.Assignee.{Assignee}
use Rattle.ecf_lang.specs.declared.typed.TypedExpr.{TypedExpr, TypedExpr-F, roll-TypedExpr, fold-roll-TypedExpr, map-TypedExpr}
use Rattle.ecf_lang.specs.declared.typed.TypedExpr.TheVariants as expr
use Rattle.ecf_lang.specs.declared.typed.TypedCall.{TypedCall, TypedCall-F, roll-TypedCall, fold-roll-TypedCall, map-TypedCall}
use Rattle.ecf_lang.specs.declared.typed.TypedCall.TheVariants as call
use Rattle.ecf_lang.specs.declared.typed.TypedStmt.{TypedStmt, TypedStmt-F, roll-TypedStmt, fold-roll-TypedStmt, map-TypedStmt}
use Rattle.ecf_lang.specs.declared.typed.TypedStmt.TheVariants as stmt
use Rattle.ecf_lang.specs.declared.typed.TypedBlock.{TypedBlock, roll-TypedBlock, fold-roll-TypedBlock}
use Rattle.ecf_lang.specs.Store.{Store}
use Rattle.ecf_lang.specs.Part.{Part, Exit, RunsOut, after, ◌>>=◌, ◌>>◌, pure, revert, write_cell}
use Rattle.ecf_lang.specs.Meaning.{Frame, Continues, Returns, Action, go_on, value_of, answer_of, expr_step, call_step, stmt_of, block_of, stmt_step, block_step, charge, own_cell, each, at_zero, sequence, branch, turns, assign}

mutual
  -- an expression, and how it is built
  pub data Expr : TypedExpr → Type 0 where
    number : (v : ℕ) → Expr (expr.Number v)
    flag : (b : Bool) → Expr (expr.Flag b)
    here : Expr expr.Here
    name : (p : Place) → Expr (expr.Name p)
    at : (m : ℕ) {k : TypedExpr} → Expr k → Expr (expr.At m k)
    call_value : {c : TypedCall} → Call c → Expr (expr.Call c)
    negation : {e : TypedExpr} → Expr e → Expr (expr.Not e)
    product : {e : TypedExpr} {rest : List (Op × TypedExpr)} → Expr e → Rest rest → Expr (expr.Product e rest)
    sum : {e : TypedExpr} {rest : List (Op × TypedExpr)} → Expr e → Rest rest → Expr (expr.Sum e rest)
    compare : {l : TypedExpr} (op : Op) {r : TypedExpr} → Expr l → Expr r → Expr (expr.Compare l op r)
    both : {es : List TypedExpr} → Exprs es → Expr (expr.And es)
    either : {es : List TypedExpr} → Exprs es → Expr (expr.Or es)

  -- expressions one after the other
  pub data Exprs : List TypedExpr → Type 0 where
    no_expr : Exprs []
    exprs : {e : TypedExpr} {es : List TypedExpr} → Expr e → Exprs es → Exprs (e ∷ es)

  -- the further parts of a sum or product
  pub data Rest : List (Op × TypedExpr) → Type 0 where
    no_rest : Rest []
    rest : (op : Op) {e : TypedExpr} {es : List (Op × TypedExpr)} → Expr e → Rest es → Rest ((op, e) ∷ es)

  -- a call
  pub data Call : TypedCall → Type 0 where
    external : {t : TypedExpr} (n : ℕ) {es : List TypedExpr} → Expr t → Exprs es → Call (call.External t n es)
    internal : (n : ℕ) {es : List TypedExpr} → Exprs es → Call (call.Internal n es)

mutual
  -- a statement, and how it is built
  pub data Stmt : TypedStmt → Type 0 where
    let_local : (n : ℕ) (ty : Ty) {e : TypedExpr} → Expr e → Stmt (stmt.Let n ty e)
    let_try : (n : ℕ) {t : TypedExpr} (m : ℕ) {es : List TypedExpr} → Expr t → Exprs es → Stmt (stmt.Try n t m es)
    set : (to : Assignee) {e : TypedExpr} → Expr e → Stmt (stmt.Set to e)
    set_at : (m : ℕ) {k : TypedExpr} {e : TypedExpr} → Expr k → Expr e → Stmt (stmt.SetAt m k e)
    if_only : {a : List (TypedExpr × TypedBlock)} → Arms a → Stmt (stmt.If a None)
    if_else : {a : List (TypedExpr × TypedBlock)} {b : TypedBlock} → Arms a → Block b → Stmt (stmt.If a (Some b))
    while : {c : TypedExpr} {b : TypedBlock} → Expr c → Block b → Stmt (stmt.While c b)
    return : {e : TypedExpr} → Expr e → Stmt (stmt.Return e)
    revert_with : {e : TypedExpr} → Expr e → Stmt (stmt.Revert e)
    call_only : {c : TypedCall} → Call c → Stmt (stmt.Do c)

  -- statements one after the other
  pub data Stmts : List TypedStmt → Type 0 where
    no_stmt : Stmts []
    stmts : {t : TypedStmt} {ts : List TypedStmt} → Stmt t → Stmts ts → Stmts (t ∷ ts)

  -- a block
  pub data Block : TypedBlock → Type 0 where
    block : {ts : List TypedStmt} → Stmts ts → Block (roll-TypedBlock (record { stmts = ts }))

  -- the arms of an `if`
  pub data Arms : List (TypedExpr × TypedBlock) → Type 0 where
    no_arm : Arms []
    arms : {c : TypedExpr} {b : TypedBlock} {a : List (TypedExpr × TypedBlock)} → Expr c → Block b → Arms a → Arms ((c, b) ∷ a)

module _ (store : Store) (frame : Frame) where
  module _ (locals : List ℕ) where
    abbrev mutual
      pub expr_does : {e : TypedExpr} → Expr e → Part ℕ
      expr_does (number v) = expr_step store frame locals (TypedExpr-F.Number v)
      expr_does (flag b) = expr_step store frame locals (TypedExpr-F.Flag b)
      expr_does here = expr_step store frame locals TypedExpr-F.Here
      expr_does (name p) = expr_step store frame locals (TypedExpr-F.Name p)
      expr_does (at m k) = expr_step store frame locals (TypedExpr-F.At m (expr_does k))
      expr_does (call_value c) = call_does c
      expr_does (negation x) = expr_step store frame locals (TypedExpr-F.Not (expr_does x))
      expr_does (product x r) = expr_step store frame locals (TypedExpr-F.Product (expr_does x) (rest_does r))
      expr_does (sum x r) = expr_step store frame locals (TypedExpr-F.Sum (expr_does x) (rest_does r))
      expr_does (compare op x y) = expr_step store frame locals (TypedExpr-F.Compare (expr_does x) op (expr_does y))
      expr_does (both xs) = expr_step store frame locals (TypedExpr-F.And (exprs_do xs))
      expr_does (either xs) = expr_step store frame locals (TypedExpr-F.Or (exprs_do xs))

      pub exprs_do : {es : List TypedExpr} → Exprs es → List (Part ℕ)
      exprs_do no_expr = []
      exprs_do (exprs x xs) = expr_does x ∷ exprs_do xs

      pub rest_does : {es : List (Op × TypedExpr)} → Rest es → List (Op × Part ℕ)
      rest_does no_rest = []
      rest_does (rest op x r) = (op, expr_does x) ∷ rest_does r

      pub call_does : {c : TypedCall} → Call c → Part ℕ
      call_does (external n t xs) = call_step store frame (TypedCall-F.External (expr_does t) n (exprs_do xs))
      call_does (internal n xs) = call_step store frame (TypedCall-F.Internal n (exprs_do xs))

    abbrev value : TypedExpr → Part ℕ
    value e = value_of store frame locals e

    abbrev answer : TypedCall → Part ℕ
    answer c = answer_of store frame locals c

    by_expr : {e : TypedExpr} (f : TypedExpr-F TypedCall TypedExpr) {r : Part ℕ} → roll-TypedExpr f ≡ e → expr_step store frame locals (map-TypedExpr _ _ _ _ answer value f) ≡ r → value e ≡ r
    unfolding value_of answer_of
    by_expr f is does = ap value (sym is) ∙ fold-roll-TypedExpr (Part ℕ) (Part ℕ) (call_step store frame) (expr_step store frame locals) f ∙ does

    by_call : {c : TypedCall} (f : TypedCall-F TypedCall TypedExpr) {r : Part ℕ} → roll-TypedCall f ≡ c → call_step store frame (map-TypedCall _ _ _ _ answer value f) ≡ r → answer c ≡ r
    unfolding value_of answer_of
    by_call f is does = ap answer (sym is) ∙ fold-roll-TypedCall (Part ℕ) (Part ℕ) (call_step store frame) (expr_step store frame locals) f ∙ does

    mutual
      pub expr_is : {e : TypedExpr} (x : Expr e) → value e ≡ expr_does x
      expr_is (number v) = by_expr _ (expr.rolls-Number v) refl
      expr_is (flag b) = by_expr _ (expr.rolls-Flag b) refl
      expr_is here = by_expr _ expr.rolls-Here refl
      expr_is (name p) = by_expr _ (expr.rolls-Name p) refl
      expr_is (at m k) = by_expr _ (expr.rolls-At m _) (λ i. expr_step store frame locals (TypedExpr-F.At m (expr_is k i)))
      expr_is (call_value c) = by_expr _ (expr.rolls-Call _) (call_is c)
      expr_is (negation x) = by_expr _ (expr.rolls-Not _) (λ i. expr_step store frame locals (TypedExpr-F.Not (expr_is x i)))
      expr_is (product x r) = by_expr _ (expr.rolls-Product _ _) (λ i. expr_step store frame locals (TypedExpr-F.Product (expr_is x i) (rest_is r i)))
      expr_is (sum x r) = by_expr _ (expr.rolls-Sum _ _) (λ i. expr_step store frame locals (TypedExpr-F.Sum (expr_is x i) (rest_is r i)))
      expr_is (compare op x y) = by_expr _ (expr.rolls-Compare _ op _) (λ i. expr_step store frame locals (TypedExpr-F.Compare (expr_is x i) op (expr_is y i)))
      expr_is (both xs) = by_expr _ (expr.rolls-And _) (λ i. expr_step store frame locals (TypedExpr-F.And (exprs_are xs i)))
      expr_is (either xs) = by_expr _ (expr.rolls-Or _) (λ i. expr_step store frame locals (TypedExpr-F.Or (exprs_are xs i)))

      pub exprs_are : {es : List TypedExpr} (xs : Exprs es) → map value es ≡ exprs_do xs
      exprs_are no_expr = refl
      exprs_are (exprs x xs) = λ i. expr_is x i ∷ exprs_are xs i

      pub rest_is : {es : List (Op × TypedExpr)} (xs : Rest es) → map (λ p. (p.0, value p.1)) es ≡ rest_does xs
      rest_is no_rest = refl
      rest_is (rest op x r) = λ i. (op, expr_is x i) ∷ rest_is r i

      pub call_is : {c : TypedCall} (x : Call c) → answer c ≡ call_does x
      call_is (external n t xs) = by_call _ (call.rolls-External _ n _) (λ i. call_step store frame (TypedCall-F.External (expr_is t i) n (exprs_are xs i)))
      call_is (internal n xs) = by_call _ (call.rolls-Internal n _) (λ i. call_step store frame (TypedCall-F.Internal n (exprs_are xs i)))

  -- a value at given locals
  abbrev Value : Type 0
  Value = List ℕ → Part ℕ

  abbrev value_of_expr : {e : TypedExpr} → Expr e → Value
  value_of_expr x locals = expr_does locals x

  abbrev values_of : {es : List TypedExpr} → Exprs es → List ℕ → List (Part ℕ)
  values_of xs locals = exprs_do locals xs

  expr_at : {e : TypedExpr} (x : Expr e) → (λ locals. value_of store frame locals e) ≡ value_of_expr x
  expr_at x = λ i locals. expr_is locals x i

  exprs_at : {es : List TypedExpr} (xs : Exprs es) → (λ locals. map (λ e. value_of store frame locals e) es) ≡ values_of xs
  exprs_at xs = λ i locals. exprs_are locals xs i

  abbrev do_let : ℕ → Value → Action
  do_let n v locals = charge store frame STATEMENT >> (v locals >>= (λ x. pure (Continues (slice_set locals n x))))

  abbrev do_try : ℕ → ℕ → Value → (List ℕ → List (Part ℕ)) → Action
  do_try n m target args locals =
      charge store frame STATEMENT >> (target locals >>= (λ to.
      each store frame (args locals) (λ xs. charge store frame EXTERNAL_CALL >> frame.opens.attempt to m xs) >>= (λ v.
      pure (Continues (slice_set locals n v)))))

  abbrev do_set : Assignee → Value → Action
  do_set to v locals = charge store frame STATEMENT >> (v locals >>= (λ x. assign store frame to x locals))

  abbrev do_set_at : ℕ → Value → Value → Action
  do_set_at field key v locals =
      charge store frame STATEMENT >> (key locals >>= (λ k. v locals >>= (λ x.
      charge store frame WRITE >> (write_cell frame.inv (own_cell store frame field k) x >> pure (Continues locals)))))

  abbrev do_chosen : List (Value × Action) → Option Action → Action
  do_chosen [] None locals = pure (Continues locals)
  do_chosen [] (Some last) locals = last locals
  do_chosen ((cond, body) ∷ others) last locals =
      cond locals >>= (λ x. at_zero x (do_chosen others last locals) (body locals))

  abbrev do_if : List (Value × Action) → Option Action → Action
  do_if a last locals = charge store frame STATEMENT >> do_chosen a last locals

  abbrev do_turns : ℕ → Value → Action → Action
  do_turns zero cond body locals state = Exit RunsOut (record state { fuel = 0 })
  do_turns (suc n) cond body locals state =
      after (cond locals state) (λ x. at_zero x (pure (Continues locals)) (charge store frame TURN >> (body locals >>= (λ flow. go_on flow (do_turns n cond body)))))

  abbrev do_while : Value → Action → Action
  do_while cond body locals = charge store frame STATEMENT >> (λ state. do_turns (suc state.fuel) cond body locals state)

  abbrev do_return : Value → Action
  do_return v locals = charge store frame STATEMENT >> (v locals >>= (λ x. pure (Returns x)))

  abbrev do_revert : Value → Action
  do_revert v locals = charge store frame STATEMENT >> (v locals >>= (λ x. revert (User x)))

  abbrev do_call : Value → Action
  do_call v locals = charge store frame STATEMENT >> (v locals >>= (λ x. pure (Continues locals)))

  abbrev mutual
    pub stmt_does : {t : TypedStmt} → Stmt t → Action
    stmt_does (let_local n ty x) = do_let n (value_of_expr x)
    stmt_does (let_try n m t xs) = do_try n m (value_of_expr t) (values_of xs)
    stmt_does (set to x) = do_set to (value_of_expr x)
    stmt_does (set_at m k x) = do_set_at m (value_of_expr k) (value_of_expr x)
    stmt_does (if_only a) = do_if (arms_do a) None
    stmt_does (if_else a b) = do_if (arms_do a) (Some (block_does b))
    stmt_does (while c b) = do_while (value_of_expr c) (block_does b)
    stmt_does (return x) = do_return (value_of_expr x)
    stmt_does (revert_with x) = do_revert (value_of_expr x)
    stmt_does (call_only c) = do_call (λ locals. call_does locals c)

    pub stmts_do : {ts : List TypedStmt} → Stmts ts → List Action
    stmts_do no_stmt = []
    stmts_do (stmts t ts) = stmt_does t ∷ stmts_do ts

    pub block_does : {b : TypedBlock} → Block b → Action
    block_does (block ts) = sequence store frame (stmts_do ts)

    pub arms_do : {a : List (TypedExpr × TypedBlock)} → Arms a → List (Value × Action)
    arms_do no_arm = []
    arms_do (arms c b a) = (value_of_expr c, block_does b) ∷ arms_do a

  abbrev does : TypedStmt → Action
  does t = stmt_of store frame t

  abbrev block_doing : TypedBlock → Action
  block_doing b = block_of store frame b

  by_stmt : {t : TypedStmt} (f : TypedStmt-F TypedStmt TypedBlock) {r : Action} → roll-TypedStmt f ≡ t → stmt_step store frame (map-TypedStmt _ _ _ _ does block_doing f) ≡ r → does t ≡ r
  unfolding stmt_of block_of
  by_stmt f is d = ap does (sym is) ∙ fold-roll-TypedStmt Action Action (stmt_step store frame) (block_step store frame) f ∙ d

  by_block : (ts : List TypedStmt) {r : Action} → sequence store frame (map does ts) ≡ r → block_doing (roll-TypedBlock (record { stmts = ts })) ≡ r
  unfolding stmt_of block_of
  by_block ts d = fold-roll-TypedBlock Action Action (stmt_step store frame) (block_step store frame) (record { stmts = ts }) ∙ d

  chosen_is : (a : List (TypedExpr × TypedBlock)) (last : Option Action) → branch store frame (map (λ p. (p.0, block_doing p.1)) a) last ≡ do_chosen (map (λ p. (λ locals. value_of store frame locals p.0, block_doing p.1)) a) last
  chosen_is [] None = refl
  chosen_is [] (Some last) = refl
  chosen_is (p ∷ a) last = λ i locals. value_of store frame locals p.0 >>= (λ x. at_zero x (chosen_is a last i locals) (block_doing p.1 locals))

  turns_is : (n : ℕ) (cond : TypedExpr) (body : Action) → turns store frame n cond body ≡ do_turns n (λ locals. value_of store frame locals cond) body
  unfolding turns
  turns_is zero cond body = refl
  turns_is (suc n) cond body = λ i locals state. after (value_of store frame locals cond state) (λ x. at_zero x (pure (Continues locals)) (charge store frame TURN >> (body locals >>= (λ flow. go_on flow (turns_is n cond body i)))))

  while_is : (cond : TypedExpr) (body : Action) → stmt_step store frame (TypedStmt-F.While cond body) ≡ do_while (λ locals. value_of store frame locals cond) body
  while_is cond body = λ i locals. charge store frame STATEMENT >> (λ state. turns_is (suc state.fuel) cond body i locals state)

  mutual
    pub stmt_is : {t : TypedStmt} (x : Stmt t) → does t ≡ stmt_does x
    stmt_is (let_local n ty x) = by_stmt _ (stmt.rolls-Let n ty _) (ap (do_let n) (expr_at x))
    stmt_is (let_try n m t xs) = by_stmt _ (stmt.rolls-Try n _ m _) (λ i. do_try n m (expr_at t i) (exprs_at xs i))
    stmt_is (set to x) = by_stmt _ (stmt.rolls-Set to _) (ap (do_set to) (expr_at x))
    stmt_is (set_at m k x) = by_stmt _ (stmt.rolls-SetAt m _ _) (λ i. do_set_at m (expr_at k i) (expr_at x i))
    stmt_is (if_only {a} x) = by_stmt _ (stmt.rolls-If _ None) ((λ i locals. charge store frame STATEMENT >> chosen_is a None i locals) ∙ (λ i. do_if (arms_are x i) None))
    stmt_is (if_else {a} {b} x y) = by_stmt _ (stmt.rolls-If _ (Some _)) ((λ i locals. charge store frame STATEMENT >> chosen_is a (Some (block_doing b)) i locals) ∙ (λ i. do_if (arms_are x i) (Some (block_does_is y i))))
    stmt_is (while {c} {b} x y) = by_stmt _ (stmt.rolls-While _ _) (while_is c (block_doing b) ∙ (λ i. do_while (expr_at x i) (block_does_is y i)))
    stmt_is (return x) = by_stmt _ (stmt.rolls-Return _) (ap do_return (expr_at x))
    stmt_is (revert_with x) = by_stmt _ (stmt.rolls-Revert _) (ap do_revert (expr_at x))
    stmt_is (call_only c) = by_stmt _ (stmt.rolls-Do _) (ap do_call (λ i locals. call_is locals c i))

    pub stmts_are : {ts : List TypedStmt} (xs : Stmts ts) → map does ts ≡ stmts_do xs
    stmts_are no_stmt = refl
    stmts_are (stmts t ts) = λ i. stmt_is t i ∷ stmts_are ts i

    pub block_does_is : {b : TypedBlock} (x : Block b) → block_doing b ≡ block_does x
    block_does_is (block ts) = by_block _ (ap (sequence store frame) (stmts_are ts))

    pub arms_are : {a : List (TypedExpr × TypedBlock)} (x : Arms a) → map (λ p. (λ locals. value_of store frame locals p.0, block_doing p.1)) a ≡ arms_do x
    arms_are no_arm = refl
    arms_are (arms c b a) = λ i. (expr_at c i, block_does_is b i) ∷ arms_are a i

-- all the ways in which a body is built, for `search`
pub ruleset forms = (number, flag, here, name, at, call_value, negation, product, sum, compare, both, either, no_expr, exprs, no_rest, rest, external, internal, let_local, let_try, set, set_at, if_only, if_else, while, return, revert_with, call_only, no_stmt, stmts, block, no_arm, arms)
