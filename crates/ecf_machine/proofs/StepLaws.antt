-- What each step leaves to give, in the words of the meaning.
use Rattle.std.proofs.Common.{◌≡◌, ℕ, zero, suc, ◌<◌, ◌≤◌, true, false, List, [], ◌∷◌, length, get_or, drop, Option, None, Result, Ok, Err, refl, ap, sym, ◌∙◌, arith}
use Rattle.std.specs.Prelude.{IfOk, option_and_then}
use Rattle.std.specs.Borrow.{Bor}
use Rattle.std.proofs.lemmas.Option.{slice_get_past}
use Rattle.ecf_lang.specs.declared.costs.TheConstants.{STATEMENT, TURN, TEST}
use Rattle.ecf_lang.specs.declared.tree.Op.{Op}
use Rattle.ecf_lang.specs.declared.tree.Ty.{Ty}
use Rattle.ecf_lang.specs.declared.run.Cause.{Cause}
use Rattle.ecf_lang.specs.declared.typed.Assignee.{Assignee}
use Rattle.ecf_lang.specs.declared.typed.TypedExpr.{TypedExpr}
use Rattle.ecf_lang.specs.declared.typed.TypedExpr.TheVariants as expr
use Rattle.ecf_lang.specs.declared.typed.TypedCall.{TypedCall}
use Rattle.ecf_lang.specs.declared.typed.TypedCall.TheVariants as call
use Rattle.ecf_lang.specs.declared.typed.TypedStmt.{TypedStmt, TypedStmt-F, out-TypedStmt, roll-TypedStmt, roll-out-TypedStmt}
use Rattle.ecf_lang.specs.declared.typed.TypedStmt.TheVariants as stmt
use Rattle.ecf_lang.specs.declared.typed.TypedBlock.{TypedBlock, out-TypedBlock}
use Rattle.ecf_lang.specs.Part.{State, Control, Done, Exit, Reverts, RunsOut, Part, after, pay}
use Rattle.ecf_lang.specs.Meaning.{Flow, Continues, Returns, go_on, turns}
use Rattle.ecf_lang.specs.declared.typed.Typed.{Typed}
use Rattle.ecf_lang.specs.Fits.{method_at, method_of}
use Rattle.ecf_lang.specs.Forms.{value_map_at, value_not, value_product, value_sum, value_compare, answer_external, answer_internal, stmt_let, stmt_try, stmt_set, stmt_set_at, stmt_while, stmt_return, stmt_revert, stmt_do, stmt_if, block_is}
use Rattle.ecf_machine.specs.Parts.{Context, Valued, Acting, frame_in, value_in, all_in, any_in, stmt_in, stmts_of, stmts_in, block_in, answer_in, turns_of, turns_in, branch_in, chosen_in, tested_in, keyed_in, loop_in, try_in, args_in}
use Rattle.ecf_machine.specs.Continuations.{Continuation, blank, resume, resume_flow, above, from_doing}
use Rattle.ecf_machine.specs.Load.{measure}
use Rattle.ecf_machine.specs.Steps.{Advances, Follows}
use Rattle.ecf_machine.specs.Setting.{CanNumber}
use Rattle.ecf_machine.specs.declared.setting.Setting.{Setting}
use Rattle.ecf_machine.specs.declared.task.Callee.TheVariants as callee
use Rattle.ecf_machine.specs.declared.task.Task.{Task}
use Rattle.ecf_machine.specs.declared.task.Task.TheVariants as task
use Rattle.ecf_machine.specs.declared.task.Doing.{Doing}
use Rattle.ecf_machine.specs.declared.machine.Machine.{Machine}

-- from what leads the same way before it, and from no more
pub advances_from : {R E : Type 0} (at : Setting) (before before' : Control ℕ) (fuel fuel' size size' : ℕ) (machine : Machine R) (r : Result Doing E) → before' ≡ before → fuel ≤ fuel' → (fuel ≡ fuel' → size ≤ size') → IfOk r (Advances at before fuel size machine) → IfOk r (Advances at before' fuel' size' machine)
advances_from at before before' fuel fuel' size size' machine (Ok d) same less fits h = record {
  same = same ∙ h.same;
  spends = let e = h.spends in omega arith;
  falls = λ is. advances_falls at fuel fuel' size size' before machine d less fits is h;
}
  where
    advances_falls : {R : Type 0} (at : Setting) (fuel fuel' size size' : ℕ) (before : Control ℕ) (machine : Machine R) (d : Doing) → fuel ≤ fuel' → (fuel ≡ fuel' → size ≤ size') → machine.state.run.fuel ≡ fuel' → Advances at before fuel size machine d → measure machine.tasks d < size'
    advances_falls at fuel fuel' size size' before machine d less fits is h =
        let spends = h.spends in
        let here : fuel ≡ fuel' = omega arith in
        let f = fits here in
        let g = h.falls (omega arith) in omega arith
advances_from at before before' fuel fuel' size size' machine (Err e) same less fits h = tt

-- behind a charge
pub follows : {R : Type 0} (at : Setting) (before : Control ℕ) (old new : Machine R) (doing : Doing) → before ≡ from_doing at new doing → new.state.run.fuel ≡ old.state.run.fuel → Follows at before old new doing
follows at before old new doing same fuel = record { same = same; spends = omega (arith, fuel); falls = λ is. absurd (omega (arith, fuel, is)) }

-- where an expression leads under a task
abbrev pub waiting : Setting → Continuation → Context → Task → TypedExpr → State → Control ℕ
waiting at next context t e s = resume (above at t next) context (value_in e at context s)

-- where a piece leads
abbrev pub valuing : Setting → Continuation → Context → Valued → State → Control ℕ
valuing at next context part s = resume next context (part at context s)

abbrev pub acting : Setting → Continuation → Context → Acting → State → Control ℕ
acting at next context action s = resume_flow next context (action at context s)

module _ (next next' : Continuation) (context : Context) where
  -- what comes after an expression, as what waits for it
  pub resume_under : (r : Control ℕ) (f : ℕ → Part ℕ) → ((v : ℕ) (s : State) → resume next context (f v s) ≡ next'.value context v s) → ((cause : Cause) (s : State) → next.revert (blank context) cause s ≡ next'.revert (blank context) cause s) → resume next context (after r f) ≡ resume next' context r
  resume_under (Done v s) f gives stops = gives v s
  resume_under (Exit (Reverts cause) s) f gives stops = stops cause s
  resume_under (Exit RunsOut s) f gives stops = refl

  -- the same in a statement
  pub resume_flow_under : (r : Control ℕ) (f : ℕ → Part Flow) → ((v : ℕ) (s : State) → resume_flow next context (f v s) ≡ next'.value context v s) → ((cause : Cause) (s : State) → next.revert (blank context) cause s ≡ next'.revert (blank context) cause s) → resume_flow next context (after r f) ≡ resume next' context r
  resume_flow_under (Done v s) f gives stops = gives v s
  resume_flow_under (Exit (Reverts cause) s) f gives stops = stops cause s
  resume_flow_under (Exit RunsOut s) f gives stops = refl

module _ (at : Setting) (next : Continuation) (context : Context) where
  -- a statement's end, with the statements after it
  pub flow_next : (r : Control Flow) (stmts : Bor (List TypedStmt)) → resume_flow next context (after r (λ flow. go_on flow (stmts_of stmts.now at context))) ≡ resume_flow (above at (task.Next stmts) next) context r
  flow_next (Done (Continues locals) s) stmts = refl
  flow_next (Done (Returns answer) s) stmts = refl
  flow_next (Exit (Reverts cause) s) stmts = refl
  flow_next (Exit RunsOut s) stmts = refl

  -- a loop's body, with the turns after it
  pub flow_again : (r : Control Flow) (n : ℕ) (cond : Bor TypedExpr) (body : Bor TypedBlock) → resume_flow next context (after r (λ flow. go_on flow (turns_of n cond.now body.now at context))) ≡ resume_flow (above at (task.Again n cond body) next) context r
  flow_again (Done (Continues locals) s) n cond body = refl
  flow_again (Done (Returns answer) s) n cond body = refl
  flow_again (Exit (Reverts cause) s) n cond body = refl
  flow_again (Exit RunsOut s) n cond body = refl

  pub eval_at : (field : ℕ) (key : TypedExpr) (s : State) → resume next context (value_in (expr.At field key) at context s) ≡ resume (above at (task.Index field) next) context (value_in key at context s)
  eval_at field key s =
      ap (resume next context) (value_map_at context.backing.store (frame_in at context) context.locals.top field key s)
      ∙ resume_under next (above at (task.Index field) next) context (value_in key at context s) _ (λ v s. refl) (λ cause s. refl)

  pub eval_not : (e : TypedExpr) (s : State) → resume next context (value_in (expr.Not e) at context s) ≡ resume (above at task.Not next) context (value_in e at context s)
  eval_not e s =
      ap (resume next context) (value_not context.backing.store (frame_in at context) context.locals.top e s)
      ∙ resume_under next (above at task.Not next) context (value_in e at context s) _ (λ v s. refl) (λ cause s. refl)

  pub eval_sum : (first : TypedExpr) (parts : Bor (List (Op × TypedExpr))) (s : State) → resume next context (value_in (expr.Sum first parts.now) at context s) ≡ resume (above at (task.First parts) next) context (value_in first at context s)
  eval_sum first parts s =
      ap (resume next context) (value_sum context.backing.store (frame_in at context) context.locals.top first parts.now s)
      ∙ resume_under next (above at (task.First parts) next) context (value_in first at context s) _ (λ v s. refl) (λ cause s. refl)

  pub eval_product : (first : TypedExpr) (parts : Bor (List (Op × TypedExpr))) (s : State) → resume next context (value_in (expr.Product first parts.now) at context s) ≡ resume (above at (task.First parts) next) context (value_in first at context s)
  eval_product first parts s =
      ap (resume next context) (value_product context.backing.store (frame_in at context) context.locals.top first parts.now s)
      ∙ resume_under next (above at (task.First parts) next) context (value_in first at context s) _ (λ v s. refl) (λ cause s. refl)

  pub eval_compare : (left : TypedExpr) (op : Op) (right : Bor TypedExpr) (s : State) → resume next context (value_in (expr.Compare left op right.now) at context s) ≡ resume (above at (task.Left op right) next) context (value_in left at context s)
  eval_compare left op right s =
      ap (resume next context) (value_compare context.backing.store (frame_in at context) context.locals.top left op right.now s)
      ∙ resume_under next (above at (task.Left op right) next) context (value_in left at context s) _ (λ v s. refl) (λ cause s. refl)

  -- a further part of an `&&` whose earlier ones are true, and of an `||` whose earlier ones are false
  pub and_further : (value : ℕ) (part : TypedExpr) (others : Bor (List TypedExpr)) (s s1 : State) → pay context.frame.inv TEST s ≡ Done tt s1 → 0 < value → resume next context (all_in value (part ∷ others.now) at context s) ≡ waiting at next context (task.And others) part s1
  and_further zero part others s s1 paid true_so_far = absurd (omega (arith, true_so_far))
  and_further (suc n) part others s s1 paid true_so_far = rw paid (resume_under next (above at (task.And others) next) context (value_in part at context s1) _ (λ v s. refl) (λ cause s. refl))

  pub or_further : (value : ℕ) (part : TypedExpr) (others : Bor (List TypedExpr)) (s s1 : State) → pay context.frame.inv TEST s ≡ Done tt s1 → value ≡ 0 → resume next context (any_in value (part ∷ others.now) at context s) ≡ waiting at next context (task.Or others) part s1
  or_further zero part others s s1 paid false_so_far = rw paid (resume_under next (above at (task.Or others) next) context (value_in part at context s1) _ (λ v s. refl) (λ cause s. refl))
  or_further (suc n) part others s s1 paid false_so_far = absurd (omega (arith, false_so_far))

  pub call_external : (target : TypedExpr) (name : ℕ) (args : Bor (List TypedExpr)) (s : State) → resume next context (answer_in (call.External target name args.now) at context s) ≡ resume (above at (task.Target false name args) next) context (value_in target at context s)
  call_external target name args s =
      ap (resume next context) (answer_external context.backing.store (frame_in at context) context.locals.top target name args.now s)
      ∙ resume_under next (above at (task.Target false name args) next) context (value_in target at context s) _ (λ v s. refl) (λ cause s. refl)

  pub call_internal : (name : ℕ) (args : Bor (List TypedExpr)) (s : State) → answer_in (call.Internal name args.now) at context s ≡ args_in (callee.Internal name) [] args.now at context s
  call_internal name args s = answer_internal context.backing.store (frame_in at context) context.locals.top name args.now s

  module _ (s s1 : State) (paid : pay context.frame.inv STATEMENT s ≡ Done tt s1) where
    pub begin_let : (n : ℕ) (ty : Ty) (e : TypedExpr) → resume_flow next context (stmt_in (stmt.Let n ty e) at context s) ≡ resume (above at (task.Let n) next) context (value_in e at context s1)
    begin_let n ty e =
        rw (stmt_let context.backing.store (frame_in at context) n ty e context.locals.top s, paid)
        (resume_flow_under next (above at (task.Let n) next) context (value_in e at context s1) _ (λ v s. refl) (λ cause s. refl))

    pub begin_set : (to : Assignee) (e : TypedExpr) → resume_flow next context (stmt_in (stmt.Set to e) at context s) ≡ resume (above at (task.Assign to) next) context (value_in e at context s1)
    begin_set to e =
        rw (stmt_set context.backing.store (frame_in at context) to e context.locals.top s, paid)
        (resume_flow_under next (above at (task.Assign to) next) context (value_in e at context s1) _ (λ v s. refl) (λ cause s. refl))

    pub begin_return : (e : TypedExpr) → resume_flow next context (stmt_in (stmt.Return e) at context s) ≡ resume (above at task.Return next) context (value_in e at context s1)
    begin_return e =
        rw (stmt_return context.backing.store (frame_in at context) e context.locals.top s, paid)
        (resume_flow_under next (above at task.Return next) context (value_in e at context s1) _ (λ v s. refl) (λ cause s. refl))

    pub begin_revert : (e : TypedExpr) → resume_flow next context (stmt_in (stmt.Revert e) at context s) ≡ resume (above at task.Revert next) context (value_in e at context s1)
    begin_revert e =
        rw (stmt_revert context.backing.store (frame_in at context) e context.locals.top s, paid)
        (resume_flow_under next (above at task.Revert next) context (value_in e at context s1) _ (λ v s. refl) (λ cause s. refl))

    pub begin_do : (c : TypedCall) → resume_flow next context (stmt_in (stmt.Do c) at context s) ≡ resume (above at task.Ignore next) context (answer_in c at context s1)
    begin_do c =
        rw (stmt_do context.backing.store (frame_in at context) c context.locals.top s, paid)
        (resume_flow_under next (above at task.Ignore next) context (answer_in c at context s1) _ (λ v s. refl) (λ cause s. refl))

    pub begin_if : (arms : List (TypedExpr × TypedBlock)) (last : Option TypedBlock) → resume_flow next context (stmt_in (stmt.If arms last) at context s) ≡ resume_flow next context (branch_in arms last at context s1)
    begin_if arms last = rw (stmt_if context.backing.store (frame_in at context) arms last context.locals.top s, paid) refl

    pub begin_keyed : (field : ℕ) (key e : TypedExpr) → resume_flow next context (stmt_in (stmt.SetAt field key e) at context s) ≡ resume_flow next context (keyed_in field key e at context s1)
    begin_keyed field key e = rw (stmt_set_at context.backing.store (frame_in at context) field key e context.locals.top s, paid) refl

    pub begin_loop : (cond : TypedExpr) (body : TypedBlock) → resume_flow next context (stmt_in (stmt.While cond body) at context s) ≡ resume_flow next context (loop_in cond body at context s1)
    begin_loop cond body = rw (stmt_while context.backing.store (frame_in at context) cond body context.locals.top s, paid) refl

    pub begin_try : (n : ℕ) (target : TypedExpr) (name : ℕ) (args : List TypedExpr) → resume_flow next context (stmt_in (stmt.Try n target name args) at context s) ≡ resume_flow next context (try_in n target name args at context s1)
    begin_try n target name args = rw (stmt_try context.backing.store (frame_in at context) n target name args context.locals.top s, paid) refl

  -- a statement whose charge isn't paid
  pub stmt_unpaid : (t : TypedStmt) (s s1 : State) → pay context.frame.inv STATEMENT s ≡ Exit RunsOut s1 → stmt_in t at context s ≡ Exit RunsOut s1
  stmt_unpaid t s s1 unpaid = layers (out-TypedStmt t) (sym (roll-out-TypedStmt t))
    where
      by : (t' : TypedStmt) → t ≡ t' → stmt_in t' at context s ≡ Exit RunsOut s1 → stmt_in t at context s ≡ Exit RunsOut s1
      by t' is ends = ap (λ t. stmt_in t at context s) is ∙ ends

      layers : (l : TypedStmt-F TypedStmt TypedBlock) → t ≡ roll-TypedStmt l → stmt_in t at context s ≡ Exit RunsOut s1
      layers (TypedStmt-F.Let n ty e) is = by _ (is ∙ stmt.rolls-Let n ty e) (rw (stmt_let context.backing.store (frame_in at context) n ty e context.locals.top s, unpaid) refl)
      layers (TypedStmt-F.Try n target name args) is = by _ (is ∙ stmt.rolls-Try n target name args) (rw (stmt_try context.backing.store (frame_in at context) n target name args context.locals.top s, unpaid) refl)
      layers (TypedStmt-F.Set to e) is = by _ (is ∙ stmt.rolls-Set to e) (rw (stmt_set context.backing.store (frame_in at context) to e context.locals.top s, unpaid) refl)
      layers (TypedStmt-F.SetAt field key e) is = by _ (is ∙ stmt.rolls-SetAt field key e) (rw (stmt_set_at context.backing.store (frame_in at context) field key e context.locals.top s, unpaid) refl)
      layers (TypedStmt-F.If arms last) is = by _ (is ∙ stmt.rolls-If arms last) (rw (stmt_if context.backing.store (frame_in at context) arms last context.locals.top s, unpaid) refl)
      layers (TypedStmt-F.While cond body) is = by _ (is ∙ stmt.rolls-While cond body) (rw (stmt_while context.backing.store (frame_in at context) cond body context.locals.top s, unpaid) refl)
      layers (TypedStmt-F.Return e) is = by _ (is ∙ stmt.rolls-Return e) (rw (stmt_return context.backing.store (frame_in at context) e context.locals.top s, unpaid) refl)
      layers (TypedStmt-F.Revert e) is = by _ (is ∙ stmt.rolls-Revert e) (rw (stmt_revert context.backing.store (frame_in at context) e context.locals.top s, unpaid) refl)
      layers (TypedStmt-F.Do c) is = by _ (is ∙ stmt.rolls-Do c) (rw (stmt_do context.backing.store (frame_in at context) c context.locals.top s, unpaid) refl)

  -- the rest of an assignment to a map, of a loop, and of a `try`, behind the statement's charge
  pub keyed : (field : ℕ) (key : TypedExpr) (e : Bor TypedExpr) (s : State) → resume_flow next context (keyed_in field key e.now at context s) ≡ resume (above at (task.Key field e) next) context (value_in key at context s)
  keyed field key e s = resume_flow_under next (above at (task.Key field e) next) context (value_in key at context s) _ (λ v s. refl) (λ cause s. refl)

  pub tried : (n : ℕ) (target : TypedExpr) (name : ℕ) (args : Bor (List TypedExpr)) (s : State) → resume_flow next context (try_in n target name args.now at context s) ≡ resume (above at (task.Target true name args) (above at (task.Let n) next)) context (value_in target at context s)
  tried n target name args s =
      resume_flow_under next (above at (task.Target true name args) (above at (task.Let n) next)) context (value_in target at context s) _
      (λ v s. resume_flow_under next (above at (task.Let n) next) context (args_in (callee.Attempt v name) [] args.now at context s) _ (λ v s. refl) (λ cause s. refl)) (λ cause s. refl)

  -- the block of a condition that is true
  pub chosen_block : (value : ℕ) (block : TypedBlock) (arms : List (TypedExpr × TypedBlock)) (last : Option TypedBlock) (s : State) → 0 < value → chosen_in value block arms last at context s ≡ stmts_in (out-TypedBlock block).stmts at context s
  chosen_block zero block arms last s is_true = absurd (omega (arith, is_true))
  chosen_block (suc n) block arms last s is_true = block_is context.backing.store (frame_in at context) block context.locals.top s

  -- a turn of a loop
  pub begin_turn : (n : ℕ) (cond : Bor TypedExpr) (body : Bor TypedBlock) (s s1 : State) → pay context.frame.inv TURN s ≡ Done tt s1 → resume_flow next context (tested_in n cond.now body.now 1 at context s) ≡ resume_flow (above at (task.Again n cond body) next) context (stmts_in (out-TypedBlock body.now).stmts at context s1)
  begin_turn n cond body s s1 paid =
      rw paid (flow_again (block_in body.now at context s1) n cond body
      ∙ ap (resume_flow (above at (task.Again n cond body) next) context) (block_is context.backing.store (frame_in at context) body.now context.locals.top s1))

  -- a loop with no turn left, and with one
  pub no_turn : (cond : TypedExpr) (body : TypedBlock) (s : State) → turns_in 0 cond body at context s ≡ Exit RunsOut (record s { fuel = 0 })
  unfolding turns
  no_turn cond body s = refl

  pub one_turn : (n : ℕ) (cond : Bor TypedExpr) (body : Bor TypedBlock) (s : State) → resume_flow next context (turns_in (suc n) cond.now body.now at context s) ≡ resume (above at (task.Test n cond body) next) context (value_in cond.now at context s)
  unfolding turns
  one_turn n cond body s = resume_flow_under next (above at (task.Test n cond body) next) context (value_in cond.now at context s) _ (λ v s. refl) (λ cause s. refl)

-- a list that begins so
pub begins_so : {A : Type 0} (xs : List A) (x : A) → 1 ≤ length xs → x ≡ get_or xs 0 x → xs ≡ x ∷ drop 1 xs
begins_so [] x some is = absurd (omega arith)
begins_so (y ∷ ys) x some is = ap (λ z. z ∷ ys) (sym is)

-- a list with nothing in it
pub none_there : {A : Type 0} (xs : List A) → length xs < 1 → xs ≡ []
none_there [] none = refl
none_there (x ∷ xs) none = absurd (omega (arith, none))

-- no method is there beyond the objects
pub beyond : (typed : Typed) (to name : ℕ) → 256 ≤ to → CanNumber to typed → method_at typed to name ≡ None
beyond typed to name far few = ap (option_and_then (λ o. method_of o name)) (slice_get_past typed.objects to (omega (arith, far, few far)))
