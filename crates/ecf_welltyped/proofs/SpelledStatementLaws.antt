-- Each statement and each block that is spelled is as it should be where it has no fault.
use Rattle.std.proofs.Common.{◌≡◌, ℕ, List, [], ◌∷◌, ◌++◌, Option, sym, subst, ap}
use Rattle.std.specs.List.{AllByRecursion}
use Rattle.ecf_lang.specs.declared.tree.Ty.{Ty}
use Rattle.ecf_lang.specs.declared.tree.Expr.{Expr}
use Rattle.ecf_lang.specs.declared.tree.CallExpr.{CallExpr}
use Rattle.ecf_lang.specs.declared.tree.Stmt.{Stmt}
use Rattle.ecf_lang.specs.declared.tree.Stmt.TheVariants as tree
use Rattle.ecf_lang.specs.declared.tree.Block.{Block, roll-Block}
use Rattle.ecf_lang.specs.declared.typed.Typed.{Typed}
use Rattle.ecf_lang.specs.declared.typed.TypedObject.{TypedObject}
use Rattle.ecf_grammar.specs.Lexemes.{NumberedLexemes}
use Rattle.ecf_grammar.specs.Spells.{SpellsExpr, SpellsInvoke, SpellsExternal, SpellsBlock, SpellsStmts, SpellsStmt, SpellsArm, SpellsElse}
use Rattle.ecf_wellformed.specs.Typing.{IsBlock}
use Rattle.ecf_faults.specs.Tables.{Table, Surroundings}
use Rattle.ecf_faults.specs.Expressions.{call_report_of}
use Rattle.ecf_faults.specs.Forms.{report_external, passage_let, passage_try, passage_set, passage_set_at, passage_while, passage_return, passage_revert, passage_do, passage_if, passage_rolled}
use Rattle.ecf_welltyped.proofs.SpellingLaws.{AreSpelled, front, behind}
use Rattle.ecf_welltyped.proofs.ExpressionLaws.{Agrees}
use Rattle.ecf_welltyped.proofs.SpelledExpressionLaws.{expr_fits, invoke_fits, external_fits}
use Rattle.ecf_welltyped.proofs.StatementLaws.{IsExternal, Goes, Keeps, IsFitExpr, IsFitCallExpr, IsFitStmt, IsFitBlock, IsFitArm, IsFitLast, let_goes, try_goes, set_goes, set_at_goes, return_goes, revert_goes, do_goes, while_goes, if_goes, block_keeps}

external_form : {at : ℕ} {a : NumberedLexemes} {x : CallExpr} (around : Surroundings) (visible : Table (ℕ × Ty)) → SpellsExternal at a x → IsExternal (call_report_of around visible x).form
external_form {at} around visible (SpellsExternal.external {name_at = name_at} {callee = callee} {bytes = bytes} {args = args} p u m q) =
    record { target = _; name = _; args = _; is = ap (λ r. r.form) (report_external around visible at callee name_at bytes args) }

module _ (typed : Typed) (own : TypedObject) (around : Surroundings) (agrees : Agrees typed own around) (answer : Ty) where
  expr_is : {a : NumberedLexemes} {x : Expr} → SpellsExpr a x → AreSpelled a → IsFitExpr typed own around agrees answer x
  expr_is p s = λ scope visible seen. expr_fits typed own scope around agrees visible seen p s

  invoke_is : {a : NumberedLexemes} {x : CallExpr} → SpellsInvoke a x → AreSpelled a → IsFitCallExpr typed own around agrees answer x
  invoke_is p s = λ scope visible seen. invoke_fits typed own scope around agrees visible seen p s

  external_is : {at : ℕ} {a : NumberedLexemes} {x : CallExpr} → SpellsExternal at a x → AreSpelled a → IsFitCallExpr typed own around agrees answer x
  external_is p s = λ scope visible seen. external_fits typed own scope around agrees visible seen p s

  let_fits : (at : ℕ) (name : List ℕ) (ty : Ty) (e : Expr) → IsFitExpr typed own around agrees answer e → IsFitStmt typed own around agrees answer (tree.Let at name ty e)
  let_fits at name ty e is scope locals are = subst (Goes typed own around agrees answer scope locals) (sym (passage_let around answer at name ty e locals)) (let_goes typed own around agrees answer at name ty e is scope locals are)

  try_fits : {at1 : ℕ} {a : NumberedLexemes} (at : ℕ) (name : List ℕ) (ty : Ty) (c : CallExpr) → SpellsExternal at1 a c → AreSpelled a → IsFitStmt typed own around agrees answer (tree.Try at name ty c)
  try_fits at name ty c p s scope locals are =
      subst (Goes typed own around agrees answer scope locals) (sym (passage_try around answer at name ty c locals))
      (try_goes typed own around agrees answer at name ty c (external_is p s) scope locals (external_form around locals.visible p) are)

  set_fits : (at : ℕ) (name : List ℕ) (e : Expr) → IsFitExpr typed own around agrees answer e → IsFitStmt typed own around agrees answer (tree.Set at name e)
  set_fits at name e is scope locals are = subst (Goes typed own around agrees answer scope locals) (sym (passage_set around answer at name e locals)) (set_goes typed own around agrees answer at name e is scope locals are)

  set_at_fits : (at : ℕ) (name : List ℕ) (key e : Expr) → IsFitExpr typed own around agrees answer key → IsFitExpr typed own around agrees answer e → IsFitStmt typed own around agrees answer (tree.SetAt at name key e)
  set_at_fits at name key e key_is is scope locals are =
      subst (Goes typed own around agrees answer scope locals) (sym (passage_set_at around answer at name key e locals)) (set_at_goes typed own around agrees answer at name key e key_is is scope locals are)

  if_fits : (first : Expr × Block) (arms : List (Expr × Block)) (last : Option Block) → AllByRecursion (IsFitArm typed own around agrees answer) (first ∷ arms) → IsFitLast typed own around agrees answer last
      → IsFitStmt typed own around agrees answer (tree.If (first ∷ arms) last)
  if_fits first arms last fit last_fit scope locals are =
      subst (Goes typed own around agrees answer scope locals) (sym (passage_if around answer (first ∷ arms) last locals)) (if_goes typed own around agrees answer first arms last fit last_fit scope locals are)

  while_fits : (cond : Expr) (body : Block) → IsFitArm typed own around agrees answer (cond, body) → IsFitStmt typed own around agrees answer (tree.While cond body)
  while_fits cond body is scope locals are = subst (Goes typed own around agrees answer scope locals) (sym (passage_while around answer cond body locals)) (while_goes typed own around agrees answer cond body is.0 is.1 scope locals are)

  return_fits : (e : Expr) → IsFitExpr typed own around agrees answer e → IsFitStmt typed own around agrees answer (tree.Return e)
  return_fits e is scope locals are = subst (Goes typed own around agrees answer scope locals) (sym (passage_return around answer e locals)) (return_goes typed own around agrees answer e is scope locals are)

  revert_fits : (e : Expr) → IsFitExpr typed own around agrees answer e → IsFitStmt typed own around agrees answer (tree.Revert e)
  revert_fits e is scope locals are = subst (Goes typed own around agrees answer scope locals) (sym (passage_revert around answer e locals)) (revert_goes typed own around agrees answer e is scope locals are)

  do_fits : (c : CallExpr) → IsFitCallExpr typed own around agrees answer c → IsFitStmt typed own around agrees answer (tree.Do c)
  do_fits c is scope locals are = subst (Goes typed own around agrees answer scope locals) (sym (passage_do around answer c locals)) (do_goes typed own around agrees answer c is scope locals are)

  block_fits_by : (stmts : List Stmt) → AllByRecursion (IsFitStmt typed own around agrees answer) stmts → IsFitBlock typed own around agrees answer (roll-Block (record { stmts = stmts }))
  block_fits_by stmts fit scope locals are =
      subst (λ p. p.faults ≡ [] → Keeps typed own around agrees answer (IsBlock typed own answer scope) locals p) (sym (passage_rolled around answer stmts locals)) (block_keeps typed own around agrees answer stmts fit scope locals are)

  mutual
    pub block_fits : {a : NumberedLexemes} {x : Block} → SpellsBlock a x → AreSpelled a → IsFitBlock typed own around agrees answer x
    block_fits (SpellsBlock.block {o = o} {a = a} {c = c} {stmts = stmts} v p w) s = block_fits_by stmts (stmts_fit p (front a c (behind o (a ++ c) s)))

    stmts_fit : {a : NumberedLexemes} {xs : List Stmt} → SpellsStmts a xs → AreSpelled a → AllByRecursion (IsFitStmt typed own around agrees answer) xs
    stmts_fit SpellsStmts.no_stmt s = tt
    stmts_fit (SpellsStmts.stmts {a = a} {b = b} p q) s = (stmt_fits p (front a b s), stmts_fit q (behind a b s))

    stmt_fits : {a : NumberedLexemes} {x : Stmt} → SpellsStmt a x → AreSpelled a → IsFitStmt typed own around agrees answer x
    stmt_fits (SpellsStmt.let_ {w = w} {n = n} {s = c} {t = t} {q = q} {e = e} {c = d} {at = at} {bytes = bytes} {kind = kind} {value = value} v1 v2 v3 v4 v5 p v6) s =
        let_fits at bytes kind value (expr_is p (front e d (behind q (e ++ d) (behind t (q ++ (e ++ d)) (behind c (t ++ (q ++ (e ++ d))) (behind n (c ++ (t ++ (q ++ (e ++ d)))) (behind w (n ++ (c ++ (t ++ (q ++ (e ++ d))))) s)))))))
    stmt_fits (SpellsStmt.try_ {w = w} {n = n} {s = c} {t = t} {q = q} {y = y} {a = a} {c = d} {at = at} {bytes = bytes} {kind = kind} {invoked = invoked} v1 v2 v3 v4 v5 v6 p v7) s =
        try_fits at bytes kind invoked p (front a d (behind y (a ++ d) (behind q (y ++ (a ++ d)) (behind t (q ++ (y ++ (a ++ d))) (behind c (t ++ (q ++ (y ++ (a ++ d)))) (behind n (c ++ (t ++ (q ++ (y ++ (a ++ d))))) (behind w (n ++ (c ++ (t ++ (q ++ (y ++ (a ++ d)))))) s)))))))
    stmt_fits (SpellsStmt.set {n = n} {q = q} {e = e} {c = c} {at = at} {bytes = bytes} {value = value} v1 v2 p v3) s =
        set_fits at bytes value (expr_is p (front e c (behind q (e ++ c) (behind n (q ++ (e ++ c)) s))))
    stmt_fits (SpellsStmt.set_at {n = n} {o = o} {k = k} {d = d} {q = q} {e = e} {c = c} {at = at} {bytes = bytes} {key = key} {value = value} v1 v2 p1 v3 v4 p2 v5) s =
        let inside = behind o (k ++ (d ++ (q ++ (e ++ c)))) (behind n (o ++ (k ++ (d ++ (q ++ (e ++ c))))) s) in
        set_at_fits at bytes key value (expr_is p1 (front k (d ++ (q ++ (e ++ c))) inside)) (expr_is p2 (front e c (behind q (e ++ c) (behind d (q ++ (e ++ c)) (behind k (d ++ (q ++ (e ++ c))) inside)))))
    stmt_fits (SpellsStmt.if_ {w = w} {a = a} {r = r} {first = first} {arms = arms} {last = last} v p q) s =
        let rest = else_fits q (behind a r (behind w (a ++ r) s)) in
        if_fits first arms last (arm_fits p (front a r (behind w (a ++ r) s)), rest.0) rest.1
    stmt_fits (SpellsStmt.while {w = w} {a = a} {cond = cond} {body = body} v p) s = while_fits cond body (arm_fits p (behind w a s))
    stmt_fits (SpellsStmt.return {w = w} {e = e} {c = c} {value = value} v p u) s = return_fits value (expr_is p (front e c (behind w (e ++ c) s)))
    stmt_fits (SpellsStmt.revert {w = w} {e = e} {c = c} {value = value} v p u) s = revert_fits value (expr_is p (front e c (behind w (e ++ c) s)))
    stmt_fits (SpellsStmt.do_ {a = a} {c = c} {invoked = invoked} p v) s = do_fits invoked (invoke_is p (front a c s))

    arm_fits : {a : NumberedLexemes} {x : Expr × Block} → SpellsArm a x → AreSpelled a → IsFitArm typed own around agrees answer x
    arm_fits (SpellsArm.arm {e = e} {b = b} p q) s = (expr_is p (front e b s), block_fits q (behind e b s))

    else_fits : {a : NumberedLexemes} {arms : List (Expr × Block)} {last : Option Block} → SpellsElse a arms last → AreSpelled a
        → AllByRecursion (IsFitArm typed own around agrees answer) arms × IsFitLast typed own around agrees answer last
    else_fits SpellsElse.no_else s = (tt, tt)
    else_fits (SpellsElse.else_ {w = w} {b = b} v p) s = (tt, block_fits p (behind w b s))
    else_fits (SpellsElse.else_if {w = w} {i = i} {a = a} {r = r} v u p q) s =
        let rest = else_fits q (behind a r (behind i (a ++ r) (behind w (i ++ (a ++ r)) s))) in
        ((arm_fits p (front a r (behind i (a ++ r) (behind w (i ++ (a ++ r)) s))), rest.0), rest.1)
