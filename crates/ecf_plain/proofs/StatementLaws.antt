-- What statements come from.
use Rattle.std.proofs.Common.{◌≡◌, ℕ, zero, suc, ◌+◌, ◌<◌, List, [], ◌∷◌, length, get_or, map, drop, Option, Some, None, refl, ap, sym, ◌∙◌}
use Rattle.ecf_lang.specs.declared.costs.TheConstants.{STATEMENT, TURN, WRITE}
use Rattle.ecf_lang.specs.declared.typed.TypedExpr.{TypedExpr}
use Rattle.ecf_lang.specs.declared.typed.TypedStmt.{TypedStmt, TypedStmt-F, out-TypedStmt, roll-TypedStmt, roll-out-TypedStmt}
use Rattle.ecf_lang.specs.declared.typed.TypedStmt.TheVariants as stmt
use Rattle.ecf_lang.specs.declared.typed.TypedBlock.{TypedBlock}
use Rattle.ecf_lang.specs.Forms.{stmt_let, stmt_try, stmt_set, stmt_set_at, stmt_while, stmt_return, stmt_revert, stmt_do, stmt_if}
use Rattle.ecf_lang.specs.Store.{Store}
use Rattle.ecf_lang.specs.Part.{State, Control, Done, Exit, RunsOut, Part, after, ◌>>=◌, ◌>>◌, pure, pay, write_cell}
use Rattle.ecf_lang.specs.Meaning.{Frame, Flow, Continues, Returns, go_on, value_of, stmt_of, block_of, charge, at_zero, turns, own_cell}
use Rattle.ecf_progress.specs.Progress.{Progress}
use Rattle.ecf_plain.specs.Leads.{Reaches, EndedBy, written, done_stmts, branched, turned}
use Rattle.ecf_plain.proofs.LeadLaws.{ends_more, on_to_end, reached}
use Rattle.ecf_plain.proofs.PlainLaws.{left_more}
use Rattle.ecf_plain.proofs.ValueLaws.{after_both}
use Rattle.ecf_plain.specs.declared.stopped.Stopped.{Stopped}

module _ (store : Store) (frame : Frame) where
  -- the next statement of several
  pub stmts_more : (stmts : List TypedStmt) (i : ℕ) (one : TypedStmt) (locals : List ℕ) (s : State) → i < length stmts → one ≡ get_or stmts i one
      → done_stmts (drop i stmts) locals store frame s ≡ after (stmt_of store frame one locals s) (λ flow. go_on flow (λ locals. done_stmts (drop (i + 1) stmts) locals store frame))
  stmts_more stmts i one locals s within is = ap (λ stmts. done_stmts stmts locals store frame s) (left_more stmts i one within is)

  -- the next arm of an `if`
  pub branch_more : (arms : List (TypedExpr × TypedBlock)) (last : Option TypedBlock) (i : ℕ) (arm : TypedExpr × TypedBlock) (locals : List ℕ) (s : State) → i < length arms → arm ≡ get_or arms i arm
      → branched (drop i arms) last locals store frame s ≡ after (value_of store frame locals arm.0 s) (λ x. at_zero x (branched (drop (i + 1) arms) last locals store frame) (block_of store frame arm.1 locals))
  branch_more arms last i arm locals s within is = ap (λ arms. branched arms last locals store frame s) (left_more arms i arm within is)

  -- the next turn of a loop
  pub turns_more : (n : ℕ) (cond : TypedExpr) (body : TypedBlock) (locals : List ℕ) (s : State)
      → turned (suc n) cond body locals store frame s ≡ after (value_of store frame locals cond s) (λ x. at_zero x (pure (Continues locals)) (charge store frame TURN >> (block_of store frame body locals >>= (λ flow. go_on flow (λ locals. turned n cond body locals store frame)))))
  unfolding turns
  turns_more n cond body locals s = refl

  pub no_turns : (cond : TypedExpr) (body : TypedBlock) (locals : List ℕ) (s : State) → turned 0 cond body locals store frame s ≡ Exit RunsOut (record s { fuel = 0 })
  unfolding turns
  no_turns cond body locals s = refl

  -- a write of a cell, and on with the locals
  pub write_then : (field key value : ℕ) (locals : List ℕ) (s : State)
      → (charge store frame WRITE >> (write_cell frame.inv (own_cell store frame field key) value >> pure (Continues locals))) s ≡ after (written field key value store frame s) (λ _. pure (Continues locals))
  write_then field key value locals s = after_both (charge store frame WRITE s) (λ _. write_cell frame.inv (own_cell store frame field key) value) (λ _. pure (Continues locals))

  -- a statement begins with its charge
  module _ (locals : List ℕ) where
    abbrev pub Begins : TypedStmt → Type 0
    Begins t = (next : Unit {0} → Part Flow) × ((s : State) → stmt_of store frame t locals s ≡ after (charge store frame STATEMENT s) next)

    by : (t t' : TypedStmt) → t ≡ t' → Begins t' → Begins t
    by t t' is begun = (begun.0, λ s. ap (λ t. stmt_of store frame t locals s) is ∙ begun.1 s)

    layers : (t : TypedStmt) (l : TypedStmt-F TypedStmt TypedBlock) → t ≡ roll-TypedStmt l → Begins t
    layers t (TypedStmt-F.Let n ty e) is = by t _ (is ∙ stmt.rolls-Let n ty e) (_, λ s. stmt_let store frame n ty e locals s)
    layers t (TypedStmt-F.Try n target name args) is = by t _ (is ∙ stmt.rolls-Try n target name args) (_, λ s. stmt_try store frame n target name args locals s)
    layers t (TypedStmt-F.Set to e) is = by t _ (is ∙ stmt.rolls-Set to e) (_, λ s. stmt_set store frame to e locals s)
    layers t (TypedStmt-F.SetAt field key e) is = by t _ (is ∙ stmt.rolls-SetAt field key e) (_, λ s. stmt_set_at store frame field key e locals s)
    layers t (TypedStmt-F.If arms last) is = by t _ (is ∙ stmt.rolls-If arms last) (_, λ s. stmt_if store frame arms last locals s)
    layers t (TypedStmt-F.While cond body) is = by t _ (is ∙ stmt.rolls-While cond body) (_, λ s. stmt_while store frame cond body locals s)
    layers t (TypedStmt-F.Return e) is = by t _ (is ∙ stmt.rolls-Return e) (_, λ s. stmt_return store frame e locals s)
    layers t (TypedStmt-F.Revert e) is = by t _ (is ∙ stmt.rolls-Revert e) (_, λ s. stmt_revert store frame e locals s)
    layers t (TypedStmt-F.Do c) is = by t _ (is ∙ stmt.rolls-Do c) (_, λ s. stmt_do store frame c locals s)

    -- so a statement whose charge isn't paid ends there
    pub unpaid : (t : TypedStmt) (stop : Stopped) (p q : Progress) → EndedBy (charge store frame STATEMENT p.run) stop p q → EndedBy (stmt_of store frame t locals p.run) stop p q
    unpaid t stop p q ended =
        let begun = layers t (out-TypedStmt t) (sym (roll-out-TypedStmt t)) in
        on_to_end stop q (reached _ _ p (begun.1 p.run)) (ends_more _ p q begun.0 stop ended)
