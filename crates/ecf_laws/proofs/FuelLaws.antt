-- No part of a run raises the fuel; so turns above the fuel are never made.
use Rattle.std.proofs.Common.{◌≡◌, ℕ, zero, suc, ◌-◌, ◌<◌, ◌≤◌, Bool, true, false, List, Option, refl, arith}
use Rattle.std.proofs.lemmas.Bool.Decides.{nat_tests}
use Rattle.std.specs.Prelude.{if◌then◌else◌, nat_le}
use Rattle.ecf_lang.specs.declared.costs.TheConstants.{TURN, READ, WRITE}
use Rattle.ecf_lang.specs.declared.run.Invocation.{Invocation}
use Rattle.ecf_lang.specs.declared.typed.TypedExpr.{TypedExpr}
use Rattle.ecf_lang.specs.declared.typed.Typed.{Typed}
use Rattle.ecf_lang.specs.Store.{Store}
use Rattle.ecf_lang.specs.Part.{State, Control, Done, Exit, Reverts, RunsOut, Part, after, ◌>>=◌, ◌>>◌, pure, pay, read_cell, write_cell, attempt_of}
use Rattle.ecf_lang.specs.Meaning.{Frame, Flow, Continues, Returns, Action, go_on, at_zero, charge, opens_of, ways, block_of, value_of, turns}
use Rattle.ecf_laws.specs.Parts.{frame_in, end_state, NeverRaisesFuel, NoPartRaisesFuel}
use Rattle.ecf_laws.specs.Laws.{FuelNeverRises, MoreTurnsChangeNothing, RunsEndLoopsByFuel}
use Rattle.ecf_laws.proofs.PartLaws as parts

abbrev Falls : (T : Type 0) → Option ℕ → Part T → Part T → Type 0
Falls T o m n = NeverRaisesFuel m

after_falls : {S T : Type 0} (bound : ℕ) (r : Control S) (f : S → Part T) → (end_state r).fuel ≤ bound → ((x : S) → NeverRaisesFuel (f x)) → (end_state (after r f)).fuel ≤ bound
after_falls bound (Done x s) f h k = let e : (end_state (f x s)).fuel ≤ s.fuel = k x s in omega arith
after_falls bound (Exit halt s) f h k = h

paid_falls : (n : ℕ) (s : State) (invocations : List Invocation) (b : Bool) → (end_state {A = Unit {0}} (if b then Done tt (record s { fuel = s.fuel - n; invocations = invocations }) else Exit RunsOut (record s { fuel = 0 }))).fuel ≤ s.fuel
paid_falls n s invocations true = omega arith
paid_falls n s invocations false = omega arith

pub pay_falls : (inv n : ℕ) → NeverRaisesFuel (pay inv n)
unfolding pay
pay_falls inv n s = paid_falls n s _ (nat_le n s.fuel)

caught_falls : (s : State) (r : Control ℕ) → (end_state r).fuel ≤ s.fuel → (end_state (attempt_of (λ _. r) s)).fuel ≤ s.fuel
unfolding attempt_of
caught_falls s (Done x t) h = h
caught_falls s (Exit (Reverts cause) t) h = h
caught_falls s (Exit RunsOut t) h = h

module _ (store : Store) where
  closed : parts.IsClosed store store Falls
  unfolding read_cell write_cell attempt_of
  closed = record {
    pures = λ x s. omega arith;
    reverts = λ cause s. omega arith;
    ends = λ s. omega arith;
    binds = λ {m = m} {f = f} h k s. after_falls s.fuel (m s) f (h s) k;
    looks = λ h s. h s s;
    pays = pay_falls;
    reads = λ inv cell s. after_falls s.fuel (pay inv READ s) (λ _. read_cell store inv cell) (pay_falls inv READ s) (λ _ t. omega arith);
    writes = λ inv cell value x s. after_falls s.fuel (pay inv WRITE s) (λ _. write_cell inv cell value >>= (λ _. pure x)) (pay_falls inv WRITE s) (λ _ t. omega arith);
    hears = λ inv value s. omega arith;
    answers = λ inv value s. omega arith;
    begins = λ object method args h s. h _ _;
    tries = λ inv {m = m} h s. caught_falls s (m s) (h s);
    widens = λ h. h;
  }

  module _ (typed : Typed) where
    opens : (room here inv : ℕ) → parts.OpensAlike store store Falls closed inv (opens_of (ways typed store room) here inv) (opens_of (ways typed store room) here inv)
    opens room here inv = parts.opens_alike store store Falls closed _ _ (parts.ways_alike store store Falls closed typed room) here inv

    pub no_part_raises_fuel : NoPartRaisesFuel typed store
    no_part_raises_fuel = record {
      values = λ room here inv locals expr. parts.value_alike store store Falls closed here inv _ _ (opens room here inv) locals expr;
      answers = λ room here inv locals call. parts.answer_alike store store Falls closed here inv _ _ (opens room here inv) locals call;
      statements = λ room here inv locals stmt. parts.stmt_alike store store Falls closed here inv _ _ (opens room here inv) stmt locals;
      blocks = λ room here inv locals block. parts.block_alike store store Falls closed here inv _ _ (opens room here inv) block locals;
      internal = λ room here inv name args. (parts.ways_alike store store Falls closed typed room).within here inv name args;
      invocations = λ room to name args. (parts.ways_alike store store Falls closed typed room).anew to name args;
      calls = parts.calls_alike store store Falls closed typed;
    }

pub fuel_never_rises : FuelNeverRises
fuel_never_rises typed store = no_part_raises_fuel store typed

module _ (store : Store) (frame : Frame) (cond : TypedExpr) (body : Action) (cond_falls : (locals : List ℕ) → NeverRaisesFuel (value_of store frame locals cond)) (body_falls : (locals : List ℕ) → NeverRaisesFuel (body locals)) where
  -- what follows the condition's value, for one turn fewer
  abbrev further : ℕ → List ℕ → ℕ → Part Flow
  further n locals x = at_zero x (pure (Continues locals)) (charge store frame TURN >> (body locals >>= (λ flow. go_on flow (turns store frame n cond body))))

  from_body : (m n : ℕ) (same : (locals : List ℕ) (s : State) → s.fuel < m → s.fuel < n → turns store frame m cond body locals s ≡ turns store frame n cond body locals s) (r : Control Flow) → (end_state r).fuel < m → (end_state r).fuel < n → after r (λ flow. go_on flow (turns store frame m cond body)) ≡ after r (λ flow. go_on flow (turns store frame n cond body))
  from_body m n same (Done (Continues locals) s) h k = same locals s h k
  from_body m n same (Done (Returns v) s) h k = refl
  from_body m n same (Exit halt s) h k = refl

  from_pay : (m n : ℕ) (same : (locals : List ℕ) (s : State) → s.fuel < m → s.fuel < n → turns store frame m cond body locals s ≡ turns store frame n cond body locals s) (locals : List ℕ) (s : State) (invocations : List Invocation) (b : Bool) → nat_le TURN s.fuel ≡ b → s.fuel ≤ m → s.fuel ≤ n →
      after {A = Unit {0}} (if b then Done tt (record s { fuel = s.fuel - TURN; invocations = invocations }) else Exit RunsOut (record s { fuel = 0 })) (λ _. body locals >>= (λ flow. go_on flow (turns store frame m cond body)))
      ≡ after {A = Unit {0}} (if b then Done tt (record s { fuel = s.fuel - TURN; invocations = invocations }) else Exit RunsOut (record s { fuel = 0 })) (λ _. body locals >>= (λ flow. go_on flow (turns store frame n cond body)))
  from_pay m n same locals s invocations true is h k =
      let falls : (end_state (body locals (record s { fuel = s.fuel - TURN; invocations = invocations }))).fuel ≤ s.fuel - TURN = body_falls locals _ in
      let some : TURN ≤ s.fuel = grind (arith, nat_tests, is) in
      from_body m n same (body locals (record s { fuel = s.fuel - TURN; invocations = invocations })) (omega arith) (omega arith)
  from_pay m n same locals s invocations false is h k = refl

  from_value : (m n : ℕ) (same : (locals : List ℕ) (s : State) → s.fuel < m → s.fuel < n → turns store frame m cond body locals s ≡ turns store frame n cond body locals s) (locals : List ℕ) (r : Control ℕ) → (end_state r).fuel ≤ m → (end_state r).fuel ≤ n → after r (further m locals) ≡ after r (further n locals)
  unfolding pay
  from_value m n same locals (Done zero s) h k = refl
  from_value m n same locals (Done (suc x) s) h k = from_pay m n same locals s _ (nat_le TURN s.fuel) refl h k
  from_value m n same locals (Exit halt s) h k = refl

  same_turns : (m n : ℕ) (locals : List ℕ) (s : State) → s.fuel < m → s.fuel < n → turns store frame m cond body locals s ≡ turns store frame n cond body locals s
  unfolding turns
  same_turns zero n locals s h k = absurd (omega arith)
  same_turns (suc m) zero locals s h k = absurd (omega arith)
  same_turns (suc m) (suc n) locals s h k =
      let falls : (end_state (value_of store frame locals cond s)).fuel ≤ s.fuel = cond_falls locals s in
      from_value m n (same_turns m n) locals (value_of store frame locals cond s) (omega arith) (omega arith)

pub more_turns_change_nothing : MoreTurnsChangeNothing
more_turns_change_nothing store frame cond body c b m n locals s h k = same_turns store frame cond body c b m n locals s h k

pub runs_end_loops_by_fuel : RunsEndLoopsByFuel
runs_end_loops_by_fuel typed store room here inv cond body m n locals s h k =
    more_turns_change_nothing store (frame_in typed store room here inv) cond (block_of store (frame_in typed store room here inv) body)
    (λ locals. (fuel_never_rises typed store).values room here inv locals cond) (λ locals. (fuel_never_rises typed store).blocks room here inv locals body) m n locals s h k
