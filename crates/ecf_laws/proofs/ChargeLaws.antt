-- The fuel that a run used, and the steps that stand.
use Rattle.std.proofs.Common.{◌≡◌, ℕ, ◌+◌, ◌≤◌, false, List, [], Some, refl, sym, subst, arith}
use Rattle.std.specs.Prelude.{All, ◌≢◌, slice_get}
use Rattle.std.specs.Option.{IsSomeAnd}
use Rattle.std.proofs.lemmas.List.Elements.{All-nil, All-weaker}
use Rattle.ecf_lang.specs.declared.run.Step.{Step}
use Rattle.ecf_lang.specs.declared.run.Invocation.{Invocation}
use Rattle.ecf_lang.specs.declared.run.Outcome.TheVariants.{OutOfFuel}
use Rattle.ecf_lang.specs.declared.tx.Tx.{Tx}
use Rattle.ecf_lang.specs.declared.typed.Typed.{Typed}
use Rattle.ecf_lang.specs.Store.{Store}
use Rattle.ecf_lang.specs.Part.{Control, Done, Exit, Reverts, RunsOut}
use Rattle.ecf_lang.specs.Meaning.{run, result_of, calls_of, initial_state}
use Rattle.ecf_laws.specs.Parts.{end_state}
use Rattle.ecf_laws.specs.Laws.{total_charge, IsOfStandingInvocation, FuelAddsUp, ChargedIsUsed, UndoneStepsVanish}
use Rattle.ecf_laws.proofs.PartLaws as parts
use Rattle.ecf_laws.proofs.AccountLaws.{Accounts, Kept, Spent, StepsStand, closed, get_marked, marks}

kept : (typed : Typed) (store : Store) (tx : Tx) → Kept (initial_state tx.fuel) (calls_of typed store tx.calls (initial_state tx.fuel))
kept typed store tx = parts.calls_alike store store Accounts (closed store) typed tx.calls (initial_state tx.fuel) tt

spent : (typed : Typed) (store : Store) (tx : Tx) → Spent tx.fuel (calls_of typed store tx.calls (initial_state tx.fuel))
spent typed store tx =
    let none : tx.fuel + total_charge [] ≡ tx.fuel = omega arith in
    subst (λ n. Spent n (calls_of typed store tx.calls (initial_state tx.fuel))) none (kept typed store tx).spent

adds_up : (store : Store) (limit : ℕ) (r : Control ℕ) → Spent limit r → (result_of store limit r).outcome ≢ OutOfFuel → total_charge (result_of store limit r).invocations ≡ (result_of store limit r).fuel
adds_up store limit (Done x t) s h = omega arith
adds_up store limit (Exit (Reverts cause) t) s h = omega arith
adds_up store limit (Exit RunsOut t) s h = absurd (h refl)

is_used : (store : Store) (limit : ℕ) (r : Control ℕ) → Spent limit r → total_charge (result_of store limit r).invocations ≤ (result_of store limit r).fuel
is_used store limit (Done x t) s = omega arith
is_used store limit (Exit (Reverts cause) t) s = omega arith
is_used store limit (Exit RunsOut t) s = omega arith

pub fuel_adds_up : FuelAddsUp
unfolding run
fuel_adds_up typed store tx h = adds_up store tx.fuel (calls_of typed store tx.calls (initial_state tx.fuel)) (spent typed store tx) h

pub charged_is_used : ChargedIsUsed
unfolding run
charged_is_used typed store tx = is_used store tx.fuel (calls_of typed store tx.calls (initial_state tx.fuel)) (spent typed store tx)

standing : (invocations : List Invocation) (step : Step) → slice_get (marks invocations) step.inv ≡ Some false → IsOfStandingInvocation invocations step
standing invocations step h =
    let one = get_marked invocations step.inv false h in
    subst (λ o. IsSomeAnd o (λ one. one.undone ≡ false)) (sym one.1.0) one.1.1

vanish : (store : Store) (limit : ℕ) (r : Control ℕ) → StepsStand (marks (end_state r).invocations) (end_state r).steps → All (IsOfStandingInvocation (result_of store limit r).invocations) (result_of store limit r).steps
vanish store limit (Done x t) h = All-weaker (λ (step : Step). slice_get (marks t.invocations) step.inv ≡ Some false) (IsOfStandingInvocation t.invocations) (standing t.invocations) t.steps h
vanish store limit (Exit halt t) h = All-weaker (λ (step : Step). slice_get (marks t.invocations) step.inv ≡ Some false) (IsOfStandingInvocation t.invocations) (standing t.invocations) t.steps h

pub undone_steps_vanish : UndoneStepsVanish
unfolding run
undone_steps_vanish typed store tx = vanish store tx.fuel (calls_of typed store tx.calls (initial_state tx.fuel)) ((kept typed store tx).steps (All-nil (λ (step : Step). slice_get (marks []) step.inv ≡ Some false)))
