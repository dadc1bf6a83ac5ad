-- Want of fuel leaves none.
use Rattle.std.proofs.Common.{◌≡◌, ℕ, ◌-◌, Bool, true, false, List, Option, refl, arith}
use Rattle.std.specs.Prelude.{if◌then◌else◌, nat_le}
use Rattle.ecf_lang.specs.declared.costs.TheConstants.{READ, WRITE}
use Rattle.ecf_lang.specs.declared.run.Invocation.{Invocation}
use Rattle.ecf_lang.specs.declared.run.Outcome.TheVariants.{OutOfFuel}
use Rattle.ecf_lang.specs.Store.{Store}
use Rattle.ecf_lang.specs.Part.{State, Control, Done, Exit, Reverts, RunsOut, Part, after, ◌>>=◌, pure, pay, read_cell, write_cell, attempt_of}
use Rattle.ecf_lang.specs.Meaning.{run, result_of, calls_of, initial_state}
use Rattle.ecf_laws.specs.Laws.{OutOfFuelUsesAll}
use Rattle.ecf_laws.proofs.PartLaws as parts

-- no fuel is left where a part ran out of it
abbrev Emptied : {T : Type 0} → Control T → Type 0
Emptied (Done x t) = Unit {0}
Emptied (Exit (Reverts cause) t) = Unit {0}
Emptied (Exit RunsOut t) = t.fuel ≡ 0

abbrev Empties : (T : Type 0) → Option ℕ → Part T → Part T → Type 0
Empties T o m n = (s : State) → Emptied (m s)

after_emptied : {S T : Type 0} (r : Control S) (f : S → Part T) → Emptied r → ((x : S) (s : State) → Emptied (f x s)) → Emptied (after r f)
after_emptied (Done x s) f h k = k x s
after_emptied (Exit (Reverts cause) s) f h k = tt
after_emptied (Exit RunsOut s) f h k = h

paid_emptied : (n : ℕ) (s : State) (invocations : List Invocation) (b : Bool) → Emptied {T = Unit {0}} (if b then Done tt (record s { fuel = s.fuel - n; invocations = invocations }) else Exit RunsOut (record s { fuel = 0 }))
paid_emptied n s invocations true = tt
paid_emptied n s invocations false = refl

caught_emptied : (s : State) (r : Control ℕ) → Emptied r → Emptied (attempt_of (λ _. r) s)
unfolding attempt_of
caught_emptied s (Done x t) h = tt
caught_emptied s (Exit (Reverts cause) t) h = tt
caught_emptied s (Exit RunsOut t) h = h

module _ (store : Store) where
  closed : parts.IsClosed store store Empties
  unfolding pay read_cell write_cell attempt_of
  closed = record {
    pures = λ x s. tt;
    reverts = λ cause s. tt;
    ends = λ s. refl;
    binds = λ {m = m} {f = f} h k s. after_emptied (m s) f (h s) k;
    looks = λ h s. h s s;
    pays = λ inv n s. paid_emptied n s _ (nat_le n s.fuel);
    reads = λ inv cell s. after_emptied (pay inv READ s) (λ _. read_cell store inv cell) (paid_emptied READ s _ (nat_le READ s.fuel)) (λ _ t. tt);
    writes = λ inv cell value x s. after_emptied (pay inv WRITE s) (λ _. write_cell inv cell value >>= (λ _. pure x)) (paid_emptied WRITE s _ (nat_le WRITE s.fuel)) (λ _ t. tt);
    hears = λ inv value s. tt;
    answers = λ inv value s. tt;
    begins = λ object method args h s. h _ _;
    tries = λ inv {m = m} h s. caught_emptied s (m s) (h s);
    widens = λ h. h;
  }

uses_all : (store : Store) (limit : ℕ) (r : Control ℕ) → Emptied r → (result_of store limit r).outcome ≡ OutOfFuel → (result_of store limit r).fuel ≡ limit
uses_all store limit (Done x t) h is = absurd (cc)
uses_all store limit (Exit (Reverts cause) t) h is = absurd (cc)
uses_all store limit (Exit RunsOut t) h is = omega arith

pub out_of_fuel_uses_all : OutOfFuelUsesAll
unfolding run
out_of_fuel_uses_all typed store tx h = uses_all store tx.fuel (calls_of typed store tx.calls (initial_state tx.fuel)) (parts.calls_alike store store Empties (closed store) typed tx.calls (initial_state tx.fuel)) h
