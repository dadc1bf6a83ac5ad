-- Each step of a run was charged; what is undone leaves no steps, and its charge stays.
use Rattle.std.proofs.Common.{◌≡◌, ℕ, ◌+◌, ◌-◌, ◌*◌, ◌≤◌, Bool, true, false, List, ◌∷◌, [], Option, length, None, refl, length-append, arith}
use Rattle.std.proofs.lemmas.Bool.Decides.{nat_tests}
use Rattle.std.specs.Prelude.{if◌then◌else◌, nat_le}
use Rattle.ecf_lang.specs.declared.cell.Cell.{Cell}
use Rattle.ecf_lang.specs.declared.costs.TheConstants.{READ, WRITE}
use Rattle.ecf_lang.specs.declared.run.Invocation.{Invocation}
use Rattle.ecf_lang.specs.Store.{Store}
use Rattle.ecf_lang.specs.Part.{State, Control, Done, Exit, Reverts, RunsOut, Part, after, ◌>>=◌, pure, pay, read_cell, write_cell, attempt_of}
use Rattle.ecf_lang.specs.Meaning.{run, result_of, calls_of, initial_state}
use Rattle.ecf_laws.specs.Parts.{end_state}
use Rattle.ecf_laws.specs.Laws.{StepsAreCharged}
use Rattle.ecf_laws.proofs.PartLaws as parts

-- from a state to a later one: no fuel was made, and each step more was charged
record Charged (s t : State) : Type 0 where
  falls : t.fuel ≤ s.fuel
  charged : READ * length t.steps + t.fuel ≤ READ * length s.steps + s.fuel

abbrev Charges : (T : Type 0) → Option ℕ → Part T → Part T → Type 0
Charges T o m n = (s : State) → Charged s (end_state (m s))

-- one step more, for no fuel
record HasOneMore (s t : State) : Type 0 where
  same : t.fuel ≡ s.fuel
  longer : length t.steps ≡ length s.steps + 1

still : (s t : State) → t.fuel ≤ s.fuel → length t.steps ≡ length s.steps → Charged s t
still s t falls same = record { falls = falls; charged = omega (arith, same) }

after_charged : {S T : Type 0} (s : State) (r : Control S) (f : S → Part T) → Charged s (end_state r) → ((x : S) → Charges T None (f x) (f x)) → Charged s (end_state (after r f))
after_charged s (Done x t) f h k =
    let later : Charged t (end_state (f x t)) = k x t in
    record { falls = omega (arith, h.falls, later.falls); charged = omega (arith, h.charged, later.charged) }
after_charged s (Exit halt t) f h k = h

paid_charged : (n : ℕ) (s : State) (invocations : List Invocation) (b : Bool) → Charged s (end_state {A = Unit {0}} (if b then Done tt (record s { fuel = s.fuel - n; invocations = invocations }) else Exit RunsOut (record s { fuel = 0 })))
paid_charged n s invocations true = still s _ (omega arith) refl
paid_charged n s invocations false = still s _ (omega arith) refl

-- a step behind a charge of no less than a read
step_charged : {T : Type 0} (n : ℕ) (s : State) (invocations : List Invocation) (b : Bool) (f : Part T) → READ ≤ n → nat_le n s.fuel ≡ b → ((t : State) → HasOneMore t (end_state (f t))) →
    Charged s (end_state (after {A = Unit {0}} (if b then Done tt (record s { fuel = s.fuel - n; invocations = invocations }) else Exit RunsOut (record s { fuel = 0 })) (λ _. f)))
step_charged n s invocations true f least is one =
    let enough : n ≤ s.fuel = grind (arith, nat_tests, is) in
    let paid : State = record s { fuel = s.fuel - n; invocations = invocations } in
    let more : HasOneMore paid (end_state (f paid)) = one paid in
    let same : (end_state (f paid)).fuel ≡ s.fuel - n = more.same in
    let longer : length (end_state (f paid)).steps ≡ length s.steps + 1 = more.longer in
    record { falls = omega arith; charged = omega arith }
step_charged n s invocations false f least is one = still s _ (omega arith) refl

read_adds : (store : Store) (inv : ℕ) (cell : Cell) (s : State) → HasOneMore s (end_state (read_cell store inv cell s))
unfolding read_cell
read_adds store inv cell s = record { same = refl; longer = length-append s.steps _ }

write_adds : {T : Type 0} (inv : ℕ) (cell : Cell) (value : ℕ) (x : T) (s : State) → HasOneMore s (end_state ((write_cell inv cell value >>= (λ _. pure x)) s))
unfolding write_cell
write_adds inv cell value x s = record { same = refl; longer = length-append s.steps _ }

caught_charged : (s : State) (r : Control ℕ) → Charged s (end_state r) → Charged s (end_state (attempt_of (λ _. r) s))
unfolding attempt_of
caught_charged s (Done x t) h = h
caught_charged s (Exit (Reverts cause) t) h = still s _ h.falls refl
caught_charged s (Exit RunsOut t) h = h

module _ (store : Store) where
  closed : parts.IsClosed store store Charges
  unfolding pay attempt_of
  closed = record {
    pures = λ x s. still s _ (omega arith) refl;
    reverts = λ cause s. still s _ (omega arith) refl;
    ends = λ s. still s _ (omega arith) refl;
    binds = λ {m = m} {f = f} h k s. after_charged s (m s) f (h s) k;
    looks = λ h s. h s s;
    pays = λ inv n s. paid_charged n s _ (nat_le n s.fuel);
    reads = λ inv cell s. step_charged READ s _ (nat_le READ s.fuel) (read_cell store inv cell) (omega arith) refl (read_adds store inv cell);
    writes = λ inv cell value x s. step_charged WRITE s _ (nat_le WRITE s.fuel) (write_cell inv cell value >>= (λ _. pure x)) (omega arith) refl (write_adds inv cell value x);
    hears = λ inv value s. still s _ (omega arith) refl;
    answers = λ inv value s. still s _ (omega arith) refl;
    begins = λ object method args h s. (let later = h _ _ in record { falls = later.falls; charged = later.charged });
    tries = λ inv {m = m} h s. caught_charged s (m s) (h s);
    widens = λ h. h;
  }

used : (store : Store) (limit : ℕ) (r : Control ℕ) → Charged (initial_state limit) (end_state r) → READ * length (result_of store limit r).steps ≤ (result_of store limit r).fuel
used store limit (Done x t) h = omega (arith, h.falls, h.charged)
used store limit (Exit (Reverts cause) t) h = omega (arith, h.falls, h.charged)
used store limit (Exit RunsOut t) h = omega (arith, h.falls, h.charged)

pub steps_are_charged : StepsAreCharged
unfolding run
steps_are_charged typed store tx = used store tx.fuel (calls_of typed store tx.calls (initial_state tx.fuel)) (parts.calls_alike store store Charges (closed store) typed tx.calls (initial_state tx.fuel))
