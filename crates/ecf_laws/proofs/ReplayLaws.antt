-- The steps of a run, gone through again: what they read, and what they wrote.
use Rattle.std.proofs.Common.{◌≡◌, ℕ, ◌-◌, Bool, true, false, List, [], ◌∷◌, ◌++◌, Option, refl, ap, sym, ◌∙◌}
use Rattle.std.specs.Prelude.{if◌then◌else◌, nat_le, unwrap_or}
use Rattle.ecf_lang.specs.declared.cell.Cell.{Cell}
use Rattle.ecf_lang.specs.declared.costs.TheConstants.{READ, WRITE}
use Rattle.ecf_lang.specs.declared.run.Step.{Step}
use Rattle.ecf_lang.specs.declared.run.Invocation.{Invocation}
use Rattle.ecf_lang.specs.declared.run.Outcome.TheVariants.{Answer}
use Rattle.ecf_lang.specs.declared.tx.Tx.{Tx}
use Rattle.ecf_lang.specs.declared.typed.Typed.{Typed}
use Rattle.ecf_lang.specs.Store.{Store, Cells, find_cell, read, set}
use Rattle.ecf_lang.specs.Part.{State, Control, Done, Exit, Reverts, RunsOut, Part, after, ◌>>=◌, pure, pay, read_cell, write_cell, attempt_of}
use Rattle.ecf_lang.specs.Meaning.{run, result_of, calls_of, initial_state}
use Rattle.ecf_laws.specs.Parts.{end_state}
use Rattle.ecf_laws.specs.Replay.{after_step, after_steps, IsSeen, AreSeen}
use Rattle.ecf_laws.specs.Laws.{ReadsSeeWrites, WritesAreOfSteps}
use Rattle.ecf_laws.proofs.PartLaws as parts

after_push : (written : Cells) (steps : List Step) (step : Step) → after_steps written (steps ++ step ∷ []) ≡ after_step (after_steps written steps) step
after_push written [] step = refl
after_push written (first ∷ steps) step = after_push (after_step written first) steps step

seen_push : (store : Store) (written : Cells) (steps : List Step) (step : Step) → AreSeen store written steps → IsSeen store (after_steps written steps) step → AreSeen store written (steps ++ step ∷ [])
seen_push store written [] step h last = (last, tt)
seen_push store written (first ∷ steps) step h last = (h.0, seen_push store (after_step written first) steps step h.1 last)

module _ (store : Store) where
  -- the written cells are those of the steps, and each read among these saw the writes before it
  pub record Replayed (s : State) : Type 0 where
    pub written : s.written ≡ after_steps [] s.steps
    pub seen : AreSeen store [] s.steps

  abbrev pub Replays : (T : Type 0) → Option ℕ → Part T → Part T → Type 0
  Replays T o m n = (s : State) → Replayed s → Replayed (end_state (m s))

  after_replayed : {S T : Type 0} (r : Control S) (f : S → Part T) → Replayed (end_state r) → ((x : S) (s : State) → Replayed s → Replayed (end_state (f x s))) → Replayed (end_state (after r f))
  after_replayed (Done x s) f h k = k x s h
  after_replayed (Exit halt s) f h k = h

  paid_replayed : (n : ℕ) (s : State) (invocations : List Invocation) (b : Bool) → Replayed s → Replayed (end_state {A = Unit {0}} (if b then Done tt (record s { fuel = s.fuel - n; invocations = invocations }) else Exit RunsOut (record s { fuel = 0 })))
  paid_replayed n s invocations true h = record { written = h.written; seen = h.seen }
  paid_replayed n s invocations false h = record { written = h.written; seen = h.seen }

  read_replayed : (inv : ℕ) (cell : Cell) (s : State) → Replayed s → Replayed (end_state (read_cell store inv cell s))
  unfolding read_cell
  read_replayed inv cell s h = record {
    written = h.written ∙ sym (after_push [] s.steps _);
    seen = seen_push store [] s.steps _ h.seen (λ _. ap (λ l. unwrap_or (find_cell l cell) (read store cell)) h.written);
  }

  write_replayed : (inv : ℕ) (cell : Cell) (value : ℕ) (s : State) → Replayed s → Replayed (end_state (write_cell inv cell value s))
  unfolding write_cell
  write_replayed inv cell value s h = record {
    written = ap (λ l. set l cell value) h.written ∙ sym (after_push [] s.steps _);
    seen = seen_push store [] s.steps _ h.seen (λ not_read. absurd (cc));
  }

  caught_replayed : (s : State) (r : Control ℕ) → Replayed s → Replayed (end_state r) → Replayed (end_state (attempt_of (λ _. r) s))
  unfolding attempt_of
  caught_replayed s (Done x t) before h = h
  caught_replayed s (Exit (Reverts cause) t) before h = record { written = before.written; seen = before.seen }
  caught_replayed s (Exit RunsOut t) before h = h

  closed : parts.IsClosed store store Replays
  unfolding pay attempt_of
  closed = record {
    pures = λ x s h. h;
    reverts = λ cause s h. h;
    ends = λ s h. record { written = h.written; seen = h.seen };
    binds = λ {m = m} {f = f} h k s before. after_replayed (m s) f (h s before) k;
    looks = λ h s. h s s;
    pays = λ inv n s h. paid_replayed n s _ (nat_le n s.fuel) h;
    reads = λ inv cell s h. after_replayed (pay inv READ s) (λ _. read_cell store inv cell) (paid_replayed READ s _ (nat_le READ s.fuel) h) (λ _ t k. read_replayed inv cell t k);
    writes = λ inv cell value x s h. after_replayed (pay inv WRITE s) (λ _. write_cell inv cell value >>= (λ _. pure x)) (paid_replayed WRITE s _ (nat_le WRITE s.fuel) h)
        (λ _ t k. after_replayed (write_cell inv cell value t) (λ _. pure x) (write_replayed inv cell value t k) (λ _ u l. l));
    hears = λ inv value s h. record { written = h.written; seen = h.seen };
    answers = λ inv value s h. record { written = h.written; seen = h.seen };
    begins = λ object method args h s before. h _ _ (record { written = before.written; seen = before.seen });
    tries = λ inv {m = m} h s before. caught_replayed s (m s) before (h s before);
    widens = λ h. h;
  }

  pub replayed : (typed : Typed) (tx : Tx) → Replayed (end_state (calls_of typed store tx.calls (initial_state tx.fuel)))
  replayed typed tx = parts.calls_alike store store Replays closed typed tx.calls (initial_state tx.fuel) (record { written = refl; seen = tt })

  seen_of : (limit : ℕ) (r : Control ℕ) → Replayed (end_state r) → AreSeen store [] (result_of store limit r).steps
  seen_of limit (Done x t) h = h.seen
  seen_of limit (Exit halt t) h = h.seen

  written_of : (limit : ℕ) (r : Control ℕ) (value : ℕ) → Replayed (end_state r) → (result_of store limit r).outcome ≡ Answer value → (result_of store limit r).writes ≡ after_steps [] (result_of store limit r).steps
  written_of limit (Done x t) value h is = h.written
  written_of limit (Exit (Reverts cause) t) value h is = absurd (cc)
  written_of limit (Exit RunsOut t) value h is = absurd (cc)

pub reads_see_writes : ReadsSeeWrites
unfolding run
reads_see_writes typed store tx = seen_of store tx.fuel (calls_of typed store tx.calls (initial_state tx.fuel)) (replayed store typed tx)

pub writes_are_of_steps : WritesAreOfSteps
unfolding run
writes_are_of_steps typed store tx value is = written_of store tx.fuel (calls_of typed store tx.calls (initial_state tx.fuel)) value (replayed store typed tx) is
