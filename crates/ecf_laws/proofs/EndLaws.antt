-- Where a run ends.
use Rattle.std.proofs.Common.{◌≡◌, ℕ, ◌≤◌, [], refl, arith}
use Rattle.std.specs.Prelude.{◌≢◌}
use Rattle.ecf_lang.specs.declared.run.Outcome.TheVariants.{Answer}
use Rattle.ecf_lang.specs.Store.{Store, with_writes}
use Rattle.ecf_lang.specs.Part.{Control, Done, Exit}
use Rattle.ecf_lang.specs.Meaning.{run, result_of, calls_of, initial_state}
use Rattle.ecf_laws.specs.Laws.{UnansweredLeavesStore, UnansweredWritesNothing, EndsWithWrites, FuelWithinLimit}

stays : (store : Store) (limit : ℕ) (r : Control ℕ) → ((value : ℕ) → (result_of store limit r).outcome ≢ Answer value) → (result_of store limit r).store ≡ store
stays store limit (Done value state) h = absurd (h value refl)
stays store limit (Exit halt state) h = refl

nothing : (store : Store) (limit : ℕ) (r : Control ℕ) → ((value : ℕ) → (result_of store limit r).outcome ≢ Answer value) → (result_of store limit r).writes ≡ []
nothing store limit (Done value state) h = absurd (h value refl)
nothing store limit (Exit halt state) h = refl

ends : (store : Store) (limit : ℕ) (r : Control ℕ) → (result_of store limit r).store ≡ with_writes store (result_of store limit r).writes
ends store limit (Done value state) = refl
ends store limit (Exit halt state) = refl

within : (store : Store) (limit : ℕ) (r : Control ℕ) → (result_of store limit r).fuel ≤ limit
within store limit (Done value state) = omega arith
within store limit (Exit halt state) = omega arith

pub unanswered_leaves_store : UnansweredLeavesStore
unfolding run
unanswered_leaves_store typed store tx h = stays store tx.fuel (calls_of typed store tx.calls (initial_state tx.fuel)) h

pub unanswered_writes_nothing : UnansweredWritesNothing
unfolding run
unanswered_writes_nothing typed store tx h = nothing store tx.fuel (calls_of typed store tx.calls (initial_state tx.fuel)) h

pub ends_with_writes : EndsWithWrites
unfolding run
ends_with_writes typed store tx = ends store tx.fuel (calls_of typed store tx.calls (initial_state tx.fuel))

pub fuel_within_limit : FuelWithinLimit
unfolding run
fuel_within_limit typed store tx = within store tx.fuel (calls_of typed store tx.calls (initial_state tx.fuel))
