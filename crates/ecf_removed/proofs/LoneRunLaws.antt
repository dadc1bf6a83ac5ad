-- Runs of invocations alone, one after the other: that they go on, and that they leave a store a store.
use Rattle.std.proofs.Common.{◌≡◌, ℕ, [], ◌∷◌, ◌++◌, Option, Some, None, refl, ap}
use Rattle.std.specs.Prelude.{slice_get}
use Rattle.ecf_lang.specs.declared.run.Invocation.{Invocation}
use Rattle.ecf_lang.specs.declared.typed.Typed.{Typed}
use Rattle.ecf_lang.specs.Store.{Store, IsStore}
use Rattle.ecf_lang.specs.Part.{Control, Done, Exit}
use Rattle.ecf_lang.specs.Meaning.{result_of, initial_state}
use Rattle.ecf_lang.specs.Alone.{lone_of, by_itself, alone}
use Rattle.ecf_stores.specs.StoreLaws.{writes_keep_store}
use Rattle.ecf_removed.specs.LoneRuns.{LoneRuns, with_run, run_and_others, lone_runs}
use Rattle.ecf_removed.specs.Laws.{LoneRunsGoOn, LoneRunsKeepStore}

first_goes_on : (typed : Typed) (inv : ℕ) (one : Option Invocation) (fields : Store) (short long : Store → LoneRuns) (more : Store → LoneRuns) →
    ((left : Store) → long left ≡ record { runs = (short left).runs ++ (more (short left).fields).runs; fields = (more (short left).fields).fields }) →
    run_and_others typed inv one fields long ≡ record { runs = (run_and_others typed inv one fields short).runs ++ (more (run_and_others typed inv one fields short).fields).runs; fields = (more (run_and_others typed inv one fields short).fields).fields }
first_goes_on typed inv None fields short long more h = h fields
first_goes_on typed inv (Some one) fields short long more h = ap (with_run inv (alone typed inv one fields)) (h (alone typed inv one fields).fields)

pub lone_runs_go_on : LoneRunsGoOn
unfolding lone_runs
lone_runs_go_on typed invocations [] more fields = refl
lone_runs_go_on typed invocations (inv ∷ order) more fields = first_goes_on typed inv (slice_get invocations inv) fields (lone_runs typed invocations order) (lone_runs typed invocations (order ++ more)) (lone_runs typed invocations more) (λ left. lone_runs_go_on typed invocations order more left)

ran_store : (inv limit : ℕ) (fields : Store) (r : Control ℕ) → IsStore fields → IsStore (lone_of inv (result_of fields limit r)).fields
ran_store inv limit fields (Done x s) h = writes_keep_store fields s.written h
ran_store inv limit fields (Exit halt s) h = h

alone_store : (typed : Typed) (inv : ℕ) (one : Invocation) (fields : Store) → IsStore fields → IsStore (alone typed inv one fields).fields
unfolding alone
alone_store typed inv one fields h = ran_store inv one.own_fuel fields (by_itself typed fields one (initial_state one.own_fuel)) h

first_store : (typed : Typed) (inv : ℕ) (o : Option Invocation) (fields : Store) (others : Store → LoneRuns) → ((left : Store) → IsStore left → IsStore (others left).fields) → IsStore fields → IsStore (run_and_others typed inv o fields others).fields
first_store typed inv None fields others k h = k fields h
first_store typed inv (Some one) fields others k h = k (alone typed inv one fields).fields (alone_store typed inv one fields h)

pub lone_runs_keep_store : LoneRunsKeepStore
unfolding lone_runs
lone_runs_keep_store typed invocations [] fields h = h
lone_runs_keep_store typed invocations (inv ∷ order) fields h = first_store typed inv (slice_get invocations inv) fields (lone_runs typed invocations order) (lone_runs_keep_store typed invocations order) h
