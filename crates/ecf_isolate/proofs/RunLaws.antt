-- Runs alone, one more after those so far.
use Rattle.std.proofs.Common.{◌≡◌, ℕ, zero, suc, ◌+◌, ◌<◌, ◌≤◌, Option, Some, List, [], ◌∷◌, ◌++◌, map, take, length, get_or, refl, sym, ap, subst, ◌∙◌, arith}
use Rattle.std.proofs.lemmas.List.{map-append, take_more}
use Rattle.std.proofs.lemmas.Option.{slice_get-get_or}
use Rattle.std.specs.Prelude.{slice_get}
use Rattle.ecf_isolate.specs.declared.alone.AloneRun.{AloneRun}
use Rattle.ecf_isolate.specs.RunEnds.{RunEnd, end_of, end_of_lone, AreLoneRuns}
use Rattle.ecf_lang.specs.declared.cell.Cell.{Cell}
use Rattle.ecf_lang.specs.declared.run.Invocation.{Invocation}
use Rattle.ecf_lang.specs.declared.typed.Typed.{Typed}
use Rattle.ecf_lang.specs.Alone.{Lone, lone_of, by_itself, alone}
use Rattle.ecf_lang.specs.Meaning.{result_of, initial_state}
use Rattle.ecf_lang.specs.Part.{Control, Done, Exit}
use Rattle.ecf_lang.specs.Store.{Store, Cells, put, with_writes}
use Rattle.ecf_removed.specs.Laws.{LoneRunsGoOn}
use Rattle.ecf_removed.specs.LoneRuns.{LoneRuns, run_and_others, lone_runs}
use Rattle.ecf_stores.specs.StoreLaws.{one_more_write_is_put}

-- one write more is a put into the store that the earlier ones left
pub one_more_write : (store before after : Store) (writes : Cells) (k : ℕ) (d : Cell × ℕ) → k < length writes → before ≡ with_writes store (take k writes) → after ≡ put before (get_or writes k d).0 (get_or writes k d).1
    → after ≡ with_writes store (take (k + 1) writes)
one_more_write store before after writes k d inside so_far one =
    one ∙ ap (λ (s : Store). put s (get_or writes k d).0 (get_or writes k d).1) so_far ∙ sym (one_more_write_is_put store writes k (get_or writes k d) (slice_get-get_or writes k d inside))

-- the fields after a run alone are those before it with its writes
pub fields_are_writes : (typed : Typed) (inv : ℕ) (one : Invocation) (fields : Store) → (alone typed inv one fields).fields ≡ with_writes fields (alone typed inv one fields).writes
unfolding alone
fields_are_writes typed inv one fields = by (by_itself typed fields one (initial_state one.own_fuel))
  where
    by : (r : Control ℕ) → (lone_of inv (result_of fields one.own_fuel r)).fields ≡ with_writes fields (lone_of inv (result_of fields one.own_fuel r)).writes
    by (Done value state) = refl
    by (Exit halt state) = refl

-- no run yet
pub none_yet : (typed : Typed) (invocations : List Invocation) (before after : Store) (runs : List AloneRun) → runs ≡ [] → after ≡ before → AreLoneRuns (lone_runs typed invocations [] before) runs after
unfolding lone_runs
none_yet typed invocations before after runs none same = record { ends = ap (map end_of) none; fields = same }

-- the run of one invocation that is there
one_run : (typed : Typed) (invocations : List Invocation) (inv : ℕ) (one : Invocation) (fields : Store) → slice_get invocations inv ≡ Some one →
    lone_runs typed invocations (inv ∷ []) fields ≡ record { runs = (inv, alone typed inv one fields) ∷ []; fields = (alone typed inv one fields).fields }
unfolding lone_runs
one_run typed invocations inv one fields is = ap (λ o. run_and_others typed inv o fields (lone_runs typed invocations [])) is

-- the run of one more
pub one_more_run : LoneRunsGoOn → (typed : Typed) (invocations : List Invocation) (order : List ℕ) (before : Store) (k d : ℕ) (one : Invocation) (runs more : List AloneRun) (run : AloneRun) (fields after : Store) →
    k < length order → more ≡ runs ++ run ∷ [] → slice_get invocations (get_or order k d) ≡ Some one →
    AreLoneRuns (lone_runs typed invocations (take k order) before) runs fields →
    end_of run ≡ end_of_lone (get_or order k d, alone typed (get_or order k d) one fields) →
    after ≡ (alone typed (get_or order k d) one fields).fields →
    AreLoneRuns (lone_runs typed invocations (take (k + 1) order) before) more after
one_more_run go_on typed invocations order before k d one runs more run fields after inside told is so_far ended left =
    let inv : ℕ = get_or order k d in
    let first : LoneRuns = lone_runs typed invocations (take k order) before in
    let lone : Lone = alone typed inv one first.fields in
    let here : alone typed inv one fields ≡ lone = ap (alone typed inv one) so_far.fields in
    let second : lone_runs typed invocations (inv ∷ []) first.fields ≡ record { runs = (inv, lone) ∷ []; fields = lone.fields } = one_run typed invocations inv one first.fields is in
    let both : lone_runs typed invocations (take (k + 1) order) before ≡ record { runs = first.runs ++ (inv, lone) ∷ []; fields = lone.fields } =
    ap (λ o. lone_runs typed invocations o before) (take_more order k d inside)
    ∙ go_on typed invocations (take k order) (inv ∷ []) before
    ∙ ap (λ (l : LoneRuns). let made : LoneRuns = record { runs = first.runs ++ l.runs; fields = l.fields } in made) second in
    record {
      ends = ap (map end_of) told
          ∙ map-append end_of runs (run ∷ [])
          ∙ ap (λ (e : List RunEnd). e ++ end_of run ∷ []) so_far.ends
          ∙ ap (λ (e : RunEnd). map end_of_lone first.runs ++ e ∷ []) (ended ∙ ap (λ (l : Lone). end_of_lone (inv, l)) here)
          ∙ sym (map-append end_of_lone first.runs ((inv, lone) ∷ []))
          ∙ sym (ap (λ (l : LoneRuns). map end_of_lone l.runs) both);
      fields = left ∙ ap (λ (l : Lone). l.fields) here ∙ sym (ap (λ (l : LoneRuns). l.fields) both);
    }

-- all runs, once the order is gone through
pub all_runs : (typed : Typed) (invocations : List Invocation) (order : List ℕ) (before : Store) (k : ℕ) (runs : List AloneRun) (after : Store) → length order ≤ k → AreLoneRuns (lone_runs typed invocations (take k order) before) runs after → AreLoneRuns (lone_runs typed invocations order before) runs after
all_runs typed invocations order before k runs after over so_far = subst (λ o. AreLoneRuns (lone_runs typed invocations o before) runs after) (take_whole order k over) so_far
  where
    take_whole : (xs : List ℕ) (k : ℕ) → length xs ≤ k → take k xs ≡ xs
    take_whole [] zero over = refl
    take_whole [] (suc k) over = refl
    take_whole (x ∷ xs) zero over = absurd (omega arith)
    take_whole (x ∷ xs) (suc k) over = ap (λ l. x ∷ l) (take_whole xs k (omega arith))
