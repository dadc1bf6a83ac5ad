-- What a run reads and writes, and that it stands for itself on other stores.
use Rattle.std.proofs.Common.{◌≡◌, ℕ, refl, ap, sym, subst, ◌∙◌, arith}
use Rattle.std.specs.Prelude.{AllPairs, ◌≢◌}
use Rattle.std.specs.List.Sorted.{IsStrictlySortedBy}
use Rattle.std.specs.Map.{keys_of}
use Rattle.std.proofs.lemmas.List.Elements.{All-nil}
use Rattle.ecf_lang.specs.declared.cell.Cell.{Cell}
use Rattle.ecf_lang.specs.declared.tx.Tx.{Tx}
use Rattle.ecf_lang.specs.declared.typed.Typed.{Typed}
use Rattle.ecf_lang.specs.Store.{Store, IsRising, IsStore, with_writes, read}
use Rattle.ecf_lang.specs.Part.{Control, Done, Exit}
use Rattle.ecf_lang.specs.Meaning.{run, result_of, kept_run, calls_of, initial_state}
use Rattle.ecf_lang.specs.Draft.{AgreesWith}
use Rattle.ecf_laws.specs.Parts.{end_state}
use Rattle.ecf_laws.specs.Laws.{ReadsAreStored, ReadsDiffer, WritesRise, RunKeepsStore, RunStands, SameReadsSameRun}
use Rattle.ecf_laws.proofs.PartLaws as parts
use Rattle.ecf_laws.proofs.ReadLaws as reading
use Rattle.ecf_stores.specs.StoreLaws.{writes_keep_store}
use Rattle.ecf_laws.proofs.EndLaws.{ends_with_writes}

begun : (A B : Store) (fuel : ℕ) → reading.Sound A B (initial_state fuel)
unfolding IsStrictlySortedBy
begun A B fuel = record {
  reads_are = All-nil (λ (p : Cell × ℕ). read A p.0 ≡ p.1);
  differ = λ i j d h k. absurd (omega arith);
  rising = tt;
}

goes : (typed : Typed) (A B : Store) (tx : Tx) → reading.Goes A B (initial_state tx.fuel) (calls_of typed A tx.calls (initial_state tx.fuel)) (calls_of typed B tx.calls (initial_state tx.fuel))
goes typed A B tx = parts.calls_alike A B (reading.Same A B) (reading.closed A B) typed tx.calls (initial_state tx.fuel) (begun A B tx.fuel)

reads_led : (store : Store) (limit : ℕ) (r : Control ℕ) → (result_of store limit r).reads ≡ (end_state r).reads
reads_led store limit (Done value state) = refl
reads_led store limit (Exit halt state) = refl

writes_rise_of : (store : Store) (limit : ℕ) (r : Control ℕ) → IsRising (end_state r).written → IsRising (result_of store limit r).writes
unfolding IsStrictlySortedBy
writes_rise_of store limit (Done value state) h = h
writes_rise_of store limit (Exit halt state) h = tt

pub reads_are_stored : ReadsAreStored
unfolding run
reads_are_stored typed store tx = subst (λ l. AgreesWith l store) (sym (reads_led store tx.fuel (calls_of typed store tx.calls (initial_state tx.fuel)))) (goes typed store store tx).sound.reads_are

pub reads_differ : ReadsDiffer
unfolding run
reads_differ typed store tx = subst (λ l. AllPairs (λ a b. a ≢ b) (keys_of l)) (sym (reads_led store tx.fuel (calls_of typed store tx.calls (initial_state tx.fuel)))) (goes typed store store tx).sound.differ

pub writes_rise : WritesRise
unfolding run
writes_rise typed store tx = writes_rise_of store tx.fuel (calls_of typed store tx.calls (initial_state tx.fuel)) (goes typed store store tx).sound.rising

pub run_keeps_store : RunKeepsStore
run_keeps_store typed store tx h = subst IsStore (sym (ends_with_writes typed store tx)) (writes_keep_store store (run typed store tx).writes h)

-- what the result of a run on another store has in common with it, where both led to the same
pub record AlsoOn (A B : Store) (limit : ℕ) (r : Control ℕ) : Type 0 where
  pub outcome : (result_of B limit r).outcome ≡ (result_of A limit r).outcome
  pub fuel : (result_of B limit r).fuel ≡ (result_of A limit r).fuel
  pub steps : (result_of B limit r).steps ≡ (result_of A limit r).steps
  pub invocations : (result_of B limit r).invocations ≡ (result_of A limit r).invocations
  pub ends : (result_of B limit r).store ≡ with_writes B (result_of A limit r).writes

also_on : (A B : Store) (limit : ℕ) (r : Control ℕ) → AlsoOn A B limit r
also_on A B limit (Done value state) = record { outcome = refl; fuel = refl; steps = refl; invocations = refl; ends = refl }
also_on A B limit (Exit halt state) = record { outcome = refl; fuel = refl; steps = refl; invocations = refl; ends = refl }

pub run_stands : RunStands
unfolding run
run_stands typed A tx B is_store agrees =
    let r : Control ℕ = calls_of typed A tx.calls (initial_state tx.fuel) in
    let t : Control ℕ = calls_of typed B tx.calls (initial_state tx.fuel) in
    let same : t ≡ r = (goes typed A B tx).same (subst (λ l. AgreesWith l B) (reads_led A tx.fuel r) agrees) in
    let also : AlsoOn A B tx.fuel r = also_on A B tx.fuel r in
    record {
      outcome = ap (λ q. (result_of B tx.fuel q).outcome) same ∙ also.outcome;
      fuel = ap (λ q. (result_of B tx.fuel q).fuel) same ∙ also.fuel;
      steps = ap (λ q. (result_of B tx.fuel q).steps) same ∙ also.steps;
      invocations = ap (λ q. (result_of B tx.fuel q).invocations) same ∙ also.invocations;
      ends = ap (λ q. (result_of B tx.fuel q).store) same ∙ also.ends;
    }

same_recorded : (A B : Store) (limit : ℕ) (r : Control ℕ) → kept_run (result_of B limit r) ≡ kept_run (result_of A limit r)
same_recorded A B limit (Done value state) = refl
same_recorded A B limit (Exit halt state) = refl

pub same_reads_same_run : SameReadsSameRun
unfolding run
same_reads_same_run typed A B tx agrees =
    let r : Control ℕ = calls_of typed A tx.calls (initial_state tx.fuel) in
    let t : Control ℕ = calls_of typed B tx.calls (initial_state tx.fuel) in
    let same : t ≡ r = (goes typed A B tx).same (subst (λ l. AgreesWith l B) (reads_led A tx.fuel r) agrees) in
    ap (λ q. kept_run (result_of B tx.fuel q)) same ∙ same_recorded A B tx.fuel r
