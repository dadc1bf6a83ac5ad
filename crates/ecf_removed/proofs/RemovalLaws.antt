-- Callbacks removed. Down the named order each block reads as recorded from the fields so far, so its invocation repeats
-- what it did, and leaves what the block leaves.
use Rattle.std.proofs.Common.{◌≡◌, ℕ, Bool, true, false, cond, ◌==◌, List, [], ◌∷◌, ◌++◌, map, Option, Some, None, refl, sym, ap, subst, ◌∙◌}
use Rattle.std.specs.Prelude.{slice_get, Contains}
use Rattle.std.specs.Option.{IsSomeAnd}
use Rattle.std.proofs.lemmas.Bool.{eq-eqb, eqb-true}
use Rattle.ecf_lang.specs.declared.cell.Cell.{Cell}
use Rattle.ecf_lang.specs.declared.run.Step.{Step}
use Rattle.ecf_lang.specs.declared.run.Invocation.{Invocation}
use Rattle.ecf_lang.specs.declared.run.Outcome.{Outcome}
use Rattle.ecf_lang.specs.declared.run.Outcome.TheVariants.{Answer, Reverted, OutOfFuel}
use Rattle.ecf_lang.specs.declared.typed.Typed.{Typed}
use Rattle.ecf_lang.specs.declared.tx.Tx.{Tx}
use Rattle.ecf_lang.specs.Store.{Store, IsStore, read, with_writes}
use Rattle.ecf_lang.specs.Meaning.{run}
use Rattle.ecf_lang.specs.Alone.{Lone, alone}
use Rattle.ecf_stores.specs.StoreLaws.{writes_keep_store}
use Rattle.ecf_laws.specs.Laws.{IsOfStandingInvocation, UndoneStepsVanish, EndsWithWrites, ReadsSeeWrites, WritesAreOfSteps}
use Rattle.ecf_laws.specs.Replay.{AreSeen, after_steps}
use Rattle.ecf_verdicts.specs.Free.{Free}
use Rattle.ecf_verdicts.specs.Placing.{placing}
use Rattle.ecf_verdicts.specs.Laws.{MembersAre, PlacesMembers}
use Rattle.ecf_verdicts.specs.SerialLaws.{IsAnswer, CommittedWhereFree}
use Rattle.ecf_verdicts.specs.Traces.{members, trace}
use Rattle.ecf_verdicts.specs.ListLemmas.{Each, In, Each_at, Each_weaker, Each_from_all, All_from_Each, Has_in, Has_from_Any, In_filter, In_filter_from}
use Rattle.ecf_removed.specs.Contents.{Contents, contents_after, contents_after_all, ReadsGive, BlocksDoAlike, TraceSuffices}
use Rattle.ecf_verdicts.specs.Blocks.{block, blocks}
use Rattle.ecf_removed.specs.LoneRuns.{LoneRuns, run_and_others, lone_runs, RepeatsAlone, RepeatsNext, IsAsRecorded, CallbacksRemovedFrom}
use Rattle.ecf_removed.specs.Laws.{CallbacksRemoved, EachRepeatsNext, FreeBlocksDoAlike}
use Rattle.ecf_removed.proofs.EchoLaws as echo
use Rattle.ecf_removed.proofs.ContentLaws.{seen_from_reads, reads_from_seen, read-after_steps}
use Rattle.ecf_removed.proofs.InvocationLaws.{each_is_repeatable}
use Rattle.ecf_removed.proofs.TraceLaws.{traces_suffice}

-- the laws of runs and of verdicts that callbacks removed rest on
pub record Premises : Type 0 where
  pub undone : UndoneStepsVanish
  pub ends : EndsWithWrites
  pub reads : ReadsSeeWrites
  pub writes : WritesAreOfSteps
  pub committed : CommittedWhereFree
  pub members : MembersAre
  pub placed : PlacesMembers
  pub blocks : FreeBlocksDoAlike

-- steps in two parts
reads_first : (xs ys : List Step) (contents : Contents) → ReadsGive contents (xs ++ ys) → ReadsGive contents xs
reads_first [] ys contents h = tt
reads_first (x ∷ xs) ys contents h = (h.0, reads_first xs ys (contents_after x contents) h.1)

reads_last : (xs ys : List Step) (contents : Contents) → ReadsGive contents (xs ++ ys) → ReadsGive (contents_after_all xs contents) ys
reads_last [] ys contents h = h
reads_last (x ∷ xs) ys contents h = reads_last xs ys (contents_after x contents) h.1

contents_after_all-append : (xs ys : List Step) (contents : Contents) → contents_after_all (xs ++ ys) contents ≡ contents_after_all ys (contents_after_all xs contents)
contents_after_all-append [] ys contents = refl
contents_after_all-append (x ∷ xs) ys contents = contents_after_all-append xs ys (contents_after x contents)

-- an invocation with steps on an object: it is there, its steps are those of the trace, and it repeats them alone
pub record Member (typed : Typed) (invocations : List Invocation) (steps t : List Step) (inv : ℕ) : Type 0 where
  pub one : Invocation
  pub is : slice_get invocations inv ≡ Some one
  pub same : block t inv ≡ block steps inv
  pub does : (fields : Store) → AreSeen fields [] (block steps inv) → RepeatsAlone typed inv one (block steps inv) fields

-- the invocation of that number repeats alone, on these fields, what it did
pub record Next (typed : Typed) (invocations : List Invocation) (steps : List Step) (inv : ℕ) (fields : Store) : Type 0 where
  pub one : Invocation
  pub is : slice_get invocations inv ≡ Some one
  pub does : RepeatsAlone typed inv one (block steps inv) fields

-- invocations, each alone from the fields that the one before left, where their blocks one after the other read as recorded
pub record InTurn (typed : Typed) (invocations : List Invocation) (steps t : List Step) (order : List ℕ) (fields : Store) (ends : LoneRuns) : Type 0 where
  pub numbers : map (λ (r : ℕ × Lone). r.0) ends.runs ≡ order
  pub recorded : Each (IsAsRecorded invocations steps) ends.runs
  pub contents : (cell : Cell) → read ends.fields cell ≡ contents_after_all (blocks t order) (read fields) cell
  pub next : (taken more : List ℕ) (inv : ℕ) → order ≡ taken ++ inv ∷ more → Next typed invocations steps inv (lone_runs typed invocations taken fields).fields

in_turn : (typed : Typed) (invocations : List Invocation) (steps t : List Step) (order : List ℕ) (fields : Store) → IsStore fields → Each (Member typed invocations steps t) order → ReadsGive (read fields) (blocks t order) → InTurn typed invocations steps t order fields (lone_runs typed invocations order fields)
unfolding lone_runs
in_turn typed invocations steps t [] fields h among reads = record { numbers = refl; recorded = tt; contents = λ cell. refl; next = λ taken more inv e. absurd (none taken more inv e) }
  where
    none : (taken more : List ℕ) (inv : ℕ) → ◌≡◌ {A = List ℕ} [] (taken ++ inv ∷ more) → ⊥
    none [] more inv e = cc
    none (n ∷ taken) more inv e = cc
in_turn typed invocations steps t (inv ∷ order) fields h among reads =
    let m : Member typed invocations steps t inv = among.0 in
    let seen : AreSeen fields [] (block steps inv) = subst (AreSeen fields []) m.same (seen_from_reads fields (block t inv) [] (reads_first (block t inv) (blocks t order) (read fields) reads)) in
    let does : RepeatsAlone typed inv m.one (block steps inv) fields = m.does fields seen in
    let after : Store = with_writes fields (after_steps [] (block steps inv)) in
    let left : (alone typed inv m.one fields).fields ≡ after = ap (λ (l : Lone). l.fields) does.same in
    let now : read after ≡ contents_after_all (block t inv) (read fields) = read-after_steps (block steps inv) fields h ∙ ap (λ b. contents_after_all b (read fields)) (sym m.same) in
    let later : InTurn typed invocations steps t order after (lone_runs typed invocations order after) =
    in_turn typed invocations steps t order after (writes_keep_store fields (after_steps [] (block steps inv)) h) among.1
    (subst (λ k. ReadsGive k (blocks t order)) (sym now) (reads_last (block t inv) (blocks t order) (read fields) reads)) in
    let others : InTurn typed invocations steps t order after (lone_runs typed invocations order (alone typed inv m.one fields).fields) = subst (λ f. InTurn typed invocations steps t order after (lone_runs typed invocations order f)) (sym left) later in
    subst (λ o. InTurn typed invocations steps t (inv ∷ order) fields (run_and_others typed inv o fields (lone_runs typed invocations order))) (sym m.is)
    (record {
      numbers = ap (λ l. inv ∷ l) others.numbers;
      recorded = (
        record { one = m.one; is = m.is; value = does.value; answer = does.answer; outcome = ap (λ (l : Lone). l.outcome) does.same; steps_same = ap (λ (l : Lone). l.steps) does.same },
        others.recorded,
      );
      contents = λ cell. others.contents cell ∙ ap (λ k. contents_after_all (blocks t order) k cell) now ∙ ap (λ k. k cell) (sym (contents_after_all-append (block t inv) (blocks t order) (read fields)));
      next = next_of m does (subst (λ f. (taken more : List ℕ) (n : ℕ) → order ≡ taken ++ n ∷ more → Next typed invocations steps n (lone_runs typed invocations taken f).fields) (sym left) later.next);
    })
  where
    next_of : (m : Member typed invocations steps t inv) → RepeatsAlone typed inv m.one (block steps inv) fields → ((taken more : List ℕ) (n : ℕ) → order ≡ taken ++ n ∷ more → Next typed invocations steps n (lone_runs typed invocations taken (alone typed inv m.one fields).fields).fields) →
        (taken more : List ℕ) (n : ℕ) → inv ∷ order ≡ taken ++ n ∷ more → Next typed invocations steps n (lone_runs typed invocations taken fields).fields
    next_of m does later [] more n e =
        let same : inv ≡ n = cc in
        subst (λ k. Next typed invocations steps k fields) same (record { one = m.one; is = m.is; does = does })
    next_of m does later (k ∷ taken) more n e =
        let same : inv ≡ k = cc in
        let others : order ≡ taken ++ n ∷ more = cc in
        let here : Next typed invocations steps n (run_and_others typed inv (slice_get invocations inv) fields (lone_runs typed invocations taken)).fields = subst (λ o. Next typed invocations steps n (run_and_others typed inv o fields (lone_runs typed invocations taken)).fields) (sym m.is) (later taken more n others) in
        subst (λ j. Next typed invocations steps n (run_and_others typed j (slice_get invocations j) fields (lone_runs typed invocations taken)).fields) same here

-- steps on one object alone are those of its trace
trace_block : (steps : List Step) (object inv : ℕ) → Each (λ (s : Step). s.cell.object ≡ object) (block steps inv) → block (trace steps object) inv ≡ block steps inv
unfolding trace
trace_block [] object inv h = refl
trace_block (s ∷ steps) object inv h = by (s.cell.object == object) (s.inv == inv) refl refl (trace_block steps object inv) h
  where
    by : (b c : Bool) → (s.cell.object == object) ≡ b → (s.inv == inv) ≡ c → (Each (λ (s : Step). s.cell.object ≡ object) (block steps inv) → block (trace steps object) inv ≡ block steps inv) → Each (λ (s : Step). s.cell.object ≡ object) (cond c (s ∷ block steps inv) (block steps inv)) →
        block (cond b (s ∷ trace steps object) (trace steps object)) inv ≡ cond c (s ∷ block steps inv) (block steps inv)
    by true true on own deep all = ap (λ d. cond d (s ∷ block (trace steps object) inv) (block (trace steps object) inv)) own ∙ ap (λ l. s ∷ l) (deep all.1)
    by true false on own deep all = ap (λ d. cond d (s ∷ block (trace steps object) inv) (block (trace steps object) inv)) own ∙ deep all
    by false true off own deep all = absurd (let on : (s.cell.object == object) ≡ true = eq-eqb s.cell.object object all.0 in cc)
    by false false off own deep all = deep all

In_trace : (steps : List Step) (object : ℕ) (s : Step) → In s (trace steps object) → In s steps × (s.cell.object ≡ object)
unfolding trace
In_trace steps object s h = let r = In_filter (λ (x : Step). x.cell.object == object) steps s h in (r.0, eqb-true s.cell.object object r.1)

stands_of : (invocations : List Invocation) (inv : ℕ) → IsSomeAnd (slice_get invocations inv) (λ one. one.undone ≡ false) → (one : Invocation) × (slice_get invocations inv ≡ Some one) × (one.undone ≡ false)
stands_of invocations inv h = by (slice_get invocations inv) refl h
  where
    by : (o : Option Invocation) → slice_get invocations inv ≡ o → IsSomeAnd o (λ one. one.undone ≡ false) → (one : Invocation) × (slice_get invocations inv ≡ Some one) × (one.undone ≡ false)
    by None is k = absurd k
    by (Some one) is k = (one, is, k)

module _ (laws : Premises) (typed : Typed) (store : Store) (tx : Tx) (object value : ℕ) (answers : (run typed store tx).outcome ≡ Answer value) where
  abbrev steps : List Step
  steps = (run typed store tx).steps

  abbrev invocations : List Invocation
  invocations = (run typed store tx).invocations

  abbrev t : List Step
  t = trace steps object

  member : (inv : ℕ) → Contains (members t) inv → Member typed invocations steps t inv
  member inv among =
      let some = Has_in (λ (s : Step). s.inv ≡ inv) t (Has_from_Any (λ (s : Step). s.inv ≡ inv) t (((laws.members t).1 inv).0 among)) in
      let step : Step = some.0 in
      let there : In step steps × (step.cell.object ≡ object) = In_trace steps object step some.1 in
      let stand : IsOfStandingInvocation invocations step = Each_at (IsOfStandingInvocation invocations) steps step (Each_from_all (IsOfStandingInvocation invocations) steps (laws.undone typed store tx)) there.0 in
      let found = stands_of invocations inv (subst (λ n. IsSomeAnd (slice_get invocations n) (λ one. one.undone ≡ false)) some.2 stand) in
      let repeatable : echo.IsRepeatable typed inv found.0 (block steps inv) = each_is_repeatable typed store tx value answers inv found.0 found.1 found.2 in
      let own : step.cell.object ≡ found.0.object = Each_at (λ (s : Step). s.cell.object ≡ found.0.object) (block steps inv) step repeatable.own (In_filter_from (λ (s : Step). s.inv == inv) steps step there.0 (eq-eqb step.inv inv some.2)) in
      record {
        one = found.0;
        is = found.1;
        same = trace_block steps object inv (subst (λ o. Each (λ (s : Step). s.cell.object ≡ o) (block steps inv)) (sym own ∙ there.1) repeatable.own);
        does = repeatable.does;
      }

  each_member : Each (Member typed invocations steps t) (placing t).order
  each_member = Each_weaker (Contains (members t)) (Member typed invocations steps t) (placing t).order member (Each_from_all (Contains (members t)) (placing t).order (laws.placed t).1)

  module _ (before : Store) (opening : IsStore store) (is_store : IsStore before) (free : Free t) (agree : (cell : Cell) → cell.object ≡ object → read before cell ≡ read store cell) where
    traced : TraceSuffices (read store) (read before) steps object
    traced = traces_suffice (read store) (read before) steps object (λ cell on. sym (agree cell on)) (reads_from_seen store steps [] (laws.reads typed store tx))

    kept : BlocksDoAlike (read before) t
    kept = laws.blocks t free (read before) traced.reads

    turns : InTurn typed invocations steps t (placing t).order before (lone_runs typed invocations (placing t).order before)
    turns = in_turn typed invocations steps t (placing t).order before is_store each_member kept.reads

    at_end : (cell : Cell) → read (lone_runs typed invocations (placing t).order before).fields cell ≡ contents_after_all t (read before) cell
    at_end cell = turns.contents cell ∙ ap (λ k. k cell) kept.ends

    run_end : read (run typed store tx).store ≡ contents_after_all steps (read store)
    run_end = ap read (laws.ends typed store tx ∙ ap (with_writes store) (laws.writes typed store tx value answers)) ∙ read-after_steps steps store opening

    pub next_does : (taken more : List ℕ) (inv : ℕ) → (placing t).order ≡ taken ++ inv ∷ more → RepeatsNext typed store tx inv (lone_runs typed invocations taken before).fields
    next_does taken more inv e = let n = turns.next taken more inv e in record { one = n.one; is = n.is; does = n.does }

    pub removed : CallbacksRemovedFrom typed store tx object before (lone_runs typed invocations (placing t).order before)
    removed = record {
      numbers = turns.numbers;
      recorded = All_from_Each (IsAsRecorded invocations steps) (lone_runs typed invocations (placing t).order before).runs turns.recorded;
      inside = λ cell on. at_end cell ∙ sym (traced.ends cell on) ∙ sym (ap (λ k. k cell) run_end);
      outside = λ cell off. at_end cell ∙ traced.elsewhere cell off;
    }

answer_of : (o : Outcome) → IsAnswer o → (value : ℕ) × (o ≡ Answer value)
answer_of (Answer value) h = (value, refl)
answer_of (Reverted cause) h = absurd h
answer_of OutOfFuel h = absurd h

pub callbacks_removed : Premises → CallbacksRemoved
callbacks_removed laws typed store tx object before opening is_store committed agree =
    let both = (laws.committed typed store tx).0 committed in
    let answer = answer_of (run typed store tx).outcome both.0 in
    removed laws typed store tx object answer.0 answer.1 before opening is_store (both.1 object) agree

pub each_repeats_next : Premises → EachRepeatsNext
each_repeats_next laws typed store tx object before opening is_store committed agree taken more inv e =
    let both = (laws.committed typed store tx).0 committed in
    let answer = answer_of (run typed store tx).outcome both.0 in
    next_does laws typed store tx object answer.0 answer.1 before opening is_store (both.1 object) agree taken more inv e
