-- Of a committed transaction: that the next invocation is there and answers, and that all do as recorded.
use Rattle.std.proofs.Common.{◌≡◌, ℕ, zero, suc, ◌+◌, ◌<◌, Option, Some, List, [], ◌∷◌, ◌++◌, map, take, drop, length, get_or, refl, sym, ap, subst, ◌∙◌, arith}
use Rattle.std.proofs.lemmas.Option.{slice_get-get_or}
use Rattle.std.specs.Prelude.{slice_get}
use Rattle.ecf_isolate.specs.declared.alone.AloneRun.{AloneRun}
use Rattle.ecf_isolate.specs.Committed.{IsOfCommitted, IsAsRecorded, DoAsRecorded}
use Rattle.ecf_isolate.specs.RunEnds.{RunEnd, end_of, end_of_lone, AreLoneRuns}
use Rattle.ecf_lang.specs.declared.run.Invocation.{Invocation}
use Rattle.ecf_lang.specs.declared.run.Outcome.{Outcome}
use Rattle.ecf_lang.specs.declared.run.Outcome.TheVariants.{Answer}
use Rattle.ecf_lang.specs.declared.run.Step.{Step}
use Rattle.ecf_lang.specs.declared.tx.Tx.{Tx}
use Rattle.ecf_lang.specs.declared.typed.Typed.{Typed}
use Rattle.ecf_lang.specs.Alone.{Lone, alone}
use Rattle.ecf_lang.specs.Meaning.{run}
use Rattle.ecf_lang.specs.Store.{Store, IsStore, read}
use Rattle.ecf_removed.specs.Laws.{CallbacksRemoved, EachRepeatsNext}
use Rattle.ecf_removed.specs.LoneRuns.{LoneRuns, lone_runs, RepeatsNext, CallbacksRemovedFrom}
use Rattle.ecf_removed.specs.LoneRuns as lone
use Rattle.ecf_verdicts.specs.Blocks.{block}
use Rattle.ecf_verdicts.specs.ListLemmas.{Each, Each_from_all, All_from_Each}
use Rattle.ecf_verdicts.specs.Placing.{placing}
use Rattle.ecf_verdicts.specs.SerialLaws.{IsAnswer}
use Rattle.ecf_verdicts.specs.Traces.{trace}

-- a list, cut before the number at a place
cut_at : (xs : List ℕ) (k d : ℕ) → k < length xs → xs ≡ take k xs ++ get_or xs k d ∷ drop (suc k) xs
cut_at [] k d inside = absurd (omega arith)
cut_at (x ∷ xs) zero d inside = refl
cut_at (x ∷ xs) (suc k) d inside = ap (λ l. x ∷ l) (cut_at xs k d (omega arith))

-- the invocation of that number is there, and answers when it is run alone on these fields
pub record NextAnswers (typed : Typed) (invocations : List Invocation) (inv : ℕ) (fields : Store) : Type 0 where
  pub one : Invocation
  pub is : slice_get invocations inv ≡ Some one
  pub answers : IsAnswer (alone typed inv one fields).outcome

pub next_answers : EachRepeatsNext → (typed : Typed) (store : Store) (tx : Tx) (object : ℕ) (before : Store) (invocations : List Invocation) (order : List ℕ) → IsStore before →
    IsOfCommitted typed store tx object before invocations order → (k d : ℕ) → k < length order →
    NextAnswers typed invocations (get_or order k d) (lone_runs typed invocations (take k order) before).fields
next_answers each typed store tx object before invocations order is_store from k d inside =
    let all : List Invocation = (run typed store tx).invocations in
    let repeats : RepeatsNext typed store tx (get_or order k d) (lone_runs typed all (take k order) before).fields =
    each typed store tx object before from.opening is_store from.committed from.agree (take k order) (drop (suc k) order) (get_or order k d) (sym from.named_order ∙ cut_at order k d inside) in
    subst (λ l. NextAnswers typed l (get_or order k d) (lone_runs typed l (take k order) before).fields) (sym from.all_invocations)
    (record { one = repeats.one; is = repeats.is; answers = subst IsAnswer (sym (ap (λ (l : Lone). l.outcome) repeats.does.same)) tt })

-- what is found at a place is there
inside_of : {X : Type 0} (xs : List X) (n : ℕ) (x : X) → slice_get xs n ≡ Some x → n < length xs
inside_of [] n x is = absurd (cc)
inside_of (y ∷ xs) zero x is = omega arith
inside_of (y ∷ xs) (suc n) x is =
    let deeper : n < length xs = inside_of xs n x is in
    omega arith

pub next_inside : (typed : Typed) (invocations : List Invocation) (inv : ℕ) (left : Store) → NextAnswers typed invocations inv left → inv < length invocations
next_inside typed invocations inv left next = inside_of invocations inv next.one next.is

-- what was indexed is what is found
pub next_is : (typed : Typed) (invocations : List Invocation) (inv : ℕ) (left : Store) (one : Invocation) → NextAnswers typed invocations inv left → one ≡ get_or invocations inv one → slice_get invocations inv ≡ Some one
next_is typed invocations inv left one next at = slice_get-get_or invocations inv one (next_inside typed invocations inv left next) ∙ ap Some (sym at)

pub next_ends : (typed : Typed) (invocations : List Invocation) (inv : ℕ) (left fields : Store) (one : Invocation) → NextAnswers typed invocations inv left → one ≡ get_or invocations inv one → fields ≡ left → IsAnswer (alone typed inv one fields).outcome
next_ends typed invocations inv left fields one next at same =
    let found : Some next.one ≡ Some one = sym next.is ∙ next_is typed invocations inv left one next at in
    let alike : next.one ≡ one = cc in
    subst (λ f. IsAnswer (alone typed inv one f).outcome) (sym same) (subst (λ (o : Invocation). IsAnswer (alone typed inv o left).outcome) alike next.answers)

-- a run that ends as one of the definition is recorded where that one is
recorded_one : (invocations : List Invocation) (steps : List Step) (meant : ℕ × Lone) (told : AloneRun) → end_of told ≡ end_of_lone meant → lone.IsAsRecorded invocations steps meant → IsAsRecorded invocations steps told
recorded_one invocations steps meant told same r =
    let inv_same : told.inv ≡ meant.0 = ap (λ (e : RunEnd). e.inv) same in
    let outcome_same : Answer told.answer ≡ Answer r.value = ap (λ (e : RunEnd). e.outcome) same ∙ r.outcome in
    let value_same : told.answer ≡ r.value = cc in
    record {
      one = r.one;
      is = ap (slice_get invocations) inv_same ∙ r.is;
      answer = r.answer ∙ ap Some (sym value_same);
      steps_same = ap (λ (e : RunEnd). e.steps) same ∙ r.steps_same ∙ ap (block steps) (sym inv_same);
    }

recorded_all : (invocations : List Invocation) (steps : List Step) (meant : List (ℕ × Lone)) (told : List AloneRun) → map end_of told ≡ map end_of_lone meant → Each (lone.IsAsRecorded invocations steps) meant → Each (IsAsRecorded invocations steps) told
recorded_all invocations steps [] [] same h = tt
recorded_all invocations steps [] (t ∷ told) same h = absurd (cc)
recorded_all invocations steps (m ∷ meant) [] same h = tt
recorded_all invocations steps (m ∷ meant) (t ∷ told) same h =
    let first : end_of t ≡ end_of_lone m = cc in
    let others : map end_of told ≡ map end_of_lone meant = cc in
    (recorded_one invocations steps m t first h.0, recorded_all invocations steps meant told others h.1)

same_numbers : (meant : List (ℕ × Lone)) (told : List AloneRun) → map end_of told ≡ map end_of_lone meant → map (λ (r : AloneRun). r.inv) told ≡ map (λ (r : ℕ × Lone). r.0) meant
same_numbers [] [] same = refl
same_numbers [] (t ∷ told) same = absurd (cc)
same_numbers (m ∷ meant) [] same = absurd (cc)
same_numbers (m ∷ meant) (t ∷ told) same =
    let first : end_of t ≡ end_of_lone m = cc in
    let others : map end_of told ≡ map end_of_lone meant = cc in
    ap (λ i. i ∷ map (λ (r : AloneRun). r.inv) told) (ap (λ (e : RunEnd). e.inv) first) ∙ ap (λ l. m.0 ∷ l) (same_numbers meant told others)

pub do_as_recorded : CallbacksRemoved → (typed : Typed) (store : Store) (tx : Tx) (object : ℕ) (before : Store) (invocations : List Invocation) (order : List ℕ) (told : List AloneRun) (after : Store) → IsStore before →
    AreLoneRuns (lone_runs typed invocations order before) told after → IsOfCommitted typed store tx object before invocations order →
    DoAsRecorded typed store tx object before told after
do_as_recorded removed typed store tx object before invocations order told after is_store ended from =
    let all : List Invocation = (run typed store tx).invocations in
    let named : List ℕ = (placing (trace (run typed store tx).steps object)).order in
    let meant : LoneRuns = lone_runs typed all named before in
    let does : CallbacksRemovedFrom typed store tx object before meant = removed typed store tx object before from.opening is_store from.committed from.agree in
    let same : lone_runs typed invocations order before ≡ meant = ap (λ l. lone_runs typed l order before) from.all_invocations ∙ ap (λ o. lone_runs typed all o before) from.named_order in
    let ends : map end_of told ≡ map end_of_lone meant.runs = ended.ends ∙ ap (λ (l : LoneRuns). map end_of_lone l.runs) same in
    let fields : after ≡ meant.fields = ended.fields ∙ ap (λ (l : LoneRuns). l.fields) same in
    record {
      in_order = same_numbers meant.runs told ends ∙ does.numbers;
      recorded = All_from_Each (IsAsRecorded all (run typed store tx).steps) told (recorded_all all (run typed store tx).steps meant.runs told ends (Each_from_all (lone.IsAsRecorded all (run typed store tx).steps) meant.runs does.recorded));
      inside = λ cell on. ap (λ s. read s cell) fields ∙ does.inside cell on;
      outside = λ cell off. ap (λ s. read s cell) fields ∙ does.outside cell off;
    }
