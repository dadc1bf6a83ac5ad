-- Each invocation of a run repeats alone what it did: by induction on the frames that may still be open, each part of
-- the run against the same part of the run alone.
use Rattle.std.proofs.Common.{◌≡◌, ℕ, zero, suc, ◌+◌, ◌-◌, ◌<◌, ◌≤◌, Bool, true, false, cond, ◌==◌, List, [], ◌∷◌, ◌++◌, map, length, Option, Some, None, inl, inr, refl, ap, sym, subst, ◌∙◌, arith}
use Rattle.std.specs.Prelude.{IsSome, if◌then◌else◌, nat_lt, slice_get}
use Rattle.std.proofs.lemmas.Bool.{cases_lt, eqb-true}
use Rattle.std.proofs.lemmas.List.{append-nil, length-append}
use Rattle.ecf_lang.specs.declared.limits.TheConstants.{MAX_FRAMES, MAX_INVOCATIONS}
use Rattle.ecf_lang.specs.declared.run.Cause.TheVariants.{Depth, Calls}
use Rattle.ecf_lang.specs.declared.run.Outcome.TheVariants.{Answer}
use Rattle.ecf_lang.specs.declared.run.Step.{Step}
use Rattle.ecf_lang.specs.declared.run.Invocation.{Invocation}
use Rattle.ecf_lang.specs.declared.typed.Typed.{Typed}
use Rattle.ecf_lang.specs.declared.typed.TypedMethod.{TypedMethod}
use Rattle.ecf_lang.specs.declared.tx.Tx.{Tx}
use Rattle.ecf_lang.specs.declared.tx.TxCall.{TxCall}
use Rattle.ecf_lang.specs.Fits.{method_at}
use Rattle.ecf_lang.specs.Store.{Store, Cells, with_writes}
use Rattle.ecf_lang.specs.Part.{State, Control, Done, Exit, Reverts, RunsOut, Part, after, ◌>>◌, pure, revert, note, with_change, with_answer, attempt_of}
use Rattle.ecf_lang.specs.Meaning.{Ways, opens_of, frame_of, body_of, invoke, checked_call, ways, calls_of, initial_state, result_of, run}
use Rattle.ecf_lang.specs.Alone.{of_invocation, lone_frame, inside, by_itself, lone_of, alone}
use Rattle.ecf_laws.specs.Parts.{end_state}
use Rattle.ecf_laws.specs.Replay.{after_steps, AreSeen}
use Rattle.std.proofs.lemmas.Option.{same_Some}
use Rattle.ecf_verdicts.specs.ListLemmas.{Each, All_from_Each}
use Rattle.ecf_verdicts.specs.Blocks.{block}
use Rattle.ecf_removed.specs.LoneRuns.{RepeatsAlone}
use Rattle.ecf_removed.specs.Laws.{InvocationsHaveMethods, InvocationsRepeatAlone, StepsOnOwnObject}
use Rattle.ecf_removed.proofs.StateLaws.{get_old, get_new, changed_same, changed_other, changed_long}
use Rattle.ecf_removed.proofs.EchoLaws as echo
use Rattle.ecf_laws.specs.FrameLaws as frames
use Rattle.ecf_removed.proofs.LoopLaws as loops
use Rattle.ecf_removed.proofs.PartLaws as parts

-- the steps of an invocation, under another number and back
block_back : (steps : List Step) (inv : ℕ) → map (of_invocation inv) (map (of_invocation 0) (block steps inv)) ≡ block steps inv
block_back [] inv = refl
block_back (step ∷ steps) inv = by (step.inv == inv) refl (block_back steps inv)
  where
    by : (b : Bool) → (step.inv == inv) ≡ b → map (of_invocation inv) (map (of_invocation 0) (block steps inv)) ≡ block steps inv → map (of_invocation inv) (map (of_invocation 0) (cond b (step ∷ block steps inv) (block steps inv))) ≡ cond b (step ∷ block steps inv) (block steps inv)
    by true is h = λ i. (record step { inv = sym (eqb-true step.inv inv is) i }) ∷ h i
    by false is h = h

-- how many more frames may be open under an invocation's first
abbrev deepest : ℕ
deepest = MAX_FRAMES - 1

module _ (typed : Typed) where
  inside_more : (fields : Store) (one : Invocation) (room name : ℕ) (args : List ℕ) → inside typed fields one (suc room) name args ≡ body_of fields (lone_frame typed fields one (inside typed fields one room)) (method_at typed one.object name) args
  unfolding inside
  inside_more fields one room name args = refl

  alone_is : (inv : ℕ) (one : Invocation) (fields : Store) (v : ℕ) (e : State) (written : Cells) (steps : List Step) → by_itself typed fields one (initial_state one.own_fuel) ≡ Done v e → e.written ≡ written → map (of_invocation inv) e.steps ≡ steps →
      alone typed inv one fields ≡ record { outcome = Answer v; steps = steps; writes = written; fields = with_writes fields written }
  unfolding alone
  alone_is inv one fields v e written steps gives is are =
      ap (λ r. lone_of inv (result_of fields one.own_fuel r)) gives ∙ (λ i. record { outcome = Answer v; steps = are i; writes = is i; fields = with_writes fields (is i) })

  module _ (store : Store) where
    -- methods entered while so many more frames may be open, and the same in a run alone that may open no fewer
    pub record WaysGo (room : ℕ) (v : Ways) : Type 0 where
      pub within : (fields : Store) (one : Invocation) (i more : ℕ) → room ≤ more → (name : ℕ) (args : List ℕ) → echo.Alike typed fields one.answers one.object i ℕ (v.within one.object i name args) (inside typed fields one more name args)
      pub anew : (to name : ℕ) (args : List ℕ) → echo.Anew typed (v.anew to name args)

    opens_go : (room : ℕ) (v : Ways) → WaysGo room v → (fields : Store) (one : Invocation) (i more : ℕ) → room ≤ more → frames.OpensAlike (echo.Alike typed fields one.answers one.object i) (opens_of v one.object i) (lone_frame typed fields one (inside typed fields one more)).opens
    opens_go room v h fields one i more enough = record {
      internal = λ name args. h.within fields one i more enough name args;
      external = λ to name args. parts.call_goes typed fields one.answers one.object i (v.anew to name args) (h.anew to name args);
      attempt = λ to name args. parts.call_goes typed fields one.answers one.object i (attempt_of (v.anew to name args)) (echo.tried_anew typed (v.anew to name args) (h.anew to name args));
    }

    body_goes : (room : ℕ) (v : Ways) → WaysGo room v → (fields : Store) (one : Invocation) (i more : ℕ) → room ≤ more → (method : Option TypedMethod) (args : List ℕ) → echo.Alike typed fields one.answers one.object i ℕ (body_of store (frame_of typed store v one.object i) method args) (body_of fields (lone_frame typed fields one (inside typed fields one more)) method args)
    body_goes room v h fields one i more enough method args = frames.body_alike store fields one.object i 0 (echo.Alike typed fields one.answers one.object i) (loops.closed typed fields one.answers one.object i store) (opens_of v one.object i) (lone_frame typed fields one (inside typed fields one more)).opens (opens_go room v h fields one i more enough) method args

    -- an invocation as it is opened
    abbrev opened : ℕ → ℕ → List ℕ → Invocation
    opened to name args = record { object = to; method = name; args = args; answer = None; answers = []; own_fuel = 0; undone = false }

    abbrev with_opened : State → Invocation → State
    with_opened s one = record s { invocations = s.invocations ++ one ∷ [] }

    keeps_opened : (s : State) (one : Invocation) → echo.Keeps None s (with_opened s one)
    keeps_opened s one = record {
      longer = omega (arith, length-append s.invocations (one ∷ []));
      others = λ k below apart. get_old s.invocations (one ∷ []) k below;
      blocks = λ k below apart. refl;
      empty = λ h k new. h k (omega (arith, new, length-append s.invocations (one ∷ [])));
    }

    opened_long : (s : State) (one : Invocation) → length (with_opened s one).invocations ≡ suc (length s.invocations)
    opened_long s one = omega (arith, length-append s.invocations (one ∷ []))

    -- what another part in that invocation keeps of those that were there before it
    keeps_outside : (s u : State) (one : Invocation) → echo.Keeps (Some (length s.invocations)) (with_opened s one) u → echo.Keeps None s u
    keeps_outside s u one h = record {
      longer = omega (arith, h.longer, opened_long s one);
      others = λ k below apart. h.others k (omega (arith, below, opened_long s one)) (not_new k below) ∙ get_old s.invocations (one ∷ []) k below;
      blocks = λ k below apart. h.blocks k (omega (arith, below, opened_long s one)) (not_new k below);
      empty = λ e. h.empty ((keeps_opened s one).empty e);
    }
      where
        not_new : (k : ℕ) → k < length s.invocations → Some (length s.invocations) ≡ Some k → ⊥
        not_new k below e = omega (arith, below, same_Some _ _ e)

    keeps_answered : (s u : State) (v : ℕ) → echo.Keeps None s u → echo.Keeps None s (record u { invocations = with_change (with_answer v) u.invocations (length s.invocations) })
    keeps_answered s u v h = record {
      longer = omega (arith, h.longer, changed_long (with_answer v) u.invocations (length s.invocations));
      others = λ k below apart. changed_other (with_answer v) u.invocations (length s.invocations) k (λ e. omega (arith, below, e)) ∙ h.others k below apart;
      blocks = λ k below apart. h.blocks k below apart;
      empty = λ e k new. h.empty e k (omega (arith, new, changed_long (with_answer v) u.invocations (length s.invocations)));
    }

    -- an invocation that answered is repeatable
    module _ (room : ℕ) (v : Ways) (h : WaysGo room v) (few : room < MAX_FRAMES) (to name : ℕ) (args : List ℕ) (method : TypedMethod) (there : method_at typed to name ≡ Some method) (s : State) (empty : echo.Empty s) where
      abbrev inv : ℕ
      inv = length s.invocations

      abbrev start : State
      start = with_opened s (opened to name args)

      abbrev body : Control ℕ
      body = body_of store (frame_of typed store v to inv) (Some method) args start

      abbrev recorded : ℕ → List ℕ → ℕ → Invocation
      recorded x answers charge = record { object = to; method = name; args = args; answer = Some x; answers = answers; own_fuel = charge; undone = false }

      goes : (fields : Store) (x : ℕ) (answers : List ℕ) (charge : ℕ) → echo.Goes typed fields answers to inv start body (body_of fields (lone_frame typed fields (recorded x answers charge) (inside typed fields (recorded x answers charge) deepest)) (Some method) args)
      goes fields x answers charge = body_goes room v h fields (recorded x answers charge) inv deepest (omega (arith, few)) (Some method) args start (omega (arith, opened_long s (opened to name args))) ((keeps_opened s (opened to name args)).empty empty)

      module _ (x : ℕ) (u : State) (is : body ≡ Done x u) where
        -- what the body added, as some run alone says it
        added : (fields : Store) (answers : List ℕ) (charge : ℕ) → echo.Echoed typed fields answers to inv start u x (body_of fields (lone_frame typed fields (recorded x answers charge) (inside typed fields (recorded x answers charge) deepest)) (Some method) args)
        added fields answers charge = subst (λ r. echo.Echo typed fields answers to inv start r (body_of fields (lone_frame typed fields (recorded x answers charge) (inside typed fields (recorded x answers charge) deepest)) (Some method) args)) is (goes fields x answers charge).echo

        abbrev first : echo.Echoed typed store [] to inv start u x (body_of store (lone_frame typed store (recorded x [] 0) (inside typed store (recorded x [] 0) deepest)) (Some method) args)
        first = added store [] 0

        abbrev one : Invocation
        one = recorded x first.answers first.charge

        none_before : block start.steps inv ≡ []
        none_before = empty inv (omega arith)

        -- each run alone says the same of what was added
        same_steps : (fields : Store) (answers : List ℕ) (charge : ℕ) → (added fields answers charge).steps ≡ block u.steps inv
        same_steps fields answers charge = sym ((added fields answers charge).grows.steps_more ∙ ap (λ l. l ++ (added fields answers charge).steps) none_before)

        same_one : (fields : Store) (answers : List ℕ) (charge : ℕ) → echo.grown typed (added fields answers charge).answers (added fields answers charge).charge (opened to name args) ≡ echo.grown typed first.answers first.charge (opened to name args)
        same_one fields answers charge =
            let new : slice_get start.invocations inv ≡ Some (opened to name args) = get_new s.invocations (opened to name args) in
            same_Some _ _ (sym ((added fields answers charge).grows.one_grown (opened to name args) new) ∙ first.grows.one_grown (opened to name args) new)

        abbrev lone : Store → Part ℕ
        lone fields = body_of fields (lone_frame typed fields one (inside typed fields one deepest)) (Some method) args

        -- the run alone as its body begins
        abbrev lone_start : State
        lone_start = with_opened (initial_state one.own_fuel) (opened to name args)

        whole_lone : (fields : Store) → by_itself typed fields one (initial_state one.own_fuel) ≡ lone fields lone_start
        whole_lone fields = ap (λ (m : Part ℕ). m lone_start) (inside_more fields one deepest name args ∙ ap (λ o. body_of fields (lone_frame typed fields one (inside typed fields one deepest)) o args) there)

        ready : (fields : Store) → AreSeen fields [] (block u.steps inv) → echo.Ready typed fields first.answers to inv lone_start (added fields first.answers first.charge).steps (added fields first.answers first.charge).answers (added fields first.answers first.charge).charge
        ready fields seen =
            let same = same_one fields first.answers first.charge in
            let charges : 0 + (added fields first.answers first.charge).charge ≡ 0 + first.charge = ap (λ (o : Invocation). o.own_fuel) same in
            record {
              fuel = omega (arith, charges);
              seen = subst (AreSeen fields []) (sym (same_steps fields first.answers first.charge)) seen;
              before = [];
              heard_before = record { one = opened to name args; is = refl; are = refl };
              later = [];
              next = sym (ap (λ (o : Invocation). o.answers) same) ∙ sym (append-nil (added fields first.answers first.charge).answers);
            }

        does : (fields : Store) → AreSeen fields [] (block u.steps inv) → RepeatsAlone typed inv one (block u.steps inv) fields
        does fields seen =
            let h = added fields first.answers first.charge in
            let end = h.lone lone_start (ready fields seen) in
            let steps : h.steps ≡ block u.steps inv = same_steps fields first.answers first.charge in
            record {
              value = x;
              answer = refl;
              same = alone_is inv one fields x end.0 (after_steps [] (block u.steps inv)) (block u.steps inv)
                  (whole_lone fields ∙ end.1)
                  (end.2.written ∙ ap (after_steps []) steps)
                  (ap (map (of_invocation inv)) (end.2.steps_more ∙ ap (map (of_invocation 0)) steps) ∙ block_back u.steps inv);
            }

        one_is_repeatable : echo.IsRepeatable typed inv one (block u.steps inv)
        one_is_repeatable = record { has_method = subst IsSome (sym there) refl; own = subst (Each (λ step. step.cell.object ≡ to)) (same_steps store [] 0) first.grows.own; does = does }

        -- the invocation as it stands at its end
        at_end : slice_get (with_change (with_answer x) u.invocations inv) inv ≡ Some one
        at_end = changed_same (with_answer x) u.invocations inv (echo.grown typed first.answers first.charge (opened to name args)) (first.grows.one_grown (opened to name args) (get_new s.invocations (opened to name args))) ∙ (λ j. Some (record { object = to; method = name; args = args; answer = Some x; answers = first.answers; own_fuel = none first.charge j; undone = false }))
          where
            none : (n : ℕ) → 0 + n ≡ n
            none n = omega arith

      answer : ℕ → Part ℕ
      answer x = note (with_answer x) inv >> pure x

      -- what is kept and repeatable once the answer is noted, from where the body led
      opened_goes : (r : Control ℕ) → body ≡ r → echo.Keeps None s (end_state (after r (λ x. note (with_answer x) inv >> pure x))) × echo.AllAreRepeatable typed s (after r (λ x. note (with_answer x) inv >> pure x))
      opened_goes (Exit halt u) is = (keeps_outside s u (opened to name args) (subst (λ r. echo.Keeps (Some inv) start (end_state r)) is (goes store 0 [] 0).keeps), tt)
      opened_goes (Done x u) is =
          let kept : echo.Keeps (Some inv) start u = subst (λ r. echo.Keeps (Some inv) start (end_state r)) is (goes store 0 [] 0).keeps in
          let later : echo.AllAreRepeatable typed start (Done x u) = subst (echo.AllAreRepeatable typed start) is (goes store 0 [] 0).repeatable in (
            keeps_answered s u x (keeps_outside s u (opened to name args) kept),
            λ k new other at stands. elim (cases_lt inv k) [
              | inl above ↦ later k (omega (arith, above, opened_long s (opened to name args))) other (sym (changed_other (with_answer x) u.invocations inv k (λ e. omega (arith, above, e))) ∙ at) stands
              | inr least ↦
                  let same : k ≡ inv = omega (arith, new, least) in
                  let this : one x u is ≡ other = same_Some _ _ (sym (at_end x u is) ∙ ap (λ n. slice_get (with_change (with_answer x) u.invocations inv) n) (sym same) ∙ at) in
                  subst (λ n. echo.IsRepeatable typed n other (block u.steps n)) (sym same) (subst (λ o. echo.IsRepeatable typed inv o (block u.steps inv)) this (one_is_repeatable x u is))
            ],
          )

    invoke_anew : (room : ℕ) (v : Ways) → WaysGo room v → room < MAX_FRAMES → (to name : ℕ) (args : List ℕ) (method : Option TypedMethod) → method_at typed to name ≡ method → echo.Anew typed (invoke typed store v to method name args)
    invoke_anew room v h few to name args None there = λ s e. (echo.keeps_same None s, tt)
    invoke_anew room v h few to name args (Some method) there = λ s e. opened_goes room v h few to name args method there s e (body room v h few to name args method there s e) refl

    tested_anew : (room : ℕ) (v : Ways) → WaysGo room v → room < MAX_FRAMES → (to name : ℕ) (args : List ℕ) → echo.Anew typed (checked_call typed store v to name args)
    tested_anew room v h few to name args s e = by (nat_lt (length s.invocations) MAX_INVOCATIONS) (invoke_anew room v h few to name args (method_at typed to name) refl s e)
      where
        Goes : Control ℕ → Type 0
        Goes r = echo.Keeps None s (end_state r) × echo.AllAreRepeatable typed s r

        by : (b : Bool) → Goes (invoke typed store v to (method_at typed to name) name args s) → Goes ((if b then invoke typed store v to (method_at typed to name) name args else revert Calls) s)
        by true i = i
        by false i = (echo.keeps_same None s, tt)

    deeper_within : (room : ℕ) (v : Ways) → WaysGo room v → (fields : Store) (one : Invocation) (i more : ℕ) → suc room ≤ more → (name : ℕ) (args : List ℕ) → echo.Alike typed fields one.answers one.object i ℕ (body_of store (frame_of typed store v one.object i) (method_at typed one.object name) args) (inside typed fields one more name args)
    deeper_within room v h fields one i zero enough name args = absurd (omega (arith, enough))
    deeper_within room v h fields one i (suc more) enough name args = subst (echo.Alike typed fields one.answers one.object i ℕ (body_of store (frame_of typed store v one.object i) (method_at typed one.object name) args)) (sym (inside_more fields one more name args)) (body_goes room v h fields one i more (omega (arith, enough)) (method_at typed one.object name) args)

    ways_go : (room : ℕ) → room ≤ MAX_FRAMES → WaysGo room (ways typed store room)
    unfolding ways
    ways_go zero few = record { within = λ fields one i more enough name args s w e. halted fields one i more name args s; anew = λ to name args s e. (echo.keeps_same None s, tt) }
      where
        halted : (fields : Store) (one : Invocation) (i more name : ℕ) (args : List ℕ) (s : State) → echo.Goes typed fields one.answers one.object i s (Exit (Reverts Depth) s) (inside typed fields one more name args)
        halted fields one i more name args s = record { keeps = echo.keeps_same (Some i) s; repeatable = tt; echo = tt }
    ways_go (suc room) few =
        let h : WaysGo room (ways typed store room) = ways_go room (omega (arith, few)) in
        record {
          within = λ fields one i more enough name args. deeper_within room (ways typed store room) h fields one i more enough name args;
          anew = λ to name args. tested_anew room (ways typed store room) h (omega (arith, few)) to name args;
        }

    anew_then : (m n : Part ℕ) → echo.Anew typed m → echo.Anew typed n → echo.Anew typed (m >> n)
    anew_then m n h k s e = by (m s) (h s e).0 (h s e).1
      where
        by : (r : Control ℕ) → echo.Keeps None s (end_state r) → echo.AllAreRepeatable typed s r → echo.Keeps None s (end_state (after r (λ _. n))) × echo.AllAreRepeatable typed s (after r (λ _. n))
        by (Exit halt u) keeps repeatable = (keeps, tt)
        by (Done x u) keeps repeatable =
            let next = k u (keeps.empty e) in
            (echo.keeps_then None s u (end_state (n u)) keeps next.0, echo.repeatable_then typed None s u x (n u) tt repeatable next.0 next.1)

    calls_go : (calls : List TxCall) → echo.Anew typed (calls_of typed store calls)
    calls_go [] = λ s e. (echo.keeps_same None s, echo.nothing_new typed {T = ℕ} s s 0 (omega arith))
    calls_go (call ∷ []) = (ways_go MAX_FRAMES (omega arith)).anew call.object call.method call.args
    calls_go (call ∷ next ∷ calls) = anew_then ((ways typed store MAX_FRAMES).anew call.object call.method call.args) (calls_of typed store (next ∷ calls)) ((ways_go MAX_FRAMES (omega arith)).anew call.object call.method call.args) (calls_go (next ∷ calls))

    result_is_repeatable : (limit : ℕ) (r : Control ℕ) (value : ℕ) → echo.AllAreRepeatable typed (initial_state limit) r → (result_of store limit r).outcome ≡ Answer value → (k : ℕ) (one : Invocation) → slice_get (result_of store limit r).invocations k ≡ Some one → one.undone ≡ false → echo.IsRepeatable typed k one (block (result_of store limit r).steps k)
    result_is_repeatable limit (Done x t) value h is k one at stands = h k (omega arith) one at stands
    result_is_repeatable limit (Exit (Reverts cause) t) value h is k one at stands = absurd (cc)
    result_is_repeatable limit (Exit RunsOut t) value h is k one at stands = absurd (cc)

    -- each invocation of a run that answered, but for those undone, is repeatable
    pub each_is_repeatable : (tx : Tx) (value : ℕ) → (run typed store tx).outcome ≡ Answer value → (k : ℕ) (one : Invocation) → slice_get (run typed store tx).invocations k ≡ Some one → one.undone ≡ false → echo.IsRepeatable typed k one (block (run typed store tx).steps k)
    unfolding run
    each_is_repeatable tx value is k one at stands = result_is_repeatable tx.fuel (calls_of typed store tx.calls (initial_state tx.fuel)) value (calls_go tx.calls (initial_state tx.fuel) (λ k new. refl)).1 is k one at stands

pub invocations_repeat_alone : InvocationsRepeatAlone
invocations_repeat_alone typed store tx value is inv one at stands fields seen = (each_is_repeatable typed store tx value is inv one at stands).does fields seen

pub invocations_have_methods : InvocationsHaveMethods
invocations_have_methods typed store tx value is inv one at stands = (each_is_repeatable typed store tx value is inv one at stands).has_method

pub steps_on_own_object : StepsOnOwnObject
steps_on_own_object typed store tx value is inv one at stands = All_from_Each (λ (step : Step). step.cell.object ≡ one.object) (block (run typed store tx).steps inv) (each_is_repeatable typed store tx value is inv one at stands).own
