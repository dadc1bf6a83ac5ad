-- What the reading of a source came to.
use Rattle.std.proofs.Common.{◌≡◌, ℕ, Bool, true, false, List, [], ◌∷◌, ◌++◌, take, Option, Some, None, refl, sym, ap, subst, ◌∙◌, append_assoc, append-nil, ◌+◌}
use Rattle.std.specs.Prelude.{All, IfSome, IfOk, OnErr, Result, Ok, Err}
use Rattle.ecf_edge.specs.Count.{counted_up}
use Rattle.ecf_edge.specs.Source.{Gave, GaveSome, IsAtEnd, prepended}
use Rattle.ecf_edge.specs.Chains.{Gave-append, prepended-nil}
use Rattle.ecf_events.specs.Laws.{EventsHaveActors, HasActor}
use Rattle.ecf_events.specs.Stream.{ScheduleSaid, schedule_said}
use Rattle.ecf_lang.specs.declared.receipt.Stop.{Stop}
use Rattle.ecf_lang.specs.declared.receipt.StopCause.{StopCause}
use Rattle.ecf_lang.specs.declared.receipt.StopCause.TheVariants.{Form, Object, Method, Fuel, Arity, Arg, Long, Many, Bytes, Read}
use Rattle.ecf_stream.specs.declared.stream_reader.Reach.{Reach}
use Rattle.ecf_stream.specs.declared.stream_reader.Reach.TheVariants as reach
use Rattle.ecf_stream.specs.LineState.{opened}
use Rattle.ecf_stream.specs.StreamState.{MayFollow, faults_at, left_at, reach_by}
use Rattle.ecf_schedule.specs.Reading.{EventState, HasEnded, HasStopped, Stops, said_up_to, to_say}
use Rattle.ecf_schedule.specs.Said.{AreSaid, AreSaidBy, ReadsSchedule, has_failed, is_ended, is_read, reach_of, said_by}
use Rattle.ecf_schedule.proofs.PieceLaws.{HasRead}
use Rattle.ecf_schedule.proofs.ReachLaws.{reach_end, reach_open}
use Rattle.ecf_schedule.proofs.StepLaws.{has_stopped}

-- all that was read says this, where nothing or a failed read follows
says_all : (left left' : Option (List ℕ)) (s : EventState) (failed : Bool) (said : ScheduleSaid) → (h : HasRead left left' s) → to_say s [] failed ≡ said → schedule_said h.piece failed ≡ said
says_all left left' s failed said h e = sym (ap (λ bytes. schedule_said bytes failed) (append-nil h.piece)) ∙ h.says [] failed ∙ e

-- nothing was read
pub none_gave : (left left' : Option (List ℕ)) (count : ℕ) (buffer : List ℕ) → count ≡ 0 → Gave left (take count buffer) left' → left' ≡ left
none_gave left left' count buffer e gave = sym (gave ∙ ap (λ n. prepended (take n buffer) left') e ∙ none buffer ∙ prepended-nil left') where
  none : (buffer : List ℕ) → prepended (take 0 buffer) left' ≡ prepended [] left'
  none [] = refl
  none (byte ∷ more) = refl

pub on_ok : {A E : Type 0} (r : Result A E) (P Q : A → Type 0) → ((x : A) → P x → Q x) → IfOk r P → IfOk r Q
on_ok (Ok x) P Q h p = h x p
on_ok (Err e) P Q h p = p

pub on_err : {A E : Type 0} (r : Result A E) (P : Type 0) → P → OnErr r P
on_err (Ok x) P p = tt
on_err (Err e) P p = p

-- what was read before and what came then
pub both_gave : (left left' left'' : Option (List ℕ)) (s : EventState) (piece : List ℕ) → HasRead left left' s → Gave left' piece left'' → GaveSome left left''
both_gave left left' left'' s piece h gave = (h.piece ++ piece, Gave-append left left' left'' h.piece piece h.gave gave)

-- the source came to its end
pub read_to_end : (left left' left'' : Option (List ℕ)) (faults faults' : ℕ) (s new : EventState) (stop : Option Stop) → HasRead left left' s → left'' ≡ left' → IsAtEnd left'' → faults' ≡ faults → HasEnded stop s new → ReadsSchedule left left'' faults faults' (said_by new.events stop)
read_to_end left left' left'' faults faults' s new stop h same end count ended =
    let whole = says_all left left' s false (said_by new.events stop) h ended in
    let failed = says_all left left' s true _ h (has_stopped s h.reading) in
    let far = reach_end h.piece stop ((opened s.lines).lines + 1) (ap (λ (t : ScheduleSaid). t.stop) whole) (ap (λ (t : ScheduleSaid). t.stop) failed) in
    record {
      piece = h.piece;
      gave = subst (Gave left h.piece) (sym same) h.gave;
      end = subst (λ r. left_at r left'') (sym far) end;
      counted = count ∙ sym (ap (λ r. faults_at r faults) far);
      says = λ more failed follows. only h.piece more failed (said_by new.events stop) (subst (λ r. MayFollow r more failed) far follows) whole;
    } where
      only : (piece more : List ℕ) (failed : Bool) (said : ScheduleSaid) → MayFollow reach.AtEnd more failed → schedule_said piece false ≡ said → schedule_said (piece ++ more) failed ≡ said
      only piece more failed said follows e = ap (λ m. schedule_said (piece ++ m) failed) follows.0 ∙ ap (λ b. schedule_said (piece ++ []) b) follows.1 ∙ ap (λ bytes. schedule_said bytes false) (append-nil piece) ∙ e

-- a read failed
pub read_to_fault : (left left' left'' : Option (List ℕ)) (faults faults' : ℕ) (s new : EventState) (stop : Stop) → HasRead left left' s → left'' ≡ left' → faults' ≡ counted_up faults → HasStopped stop s new → ReadsSchedule left left'' faults faults' (said_by new.events (Some stop))
read_to_fault left left' left'' faults faults' s new stop h same count stopped =
    let failed = says_all left left' s true (said_up_to new stop) h stopped.1 in
    let far : reach_of h.piece (Some stop) ≡ reach.Failed = ap (λ c. reach_by c (is_ended h.piece stop.line)) stopped.0 in
    record {
      piece = h.piece;
      gave = subst (Gave left h.piece) (sym same) h.gave;
      end = subst (λ r. left_at r left'') (sym far) tt;
      counted = count ∙ sym (ap (λ r. faults_at r faults) far);
      says = λ more failed_ follows. only h.piece more failed_ (said_by new.events (Some stop)) (subst (λ r. MayFollow r more failed_) far follows) failed;
    } where
      only : (piece more : List ℕ) (failed : Bool) (said : ScheduleSaid) → MayFollow reach.Failed more failed → schedule_said piece true ≡ said → schedule_said (piece ++ more) failed ≡ said
      only piece more failed said follows e = ap (λ m. schedule_said (piece ++ m) failed) follows.0 ∙ ap (λ b. schedule_said (piece ++ []) b) follows.1 ∙ ap (λ bytes. schedule_said bytes true) (append-nil piece) ∙ e

-- a line stopped the reading
pub read_to_stop : (left left' left'' : Option (List ℕ)) (faults faults' : ℕ) (s new : EventState) (piece : List ℕ) (stop : Stop) → HasRead left left' s → Gave left' piece left'' → faults' ≡ faults → Stops stop s new piece → ReadsSchedule left left'' faults faults' (said_by new.events (Some stop))
read_to_stop left left' left'' faults faults' s new piece stop h gave count stops =
    let all = h.piece ++ piece in
    let says : (more : List ℕ) (failed : Bool) → schedule_said (all ++ more) failed ≡ said_by new.events (Some stop) =
    λ more failed. ap (λ bytes. schedule_said bytes failed) (append_assoc h.piece piece more) ∙ h.says (piece ++ more) failed ∙ stops more failed in
    let alone : (failed : Bool) → schedule_said all failed ≡ said_by new.events (Some stop) = λ failed. sym (ap (λ bytes. schedule_said bytes failed) (append-nil all)) ∙ says [] failed in
    let far = reach_open all stop (ap (λ (t : ScheduleSaid). t.stop) (alone false)) (ap (λ (t : ScheduleSaid). t.stop) (alone true)) in
    record {
      piece = all;
      gave = Gave-append left left' left'' h.piece piece h.gave gave;
      end = subst (λ r. left_at r left'') (sym far) tt;
      counted = count ∙ sym (ap (λ r. faults_at r faults) far);
      says = λ more failed follows. says more failed;
    }

-- ---- what follows of it

read_is : (cause : StopCause) (b : Bool) → is_read cause ≡ true → reach_by cause b ≡ reach.Failed
read_is Read b e = refl
read_is Form b e = let no : ⊥ = cc in absurd no
read_is Object b e = let no : ⊥ = cc in absurd no
read_is Method b e = let no : ⊥ = cc in absurd no
read_is Fuel b e = let no : ⊥ = cc in absurd no
read_is Arity b e = let no : ⊥ = cc in absurd no
read_is Arg b e = let no : ⊥ = cc in absurd no
read_is Long b e = let no : ⊥ = cc in absurd no
read_is Many b e = let no : ⊥ = cc in absurd no
read_is Bytes b e = let no : ⊥ = cc in absurd no

failed_reach : (piece : List ℕ) (stop : Option Stop) → has_failed stop ≡ true → reach_of piece stop ≡ reach.Failed
failed_reach piece None e = let no : ⊥ = cc in absurd no
failed_reach piece (Some stop) e = read_is stop.cause _ e

-- what is left may follow where no read failed
cause_follows : (cause : StopCause) (b : Bool) (rest : List ℕ) → is_read cause ≡ false → left_at (reach_by cause b) (Some rest) → MayFollow (reach_by cause b) rest false
cause_follows Read b rest e h = let no : ⊥ = cc in absurd no
cause_follows Long b rest e h = tt
cause_follows Bytes b rest e h = tt
cause_follows Form true rest e h = tt
cause_follows Form false rest e h = (h, refl)
cause_follows Object true rest e h = tt
cause_follows Object false rest e h = (h, refl)
cause_follows Method true rest e h = tt
cause_follows Method false rest e h = (h, refl)
cause_follows Fuel true rest e h = tt
cause_follows Fuel false rest e h = (h, refl)
cause_follows Arity true rest e h = tt
cause_follows Arity false rest e h = (h, refl)
cause_follows Arg true rest e h = tt
cause_follows Arg false rest e h = (h, refl)
cause_follows Many true rest e h = tt
cause_follows Many false rest e h = (h, refl)

rest_follows : (piece : List ℕ) (stop : Option Stop) (rest : List ℕ) → has_failed stop ≡ false → left_at (reach_of piece stop) (Some rest) → MayFollow (reach_of piece stop) rest false
rest_follows piece None rest e h = (h, refl)
rest_follows piece (Some stop) rest e h = cause_follows stop.cause _ rest e h

pub are_said : (left left' : Option (List ℕ)) (faults faults' : ℕ) (said : ScheduleSaid) → ReadsSchedule left left' faults faults' said → AreSaid left left' said
are_said left left' faults faults' said r = by (has_failed said.stop) refl where
  told : (left' : Option (List ℕ)) → left_at (reach_of r.piece said.stop) left' → Gave left r.piece left' → has_failed said.stop ≡ false → IfSome left (λ bytes. schedule_said bytes false ≡ said)
  told None end gave e = subst (λ o. IfSome o (λ bytes. schedule_said bytes false ≡ said)) (sym gave) tt
  told (Some rest) end gave e = subst (λ o. IfSome o (λ bytes. schedule_said bytes false ≡ said)) (sym gave) (r.says rest false (rest_follows r.piece said.stop rest e end))

  by : (b : Bool) → has_failed said.stop ≡ b → AreSaidBy b left left' said
  by true e =
      (r.piece, r.gave, sym (ap (λ bytes. schedule_said bytes true) (append-nil r.piece)) ∙ r.says [] true (subst (λ far. MayFollow far [] true) (sym (failed_reach r.piece said.stop e)) (refl, refl)))
  by false e = told left' r.end r.gave e

-- at any reach something may follow
some_follow : (far : Reach) → (failed : Bool) × MayFollow far [] failed
some_follow reach.Open = (false, tt)
some_follow reach.AtEnd = (false, (refl, refl))
some_follow reach.Failed = (true, (refl, refl))

pub have_actors : EventsHaveActors → (left left' : Option (List ℕ)) (faults faults' : ℕ) (said : ScheduleSaid) → ReadsSchedule left left' faults faults' said → All HasActor said.events
have_actors all left left' faults faults' said r =
    let f = some_follow (reach_of r.piece said.stop) in
    subst (λ (s : ScheduleSaid). All HasActor s.events) (r.says [] f.0 f.1) (all (r.piece ++ []) f.0)
