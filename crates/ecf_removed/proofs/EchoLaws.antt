-- A part of a run and the same part of the run of its invocation alone: what the first added to its invocation, the
-- second adds too, wherever it will read the same, has the same answers to hear, and has as much fuel.
use Rattle.std.proofs.Common.{◌≡◌, ℕ, zero, suc, ◌+◌, ◌<◌, ◌≤◌, true, false, List, [], ◌∷◌, ◌++◌, map, drop, length, Option, Some, None, inl, inr, refl, ap, sym, subst, ◌∙◌, append_assoc, arith}
use Rattle.std.specs.Prelude.{IsSome, slice_get}
use Rattle.std.proofs.lemmas.Bool.{cases_lt}
use Rattle.std.proofs.lemmas.List.{append-nil}
use Rattle.ecf_lang.specs.declared.run.Step.{Step}
use Rattle.ecf_lang.specs.declared.run.Cause.{Cause}
use Rattle.ecf_lang.specs.declared.run.Invocation.{Invocation}
use Rattle.ecf_lang.specs.declared.typed.Typed.{Typed}
use Rattle.ecf_lang.specs.Fits.{method_at}
use Rattle.ecf_lang.specs.Store.{Store}
use Rattle.ecf_lang.specs.Part.{State, Control, Done, Exit, Reverts, RunsOut, Part, after, ◌>>=◌, pure, revert, attempt_of, as_undone}
use Rattle.ecf_lang.specs.Alone.{of_invocation}
use Rattle.ecf_laws.specs.Parts.{end_state}
use Rattle.ecf_laws.specs.Replay.{after_steps, AreSeen}
use Rattle.ecf_verdicts.specs.ListLemmas.{Each}
use Rattle.ecf_verdicts.specs.Blocks.{block}
use Rattle.ecf_removed.specs.LoneRuns.{RepeatsAlone}
use Rattle.ecf_removed.proofs.StateLaws.{get_taken, back_undone, back_long, after_steps-append, seen_first, seen_last}

-- no step is of an invocation that isn't there
abbrev pub Empty : State → Type 0
Empty s = (k : ℕ) → length s.invocations ≤ k → block s.steps k ≡ []

-- the invocation, if any, is there
abbrev pub Within : Option ℕ → State → Type 0
Within None s = Unit {0}
Within (Some i) s = i < length s.invocations

-- what a part in an invocation, or in none, leaves of the others that are there
pub record Keeps (o : Option ℕ) (s t : State) : Type 0 where
  pub longer : length s.invocations ≤ length t.invocations
  pub others : (k : ℕ) → k < length s.invocations → (o ≡ Some k → ⊥) → slice_get t.invocations k ≡ slice_get s.invocations k
  pub blocks : (k : ℕ) → k < length s.invocations → (o ≡ Some k → ⊥) → block t.steps k ≡ block s.steps k
  pub empty : Empty s → Empty t

pub keeps_same : (o : Option ℕ) (s : State) → Keeps o s s
keeps_same o s = record { longer = omega arith; others = λ k h n. refl; blocks = λ k h n. refl; empty = λ h. h }

pub keeps_then : (o : Option ℕ) (s u t : State) → Keeps o s u → Keeps o u t → Keeps o s t
keeps_then o s u t h k = record {
  longer = omega (arith, h.longer, k.longer);
  others = λ n below apart. k.others n (omega (arith, below, h.longer)) apart ∙ h.others n below apart;
  blocks = λ n below apart. k.blocks n (omega (arith, below, h.longer)) apart ∙ h.blocks n below apart;
  empty = λ e. k.empty (h.empty e);
}

-- a part that is in no invocation keeps more
pub keeps_more : (o : Option ℕ) (s t : State) → Keeps None s t → Keeps o s t
keeps_more o s t h = record {
  longer = h.longer;
  others = λ n below apart. h.others n below (λ e. cc);
  blocks = λ n below apart. h.blocks n below (λ e. cc);
  empty = h.empty;
}

pub new_apart : (o : Option ℕ) (s : State) (k : ℕ) → Within o s → length s.invocations ≤ k → o ≡ Some k → ⊥
new_apart None s k within new e = cc
new_apart (Some i) s k within new e = let same : i ≡ k = cc in omega (arith, within, new, same)

module _ (typed : Typed) where
  -- the invocation is of a method that its object has, keeps to its object, and repeats alone what it did wherever its
  -- steps read as recorded
  pub record IsRepeatable (inv : ℕ) (one : Invocation) (steps : List Step) : Type 0 where
    pub has_method : IsSome (method_at typed one.object one.method)
    pub own : Each (λ step. step.cell.object ≡ one.object) steps
    pub does : (fields : Store) → AreSeen fields [] steps → RepeatsAlone typed inv one steps fields

  -- each invocation that came since, and wasn't undone, is repeatable
  abbrev pub AllAreRepeatable : {T : Type 0} → State → Control T → Type 0
  AllAreRepeatable s (Done x t) = (k : ℕ) → length s.invocations ≤ k → (one : Invocation) → slice_get t.invocations k ≡ Some one → one.undone ≡ false → IsRepeatable k one (block t.steps k)
  AllAreRepeatable s (Exit halt t) = Unit {0}

  pub repeatable_then : {S T : Type 0} (o : Option ℕ) (s u : State) (x : S) (r : Control T) → Within o s → AllAreRepeatable s (Done x u) → Keeps o u (end_state r) → AllAreRepeatable u r → AllAreRepeatable s r
  repeatable_then o s u x (Exit halt t) within first keeps last = tt
  repeatable_then o s u x (Done y t) within first keeps last = λ k new one is stands. elim (cases_lt k (length u.invocations)) [
    | inl below ↦
        let apart : (o ≡ Some k → ⊥) = new_apart o s k within new in
        subst (IsRepeatable k one) (sym (keeps.blocks k below apart)) (first k new one (sym (keeps.others k below apart) ∙ is) stands)
    | inr later ↦ last k later one is stands
  ]

  -- where no invocation came since, there is nothing to repeat
  pub nothing_new : {T : Type 0} (s t : State) (x : T) → length t.invocations ≤ length s.invocations → AllAreRepeatable s (Done x t)
  nothing_new s t x short k new one is stands = absurd (absent t.invocations k (omega (arith, short, new)) is)
    where
      absent : (xs : List Invocation) (n : ℕ) → length xs ≤ n → slice_get xs n ≡ Some one → ⊥
      absent [] n h e = cc
      absent (y ∷ ys) zero h e = omega (arith, h)
      absent (y ∷ ys) (suc n) h e = absent ys n (omega (arith, h)) e

  -- what holds of a part that is in no invocation: it leaves those that are there, and what it opens is repeatable
  abbrev pub Anew : Part ℕ → Type 0
  Anew part = (s : State) → Empty s → Keeps None s (end_state (part s)) × AllAreRepeatable s (part s)

  caught_anew : (s : State) (r : Control ℕ) → Empty s → Keeps None s (end_state r) → AllAreRepeatable s r → Keeps None s (end_state (attempt_of (λ _. r) s)) × AllAreRepeatable s (attempt_of (λ _. r) s)
  unfolding attempt_of
  caught_anew s (Done x t) e h k = (h, k)
  caught_anew s (Exit (Reverts cause) t) e h k = (
    record {
      longer = omega (arith, h.longer, back_long (length s.invocations) t.invocations h.longer);
      others = λ n below apart. get_taken (length s.invocations) t.invocations (map as_undone (drop (length s.invocations) t.invocations)) n below h.longer ∙ h.others n below apart;
      blocks = λ n below apart. refl;
      empty = λ _ n new. e n (omega (arith, new, h.longer, back_long (length s.invocations) t.invocations h.longer));
    },
    λ n new one is stands. absurd (let gone : one.undone ≡ true = back_undone (length s.invocations) t.invocations n one new h.longer is in cc),
  )
  caught_anew s (Exit RunsOut t) e h k = (h, tt)

  pub tried_anew : (part : Part ℕ) → Anew part → Anew (attempt_of part)
  unfolding attempt_of
  tried_anew part h s e = let r = h s e in caught_anew s (part s) e r.0 r.1

  -- an invocation with more answers and more charged
  abbrev pub grown : List ℕ → ℕ → Invocation → Invocation
  grown answers charge one = record one { answers = one.answers ++ answers; own_fuel = one.own_fuel + charge }

  -- the run alone has heard these answers
  pub record Heard (l : State) (xs : List ℕ) : Type 0 where
    pub one : Invocation
    pub is : slice_get l.invocations 0 ≡ Some one
    pub are : one.answers ≡ xs

  -- what a part of the run alone added: steps, answers that it heard, a charge
  pub record Follows (l e : State) (steps : List Step) (answers : List ℕ) (charge : ℕ) : Type 0 where
    pub fuel : e.fuel + charge ≡ l.fuel
    pub written : e.written ≡ after_steps l.written steps
    pub steps_more : e.steps ≡ l.steps ++ map (of_invocation 0) steps
    pub hears : (xs : List ℕ) → Heard l xs → Heard e (xs ++ answers)

  map_of-append : (xs ys : List Step) → map (of_invocation 0) (xs ++ ys) ≡ map (of_invocation 0) xs ++ map (of_invocation 0) ys
  map_of-append [] ys = refl
  map_of-append (x ∷ xs) ys = ap (λ l. of_invocation 0 x ∷ l) (map_of-append xs ys)

  pub follows_then : (l e q : State) (xs ys : List Step) (hs bs : List ℕ) (c d : ℕ) → Follows l e xs hs c → Follows e q ys bs d → Follows l q (xs ++ ys) (hs ++ bs) (c + d)
  follows_then l e q xs ys hs bs c d h k = record {
    fuel = omega (arith, h.fuel, k.fuel);
    written = k.written ∙ ap (λ w. after_steps w ys) h.written ∙ sym (after_steps-append l.written xs ys);
    steps_more = k.steps_more ∙ ap (λ m. m ++ map (of_invocation 0) ys) h.steps_more ∙ append_assoc l.steps (map (of_invocation 0) xs) (map (of_invocation 0) ys) ∙ ap (λ m. l.steps ++ m) (sym (map_of-append xs ys));
    hears = λ zs z. subst (Heard q) (append_assoc zs hs bs) (k.hears (zs ++ hs) (h.hears zs z));
  }

  module _ (fields : Store) (recorded : List ℕ) (here i : ℕ) where
    -- what the part added in the run to its invocation: steps on its object, answers, a charge
    pub record Grows (s t : State) (steps : List Step) (answers : List ℕ) (charge : ℕ) : Type 0 where
      pub one_grown : (one : Invocation) → slice_get s.invocations i ≡ Some one → slice_get t.invocations i ≡ Some (grown answers charge one)
      pub steps_more : block t.steps i ≡ block s.steps i ++ steps
      pub own : Each (λ step. step.cell.object ≡ here) steps

    -- the run alone may spend the charge, will read as recorded, and has these answers to hear next
    pub record Ready (l : State) (steps : List Step) (answers : List ℕ) (charge : ℕ) : Type 0 where
      pub fuel : charge ≤ l.fuel
      pub seen : AreSeen fields l.written steps
      pub before : List ℕ
      pub heard_before : Heard l before
      pub later : List ℕ
      pub next : recorded ≡ before ++ (answers ++ later)

    -- where the part gave this value in the run, the part alone gives it wherever the run alone is ready for what was added
    pub record Echoed (s t : State) {T : Type 0} (x : T) (n : Part T) : Type 0 where
      pub steps : List Step
      pub answers : List ℕ
      pub charge : ℕ
      pub grows : Grows s t steps answers charge
      pub lone : (l : State) → Ready l steps answers charge → (e : State) × (n l ≡ Done x e) × Follows l e steps answers charge

    abbrev pub Echo : {T : Type 0} → State → Control T → Part T → Type 0
    Echo s (Done x t) n = Echoed s t x n
    Echo s (Exit halt t) n = Unit {0}

    -- what holds of a part in the invocation: what it leaves, that what it opens is repeatable, and its echo
    pub record Goes (s : State) {T : Type 0} (r : Control T) (n : Part T) : Type 0 where
      pub keeps : Keeps (Some i) s (end_state r)
      pub repeatable : AllAreRepeatable s r
      pub echo : Echo s r n

    abbrev pub Alike : (T : Type 0) → Part T → Part T → Type 0
    Alike T m n = (s : State) → i < length s.invocations → Empty s → Goes s (m s) n

    each_append : (P : Step → Type 0) (xs ys : List Step) → Each P xs → Each P ys → Each P (xs ++ ys)
    each_append P [] ys h k = k
    each_append P (x ∷ xs) ys h k = (h.0, each_append P xs ys h.1 k)

    pub grows_then : (s u t : State) (xs ys : List Step) (hs bs : List ℕ) (c d : ℕ) → Grows s u xs hs c → Grows u t ys bs d → Grows s t (xs ++ ys) (hs ++ bs) (c + d)
    grows_then s u t xs ys hs bs c d h k = record {
      one_grown = λ one is. k.one_grown (grown hs c one) (h.one_grown one is) ∙ (λ j. Some (record one { answers = append_assoc one.answers hs bs j; own_fuel = sums one.own_fuel j }));
      steps_more = k.steps_more ∙ ap (λ m. m ++ ys) h.steps_more ∙ append_assoc (block s.steps i) xs ys;
      own = each_append (λ step. step.cell.object ≡ here) xs ys h.own k.own;
    }
      where
        sums : (n : ℕ) → n + c + d ≡ n + (c + d)
        sums n = omega arith

    pub ready_first : (l : State) (xs ys : List Step) (hs bs : List ℕ) (c d : ℕ) → Ready l (xs ++ ys) (hs ++ bs) (c + d) → Ready l xs hs c
    ready_first l xs ys hs bs c d r = record {
      fuel = omega (arith, r.fuel);
      seen = seen_first fields l.written xs ys r.seen;
      before = r.before;
      heard_before = r.heard_before;
      later = bs ++ r.later;
      next = r.next ∙ ap (λ m. r.before ++ m) (append_assoc hs bs r.later);
    }

    pub ready_last : (l e : State) (xs ys : List Step) (hs bs : List ℕ) (c d : ℕ) → Ready l (xs ++ ys) (hs ++ bs) (c + d) → Follows l e xs hs c → Ready e ys bs d
    ready_last l e xs ys hs bs c d r f = record {
      fuel = omega (arith, r.fuel, f.fuel);
      seen = subst (λ w. AreSeen fields w ys) (sym f.written) (seen_last fields l.written xs ys r.seen);
      before = r.before ++ hs;
      heard_before = f.hears r.before r.heard_before;
      later = r.later;
      next = r.next ∙ ap (λ m. r.before ++ m) (append_assoc hs bs r.later) ∙ sym (append_assoc r.before hs (bs ++ r.later));
    }

    echo_then : {S T : Type 0} (s u : State) (x : S) (r : Control T) (n : Part S) (g : S → Part T) → Echoed s u x n → Echo u r (g x) → Echo s r (n >>= g)
    echo_then s u x (Exit halt t) n g h k = tt
    echo_then s u x (Done y t) n g h k = record {
      steps = h.steps ++ k.steps;
      answers = h.answers ++ k.answers;
      charge = h.charge + k.charge;
      grows = grows_then s u t h.steps k.steps h.answers k.answers h.charge k.charge h.grows k.grows;
      lone = λ l r.
          let first = h.lone l (ready_first l h.steps k.steps h.answers k.answers h.charge k.charge r) in
          let last = k.lone first.0 (ready_last l first.0 h.steps k.steps h.answers k.answers h.charge k.charge r first.2) in
          (last.0, ap (λ q. after q g) first.1 ∙ last.1, follows_then l first.0 last.0 h.steps k.steps h.answers k.answers h.charge k.charge first.2 last.2);
    }

    pub within_later : (s u : State) → Keeps (Some i) s u → i < length s.invocations → i < length u.invocations
    within_later s u h w = omega (arith, h.longer, w)

    pub after_goes : {S T : Type 0} (s : State) (r : Control S) (n : Part S) (f g : S → Part T) → i < length s.invocations → Empty s → Goes s r n → ((x : S) → Alike T (f x) (g x)) → Goes s (after r f) (n >>= g)
    after_goes s (Done x u) n f g w e h k =
        let next : Goes u (f x u) (g x) = k x u (within_later s u h.keeps w) (h.keeps.empty e) in
        record {
          keeps = keeps_then (Some i) s u (end_state (f x u)) h.keeps next.keeps;
          repeatable = repeatable_then (Some i) s u x (f x u) w h.repeatable next.keeps next.repeatable;
          echo = echo_then s u x (f x u) n g h.echo next.echo;
        }
    after_goes s (Exit halt u) n f g w e h k = record { keeps = h.keeps; repeatable = tt; echo = tt }

    -- a part that adds nothing
    grows_none : (s t : State) → slice_get t.invocations i ≡ slice_get s.invocations i → block t.steps i ≡ block s.steps i → Grows s t [] [] 0
    grows_none s t invocations steps = record {
      one_grown = λ one is. invocations ∙ is ∙ (λ j. Some (record one { answers = sym (append-nil one.answers) j; own_fuel = more one.own_fuel j }));
      steps_more = steps ∙ sym (append-nil (block s.steps i));
      own = tt;
    }
      where
        more : (n : ℕ) → n ≡ n + 0
        more n = omega arith

    pub pure_goes : {T : Type 0} (x : T) (s : State) → Goes s (pure x s) (pure x)
    pure_goes x s = record {
      keeps = keeps_same (Some i) s;
      repeatable = nothing_new s s x (omega arith);
      echo = record {
        steps = [];
        answers = [];
        charge = 0;
        grows = grows_none s s refl refl;
        lone = λ l r. (l, refl, record { fuel = omega arith; written = refl; steps_more = sym (append-nil l.steps); hears = λ xs h. subst (Heard l) (sym (append-nil xs)) h });
      };
    }

    pub revert_goes : {T : Type 0} (cause : Cause) (s : State) → Goes s {T = T} (revert cause s) (revert cause)
    revert_goes cause s = record { keeps = keeps_same (Some i) s; repeatable = tt; echo = tt }
