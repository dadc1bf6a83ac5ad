-- The invocations of a run: which of them stand, and the fuel that was charged in them.
use Rattle.std.proofs.Common.{◌≡◌, ℕ, zero, suc, ◌+◌, ◌-◌, ◌≤◌, Bool, true, false, List, [], ◌∷◌, ◌++◌, map, take, drop, length, Option, Some, None, refl, ap, sym, subst, ◌∙◌, append_assoc, arith}
use Rattle.std.specs.Prelude.{All, if◌then◌else◌, nat_le, slice_get, slice_set}
use Rattle.std.specs.Option.{option_map_or}
use Rattle.std.proofs.lemmas.Bool.Decides.{nat_tests}
use Rattle.std.proofs.lemmas.List.{append-nil}
use Rattle.std.proofs.lemmas.List.Elements.{All-push, All-weaker}
use Rattle.std.proofs.lemmas.List.Sums.{sum_by-cons, sum_by-append, sum_by_push, sum_by-take-drop}
use Rattle.ecf_lang.specs.declared.cell.Cell.{Cell}
use Rattle.ecf_lang.specs.declared.costs.TheConstants.{READ, WRITE}
use Rattle.ecf_lang.specs.declared.run.Step.{Step}
use Rattle.ecf_lang.specs.declared.run.Invocation.{Invocation}
use Rattle.ecf_lang.specs.Store.{Store}
use Rattle.ecf_lang.specs.Part.{State, Control, Done, Exit, Reverts, RunsOut, Part, after, ◌>>=◌, pure, pay, read_cell, write_cell, attempt_of, begin, note, with_change, with_charge, with_heard, with_answer, as_undone}
use Rattle.ecf_laws.specs.Parts.{end_state}
use Rattle.std.proofs.lemmas.Option.{same_Some}
use Rattle.ecf_laws.specs.Laws.{total_charge}
use Rattle.ecf_laws.proofs.PartLaws as parts

-- which of the invocations were undone
abbrev pub marks : List Invocation → List Bool
marks invocations = map (λ one. one.undone) invocations

map_append : (xs ys : List Invocation) → marks (xs ++ ys) ≡ marks xs ++ marks ys
map_append [] ys = refl
map_append (x ∷ xs) ys = ap (λ l. x.undone ∷ l) (map_append xs ys)

pub get_marked : (xs : List Invocation) (n : ℕ) (b : Bool) → slice_get (marks xs) n ≡ Some b → (x : Invocation) × ((slice_get xs n ≡ Some x) × (x.undone ≡ b))
get_marked [] n b h = absurd (cc)
get_marked (x ∷ xs) zero b h = (x, (refl, same_Some _ _ h))
get_marked (x ∷ xs) (suc n) b h = get_marked xs n b h

get_more : (xs ys : List Bool) (n : ℕ) (b : Bool) → slice_get xs n ≡ Some b → slice_get (xs ++ ys) n ≡ Some b
get_more [] ys n b h = absurd (cc)
get_more (x ∷ xs) ys zero b h = h
get_more (x ∷ xs) ys (suc n) b h = get_more xs ys n b h

get_new : (xs : List Invocation) (new : Invocation) → slice_get (marks (xs ++ new ∷ [])) (length xs) ≡ Some new.undone
get_new [] new = refl
get_new (x ∷ xs) new = get_new xs new

set_marks : (xs : List Invocation) (n : ℕ) (x y : Invocation) → slice_get xs n ≡ Some x → y.undone ≡ x.undone → marks (slice_set xs n y) ≡ marks xs
set_marks [] n x y h e = absurd (cc)
set_marks (z ∷ xs) zero x y h e = ap (λ b. b ∷ marks xs) (e ∙ ap (λ (i : Invocation). i.undone) (sym (same_Some _ _ h)))
set_marks (z ∷ xs) (suc n) x y h e = ap (λ l. z.undone ∷ l) (set_marks xs n x y h e)

set_charged : (xs : List Invocation) (n k : ℕ) (x y : Invocation) → slice_get xs n ≡ Some x → y.own_fuel ≡ x.own_fuel + k → total_charge (slice_set xs n y) ≡ total_charge xs + k
set_charged [] n k x y h e = absurd (cc)
set_charged (z ∷ xs) zero k x y h e =
    let same : z.own_fuel ≡ x.own_fuel = ap (λ (i : Invocation). i.own_fuel) (same_Some _ _ h) in
    omega (arith, sum_by-cons (λ (i : Invocation). i.own_fuel) y xs, sum_by-cons (λ (i : Invocation). i.own_fuel) z xs)
set_charged (z ∷ xs) (suc n) k x y h e =
    omega (arith, set_charged xs n k x y h e, sum_by-cons (λ (i : Invocation). i.own_fuel) z (slice_set xs n y), sum_by-cons (λ (i : Invocation). i.own_fuel) z xs)

-- invocations of which one was changed, but not its mark
pub record Keeps (k : ℕ) (old new : List Invocation) : Type 0 where
  pub marks_same : marks new ≡ marks old
  pub charges : total_charge new ≡ total_charge old + k

changed_keeps : (k : ℕ) (change : Invocation → Invocation) → ((one : Invocation) → (change one).undone ≡ one.undone) → ((one : Invocation) → (change one).own_fuel ≡ one.own_fuel + k) → (xs : List Invocation) (n : ℕ) → slice_get (marks xs) n ≡ Some false → Keeps k xs (with_change change xs n)
changed_keeps k change mark charge xs n h =
    let one = get_marked xs n false h in
    subst (λ o. Keeps k xs (option_map_or (λ x. slice_set xs n (change x)) o xs)) (sym one.1.0)
    (record { marks_same = set_marks xs n one.0 (change one.0) one.1.0 (mark one.0); charges = set_charged xs n k one.0 (change one.0) one.1.0 (charge one.0) })

undone_charged : (xs : List Invocation) → total_charge (map as_undone xs) ≡ total_charge xs
undone_charged [] = refl
undone_charged (x ∷ xs) = omega (arith, undone_charged xs, sum_by-cons (λ (i : Invocation). i.own_fuel) x xs, sum_by-cons (λ (i : Invocation). i.own_fuel) (as_undone x) (map as_undone xs))

take_marks : (xs us : List Invocation) (more : List Bool) → marks us ≡ marks xs ++ more → marks (take (length xs) us) ≡ marks xs
take_marks [] us more h = refl
take_marks (x ∷ xs) [] more h = absurd (cc)
take_marks (x ∷ xs) (u ∷ us) more h =
    let first : u.undone ≡ x.undone = cc in
    let others : marks us ≡ marks xs ++ more = cc in
    let later : marks (take (length xs) us) ≡ marks xs = take_marks xs us more others in
    (λ i. first i ∷ later i)

-- the invocation, if any, is there and stands
abbrev pub Stands : Option ℕ → State → Type 0
Stands None s = Unit {0}
Stands (Some inv) s = slice_get (marks s.invocations) inv ≡ Some false

-- all steps are of invocations that stand
abbrev pub StepsStand : List Bool → List Step → Type 0
StepsStand marked steps = All (λ step. slice_get marked step.inv ≡ Some false) steps

-- the fuel left and the fuel charged make what there was, or less where the fuel ran out
abbrev pub Spent : ℕ → {T : Type 0} → Control T → Type 0
Spent before (Done x t) = t.fuel + total_charge t.invocations ≡ before
Spent before (Exit (Reverts cause) t) = t.fuel + total_charge t.invocations ≡ before
Spent before (Exit RunsOut t) = t.fuel + total_charge t.invocations ≤ before

-- from a state: earlier marks stay, steps are of invocations that stand, and fuel is spent where it is charged
pub record Kept (s : State) {T : Type 0} (r : Control T) : Type 0 where
  pub more : (more : List Bool) × (marks (end_state r).invocations ≡ marks s.invocations ++ more)
  pub steps : StepsStand (marks s.invocations) s.steps → StepsStand (marks (end_state r).invocations) (end_state r).steps
  pub spent : Spent (s.fuel + total_charge s.invocations) r

abbrev pub Accounts : (T : Type 0) → Option ℕ → Part T → Part T → Type 0
Accounts T o m n = (s : State) → Stands o s → Kept s (m s)

stand_later : (old new more : List Bool) (steps : List Step) → new ≡ old ++ more → StepsStand old steps → StepsStand new steps
stand_later old new more steps e h = All-weaker (λ step. slice_get old step.inv ≡ Some false) (λ step. slice_get new step.inv ≡ Some false) (λ step is. ap (λ l. slice_get l step.inv) e ∙ get_more old more step.inv false is) steps h

stands_later : (o : Option ℕ) (s u : State) (more : List Bool) → marks u.invocations ≡ marks s.invocations ++ more → Stands o s → Stands o u
stands_later None s u more e h = tt
stands_later (Some inv) s u more e h = ap (λ l. slice_get l inv) e ∙ get_more (marks s.invocations) more inv false h

then_kept : {S T : Type 0} (s u : State) (x : S) (r : Control T) → Kept s (Done x u) → Kept u r → Kept s r
then_kept s u x r h k = record {
  more = (h.more.0 ++ k.more.0, k.more.1 ∙ ap (λ l. l ++ k.more.0) h.more.1 ∙ append_assoc (marks s.invocations) h.more.0 k.more.0);
  steps = λ before. k.steps (h.steps before);
  spent = subst (λ n. Spent n r) h.spent k.spent;
}

after_kept : {S T : Type 0} (o : Option ℕ) (s : State) (r : Control S) (f : S → Part T) → Stands o s → Kept s r → ((x : S) (u : State) → Stands o u → Kept u (f x u)) → Kept s (after r f)
after_kept o s (Done x u) f stands h k = then_kept s u x (f x u) h (k x u (stands_later o s u h.more.0 h.more.1 stands))
after_kept o s (Exit (Reverts cause) u) f stands h k = record { more = h.more; steps = h.steps; spent = h.spent }
after_kept o s (Exit RunsOut u) f stands h k = record { more = h.more; steps = h.steps; spent = h.spent }

same_marks : (xs : List Bool) → (more : List Bool) × (xs ≡ xs ++ more)
same_marks xs = ([], sym (append-nil xs))

-- a change of an invocation that is there
noted_kept : (s : State) (change : Invocation → Invocation) → ((one : Invocation) → (change one).undone ≡ one.undone) → ((one : Invocation) → (change one).own_fuel ≡ one.own_fuel) → (inv : ℕ) → Stands (Some inv) s → Kept s {T = Unit {0}} (note change inv s)
noted_kept s change mark charge inv h =
    let keeps : Keeps 0 s.invocations (with_change change s.invocations inv) = changed_keeps 0 change mark (λ one. omega (arith, charge one)) s.invocations inv h in
    record {
      more = ([], keeps.marks_same ∙ sym (append-nil (marks s.invocations)));
      steps = subst (λ l. StepsStand l s.steps) (sym keeps.marks_same);
      spent = omega (arith, keeps.charges);
    }

paid_kept : (n inv : ℕ) (s : State) (b : Bool) → nat_le n s.fuel ≡ b → Stands (Some inv) s → Kept s {T = Unit {0}} (if b then Done tt (record s { fuel = s.fuel - n; invocations = with_change (with_charge n) s.invocations inv }) else Exit RunsOut (record s { fuel = 0 }))
paid_kept n inv s true is h =
    let keeps : Keeps n s.invocations (with_change (with_charge n) s.invocations inv) = changed_keeps n (with_charge n) (λ one. refl) (λ one. refl) s.invocations inv h in
    let enough : n ≤ s.fuel = grind (arith, nat_tests, is) in
    record {
      more = ([], keeps.marks_same ∙ sym (append-nil (marks s.invocations)));
      steps = subst (λ l. StepsStand l s.steps) (sym keeps.marks_same);
      spent = omega (arith, keeps.charges);
    }
paid_kept n inv s false is h = record { more = same_marks (marks s.invocations); steps = λ before. before; spent = omega arith }

pay_kept : (inv n : ℕ) → Accounts (Unit {0}) (Some inv) (pay inv n) (pay inv n)
unfolding pay
pay_kept inv n s h = paid_kept n inv s (nat_le n s.fuel) refl h

read_kept : (store : Store) (inv : ℕ) (cell : Cell) (s : State) → Stands (Some inv) s → Kept s (read_cell store inv cell s)
unfolding read_cell
read_kept store inv cell s h = record {
  more = same_marks (marks s.invocations);
  steps = λ before. All-push (λ (step : Step). slice_get (marks s.invocations) step.inv ≡ Some false) s.steps _ before h;
  spent = refl;
}

write_kept : (inv : ℕ) (cell : Cell) (value : ℕ) → Accounts (Unit {0}) (Some inv) (write_cell inv cell value) (write_cell inv cell value)
unfolding write_cell
write_kept inv cell value s h = record {
  more = same_marks (marks s.invocations);
  steps = λ before. All-push (λ (step : Step). slice_get (marks s.invocations) step.inv ≡ Some false) s.steps _ before h;
  spent = refl;
}

begin_kept : (object method : ℕ) (args : List ℕ) (s : State) → Kept s (begin object method args s)
begin_kept object method args s = record {
  more = (false ∷ [], map_append s.invocations _);
  steps = λ before. stand_later (marks s.invocations) _ (false ∷ []) s.steps (map_append s.invocations _) before;
  spent = omega (arith, sum_by_push (λ (i : Invocation). i.own_fuel) s.invocations (record { object = object; method = method; args = args; answer = None; answers = []; own_fuel = 0; undone = false }));
}

back_marks : (xs us : List Invocation) (more : List Bool) → marks us ≡ marks xs ++ more → marks (take (length xs) us ++ map as_undone (drop (length xs) us)) ≡ marks xs ++ marks (map as_undone (drop (length xs) us))
back_marks xs us more h = map_append (take (length xs) us) (map as_undone (drop (length xs) us)) ∙ ap (λ l. l ++ marks (map as_undone (drop (length xs) us))) (take_marks xs us more h)

back_charged : (n : ℕ) (us : List Invocation) → total_charge (take n us ++ map as_undone (drop n us)) ≡ total_charge us
back_charged n us = omega (arith, sum_by-append (λ (i : Invocation). i.own_fuel) (take n us) (map as_undone (drop n us)), undone_charged (drop n us), sum_by-take-drop (λ (i : Invocation). i.own_fuel) us n)

caught_kept : (s : State) (r : Control ℕ) → Kept s r → Kept s (attempt_of (λ _. r) s)
unfolding attempt_of
caught_kept s (Done x u) h = record { more = h.more; steps = h.steps; spent = h.spent }
caught_kept s (Exit (Reverts cause) u) h = record {
  more = (marks (map as_undone (drop (length s.invocations) u.invocations)), back_marks s.invocations u.invocations h.more.0 h.more.1);
  steps = λ before. stand_later (marks s.invocations) _ (marks (map as_undone (drop (length s.invocations) u.invocations))) s.steps (back_marks s.invocations u.invocations h.more.0 h.more.1) before;
  spent = ap (λ n. u.fuel + n) (back_charged (length s.invocations) u.invocations) ∙ h.spent;
}
caught_kept s (Exit RunsOut u) h = record { more = h.more; steps = h.steps; spent = h.spent }

tried_kept : (inv : ℕ) (m n : Part ℕ) → Accounts ℕ None m n → Accounts ℕ (Some inv) (attempt_of m) (attempt_of n)
unfolding attempt_of
tried_kept inv m n h s stands = caught_kept s (m s) (h s tt)

given_kept : {T : Type 0} (x : T) (s : State) → Kept s (Done x s)
given_kept x s = record { more = same_marks (marks s.invocations); steps = λ before. before; spent = refl }

module _ (store : Store) where
  pub closed : parts.IsClosed store store Accounts
  closed = record {
    pures = λ x s h. given_kept x s;
    reverts = λ cause s h. record { more = same_marks (marks s.invocations); steps = λ before. before; spent = refl };
    ends = λ s h. record { more = same_marks (marks s.invocations); steps = λ before. before; spent = omega arith };
    binds = λ {o = o} {m = m} {f = f} h k s stands. after_kept o s (m s) f stands (h s stands) k;
    looks = λ h s. h s s;
    pays = pay_kept;
    reads = λ inv cell s h. after_kept (Some inv) s (pay inv READ s) (λ _. read_cell store inv cell) h (pay_kept inv READ s h) (λ _ t k. read_kept store inv cell t k);
    writes = λ inv cell value x s h. after_kept (Some inv) s (pay inv WRITE s) (λ _. write_cell inv cell value >>= (λ _. pure x)) h (pay_kept inv WRITE s h)
        (λ _ t k. after_kept (Some inv) t (write_cell inv cell value t) (λ _. pure x) k (write_kept inv cell value t k) (λ _ u l. given_kept x u));
    hears = λ inv value s h. noted_kept s (with_heard value) (λ one. refl) (λ one. refl) inv h;
    answers = λ inv value s h. noted_kept s (with_answer value) (λ one. refl) (λ one. refl) inv h;
    begins = λ object method args {f = f} h s stands. then_kept s _ (length s.invocations) _ (begin_kept object method args s) (h (length s.invocations) _ (get_new s.invocations _));
    tries = λ inv {m = m} {n = n} h. tried_kept inv m n h;
    widens = λ h s stands. h s tt;
  }
