-- Invocations and steps of a state: what is left by a change of one, a new one, or a try that undoes some.
use Rattle.std.proofs.Common.{◌≡◌, ℕ, zero, suc, ◌<◌, ◌≤◌, true, cond, ◌==◌, List, [], ◌∷◌, ◌++◌, map, take, drop, length, Option, Some, None, refl, sym, ap, subst, ◌∙◌, arith}
use Rattle.std.specs.Prelude.{slice_get, slice_set}
use Rattle.std.specs.Option.{option_map_or}
use Rattle.std.proofs.lemmas.Bool.{eq-eqb, ne_eqb}
use Rattle.std.proofs.lemmas.List.Elements.{filter-append}
use Rattle.ecf_lang.specs.declared.run.Step.{Step}
use Rattle.ecf_lang.specs.declared.run.Invocation.{Invocation}
use Rattle.ecf_lang.specs.Store.{Store, Cells}
use Rattle.ecf_lang.specs.Part.{with_change, as_undone}
use Rattle.ecf_laws.specs.Replay.{after_step, after_steps, AreSeen}
use Rattle.ecf_verdicts.specs.Blocks.{block}

-- an invocation that is there
pub get_in : {X : Type 0} (xs : List X) (n : ℕ) → n < length xs → (x : X) × (slice_get xs n ≡ Some x)
get_in [] n h = absurd (omega arith)
get_in (x ∷ xs) zero h = (x, refl)
get_in (x ∷ xs) (suc n) h = get_in xs n (omega arith)

pub get_old : {X : Type 0} (xs ys : List X) (n : ℕ) → n < length xs → slice_get (xs ++ ys) n ≡ slice_get xs n
get_old [] ys n h = absurd (omega arith)
get_old (x ∷ xs) ys zero h = refl
get_old (x ∷ xs) ys (suc n) h = get_old xs ys n (omega arith)

pub get_new : {X : Type 0} (xs : List X) (x : X) → slice_get (xs ++ x ∷ []) (length xs) ≡ Some x
get_new [] x = refl
get_new (y ∷ xs) x = get_new xs x

pub get_taken : {X : Type 0} (m : ℕ) (xs ys : List X) (n : ℕ) → n < m → m ≤ length xs → slice_get (take m xs ++ ys) n ≡ slice_get xs n
get_taken zero xs ys n h k = absurd (omega arith)
get_taken (suc m) [] ys n h k = absurd (omega arith)
get_taken (suc m) (x ∷ xs) ys zero h k = refl
get_taken (suc m) (x ∷ xs) ys (suc n) h k = get_taken m xs ys n (omega arith) (omega arith)

set_same : {X : Type 0} (xs : List X) (n : ℕ) (x y : X) → slice_get xs n ≡ Some x → slice_get (slice_set xs n y) n ≡ Some y
set_same [] n x y h = absurd (cc)
set_same (z ∷ xs) zero x y h = refl
set_same (z ∷ xs) (suc n) x y h = set_same xs n x y h

set_other : {X : Type 0} (xs : List X) (n k : ℕ) (y : X) → (n ≡ k → ⊥) → slice_get (slice_set xs n y) k ≡ slice_get xs k
set_other [] n k y h = refl
set_other (z ∷ xs) zero zero y h = absurd (h refl)
set_other (z ∷ xs) zero (suc k) y h = refl
set_other (z ∷ xs) (suc n) zero y h = refl
set_other (z ∷ xs) (suc n) (suc k) y h = set_other xs n k y (λ e. h (ap suc e))

set_long : {X : Type 0} (xs : List X) (n : ℕ) (y : X) → length (slice_set xs n y) ≡ length xs
set_long [] n y = refl
set_long (z ∷ xs) zero y = refl
set_long (z ∷ xs) (suc n) y = ap suc (set_long xs n y)

pub changed_same : (change : Invocation → Invocation) (xs : List Invocation) (n : ℕ) (x : Invocation) → slice_get xs n ≡ Some x → slice_get (with_change change xs n) n ≡ Some (change x)
changed_same change xs n x h = subst (λ o. slice_get (option_map_or (λ one. slice_set xs n (change one)) o xs) n ≡ Some (change x)) (sym h) (set_same xs n x (change x) h)

pub changed_other : (change : Invocation → Invocation) (xs : List Invocation) (n k : ℕ) → (n ≡ k → ⊥) → slice_get (with_change change xs n) k ≡ slice_get xs k
changed_other change xs n k h = by (slice_get xs n)
  where
    by : (o : Option Invocation) → slice_get (option_map_or (λ one. slice_set xs n (change one)) o xs) k ≡ slice_get xs k
    by None = refl
    by (Some x) = set_other xs n k (change x) h

pub changed_long : (change : Invocation → Invocation) (xs : List Invocation) (n : ℕ) → length (with_change change xs n) ≡ length xs
changed_long change xs n = by (slice_get xs n)
  where
    by : (o : Option Invocation) → length (option_map_or (λ one. slice_set xs n (change one)) o xs) ≡ length xs
    by None = refl
    by (Some x) = set_long xs n (change x)

-- what an undoing leaves has been undone
undone_at : (xs : List Invocation) (n : ℕ) (x : Invocation) → slice_get (map as_undone xs) n ≡ Some x → x.undone ≡ true
undone_at [] n x h = absurd (cc)
undone_at (y ∷ xs) zero x h = ap (λ (o : Option Invocation). option_map_or (λ z. z.undone) o true) (sym h)
undone_at (y ∷ xs) (suc n) x h = undone_at xs n x h

pub back_undone : (m : ℕ) (xs : List Invocation) (n : ℕ) (x : Invocation) → m ≤ n → m ≤ length xs → slice_get (take m xs ++ map as_undone (drop m xs)) n ≡ Some x → x.undone ≡ true
back_undone zero xs n x h k e = undone_at xs n x e
back_undone (suc m) [] n x h k e = absurd (omega arith)
back_undone (suc m) (y ∷ xs) zero x h k e = absurd (omega arith)
back_undone (suc m) (y ∷ xs) (suc n) x h k e = back_undone m xs n x (omega arith) (omega arith) e

pub back_long : (m : ℕ) (xs : List Invocation) → m ≤ length xs → length (take m xs ++ map as_undone (drop m xs)) ≡ length xs
back_long zero xs h = by xs
  where
    by : (ys : List Invocation) → length (map as_undone ys) ≡ length ys
    by [] = refl
    by (y ∷ ys) = ap suc (by ys)
back_long (suc m) [] h = absurd (omega arith)
back_long (suc m) (y ∷ xs) h = ap suc (back_long m xs (omega arith))

-- the steps of an invocation after one more
pub block_own : (steps : List Step) (step : Step) → block (steps ++ step ∷ []) step.inv ≡ block steps step.inv ++ step ∷ []
block_own steps step = filter-append (λ (s : Step). s.inv == step.inv) steps (step ∷ []) ∙ ap (λ b. block steps step.inv ++ cond b (step ∷ []) []) (eq-eqb step.inv step.inv refl)

pub block_other : (steps : List Step) (step : Step) (n : ℕ) → (step.inv ≡ n → ⊥) → block (steps ++ step ∷ []) n ≡ block steps n
block_other steps step n h = filter-append (λ (s : Step). s.inv == n) steps (step ∷ []) ∙ ap (λ b. block steps n ++ cond b (step ∷ []) []) (ne_eqb step.inv n h) ∙ Rattle.std.proofs.lemmas.List.append-nil (block steps n)

-- steps gone through in two parts
pub after_steps-append : (written : Cells) (xs ys : List Step) → after_steps written (xs ++ ys) ≡ after_steps (after_steps written xs) ys
after_steps-append written [] ys = refl
after_steps-append written (x ∷ xs) ys = after_steps-append (after_step written x) xs ys

pub seen_first : (store : Store) (written : Cells) (xs ys : List Step) → AreSeen store written (xs ++ ys) → AreSeen store written xs
seen_first store written [] ys h = tt
seen_first store written (x ∷ xs) ys h = (h.0, seen_first store (after_step written x) xs ys h.1)

pub seen_last : (store : Store) (written : Cells) (xs ys : List Step) → AreSeen store written (xs ++ ys) → AreSeen store (after_steps written xs) ys
seen_last store written [] ys h = h
seen_last store written (x ∷ xs) ys h = seen_last store (after_step written x) xs ys h.1
