-- Each method name is that of some object's method, so that there are no more names than methods.
use Rattle.std.proofs.Common.{◌≡◌, ℕ, zero, suc, ◌+◌, ◌*◌, ◌<◌, ◌≤◌, ◌==◌, Bool, true, false, cond, List, [], ◌∷◌, ◌++◌, length, map, refl, sym, subst, arith, inl, inr, ◌⊎◌, All, Some, length-append}
use Rattle.std.specs.Prelude.{find, IsSome, slice_index_or}
use Rattle.std.proofs.lemmas.Bool.Decides.{nat_tests}
use Rattle.std.proofs.lemmas.List.Elements.{All-head, All-tail}
use Rattle.ecf_lang.specs.declared.limits.TheConstants.{MAX_METHODS}
use Rattle.ecf_lang.specs.declared.typed.Typed.{Typed}
use Rattle.ecf_lang.specs.declared.typed.TypedMethod.{TypedMethod}
use Rattle.ecf_lang.specs.declared.typed.TypedObject.{TypedObject}
use Rattle.ecf_lang.specs.Fits.{method_of}
use Rattle.ecf_wellformed.specs.WellFormed.{IsObject}
use Rattle.ecf_wellformed.specs.Numbering.{WellFormedIsNumbered}

-- ---- a list that holds each number below some has as many elements

-- the number stands in the list
abbrev Holds : ℕ → List ℕ → Type 0
Holds k [] = ⊥
Holds k (x ∷ xs) = (x ≡ k) ⊎ Holds k xs

-- the list without its first element of that value
abbrev without : ℕ → List ℕ → List ℕ
without k [] = []
without k (x ∷ xs) = cond (x == k) xs (x ∷ without k xs)

shorter_by : (k x : ℕ) (xs : List ℕ) (b : Bool) → (x == k) ≡ b → (x ≡ k) ⊎ Holds k xs → (Holds k xs → length (without k xs) + 1 ≡ length xs) → length (cond b xs (x ∷ without k xs)) + 1 ≡ length (x ∷ xs)
shorter_by k x xs true e h rest = omega arith
shorter_by k x xs false e (inl is) rest = absurd (grind (arith, nat_tests))
shorter_by k x xs false e (inr more) rest = omega (arith, rest more)

shorter : (k : ℕ) (xs : List ℕ) → Holds k xs → length (without k xs) + 1 ≡ length xs
shorter k [] h = absurd h
shorter k (x ∷ xs) h = shorter_by k x xs (x == k) refl h (shorter k xs)

keeps_by : (j k x : ℕ) (xs : List ℕ) (b : Bool) → (x == k) ≡ b → (x ≡ j) ⊎ Holds j xs → (k ≡ j → ⊥) → (Holds j xs → Holds j (without k xs)) → Holds j (cond b xs (x ∷ without k xs))
keeps_by j k x xs true e (inl is) other rest = absurd (other (grind (arith, nat_tests)))
keeps_by j k x xs true e (inr more) other rest = more
keeps_by j k x xs false e (inl is) other rest = inl is
keeps_by j k x xs false e (inr more) other rest = inr (rest more)

keeps : (j k : ℕ) (xs : List ℕ) → Holds j xs → (k ≡ j → ⊥) → Holds j (without k xs)
keeps j k [] h other = h
keeps j k (x ∷ xs) h other = keeps_by j k x xs (x == k) refl h other (λ more. keeps j k xs more other)

as_many : (n : ℕ) (xs : List ℕ) → ((k : ℕ) → k < n → Holds k xs) → n ≤ length xs
as_many zero xs h = omega arith
as_many (suc n) xs h =
    let rest : n ≤ length (without n xs) = as_many n (without n xs) (λ k lt. keeps k n xs (h k (omega arith)) (λ e. omega arith)) in
    omega (arith, shorter n xs (h n (omega arith)))

-- ---- the names of the methods of objects

abbrev names_of : List TypedObject → List ℕ
names_of [] = []
names_of (o ∷ os) = map (λ (m : TypedMethod). m.name) o.methods ++ names_of os

holds_front : (k : ℕ) (xs ys : List ℕ) → Holds k xs → Holds k (xs ++ ys)
holds_front k [] ys h = absurd h
holds_front k (x ∷ xs) ys (inl is) = inl is
holds_front k (x ∷ xs) ys (inr more) = inr (holds_front k xs ys more)

holds_behind : (k : ℕ) (xs ys : List ℕ) → Holds k ys → Holds k (xs ++ ys)
holds_behind k [] ys h = h
holds_behind k (x ∷ xs) ys h = inr (holds_behind k xs ys h)

found_by : (name : ℕ) (m : TypedMethod) (ms : List TypedMethod) (b : Bool) → (m.name == name) ≡ b → IsSome (cond b (Some m) (find (λ (m : TypedMethod). m.name == name) ms))
    → (IsSome (find (λ (m : TypedMethod). m.name == name) ms) → Holds name (map (λ (m : TypedMethod). m.name) ms)) → Holds name (map (λ (m : TypedMethod). m.name) (m ∷ ms))
found_by name m ms true e h rest = inl (grind (arith, nat_tests))
found_by name m ms false e h rest = inr (rest h)

found_holds : (name : ℕ) (ms : List TypedMethod) → IsSome (find (λ (m : TypedMethod). m.name == name) ms) → Holds name (map (λ (m : TypedMethod). m.name) ms)
found_holds name [] h = absurd cc
found_holds name (m ∷ ms) h = found_by name m ms (m.name == name) refl h (found_holds name ms)

object_holds : (name : ℕ) (os : List TypedObject) (k : ℕ) (o : TypedObject) → k < length os → slice_index_or os k o ≡ o → IsSome (method_of o name) → Holds name (names_of os)
object_holds name [] k o lt is some = absurd (omega arith)
object_holds name (p ∷ os) zero o lt is some =
    holds_front name (map (λ (m : TypedMethod). m.name) p.methods) (names_of os) (found_holds name p.methods (subst (λ q. IsSome (method_of q name)) (sym is) some))
object_holds name (p ∷ os) (suc k) o lt is some =
    holds_behind name (map (λ (m : TypedMethod). m.name) p.methods) (names_of os) (object_holds name os k o (omega arith) is some)

length-names : (ms : List TypedMethod) → length (map (λ (m : TypedMethod). m.name) ms) ≡ length ms
length-names [] = refl
length-names (m ∷ ms) = omega (arith, length-names ms)

few_names : (typed : Typed) (os : List TypedObject) → All (IsObject typed) os → length (names_of os) ≤ MAX_METHODS * length os
few_names typed [] all = omega arith
few_names typed (o ∷ os) all =
    let few = (All-head (IsObject typed) o os all).few_methods in
    let rest = few_names typed os (All-tail (IsObject typed) o os all) in
    omega (arith, length-append (map (λ (m : TypedMethod). m.name) o.methods) (names_of os), length-names o.methods)

pub is_numbered : WellFormedIsNumbered
is_numbered typed h =
    let names : length typed.names ≤ length (names_of typed.objects) =
    as_many (length typed.names) (names_of typed.objects) (λ k lt. let at = h.used k lt in object_holds k typed.objects at.0 at.1 at.2 at.3 at.4) in
    let few = few_names typed typed.objects h.objects in
    let objects = h.few_objects in
    let signatures = h.signatures in
    record { objects = h.few_objects; names = omega arith; signatures = omega arith }
