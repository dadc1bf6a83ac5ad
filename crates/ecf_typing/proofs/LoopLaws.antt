-- The first of more faults, and loops that go over a list from its front.
use Rattle.std.proofs.Common.{◌≡◌, ℕ, zero, suc, ◌+◌, ◌<◌, ◌≤◌, List, [], ◌∷◌, ◌++◌, map, length, take, get_or, Option, Some, Result, Ok, Err, refl, sym, ap, ◌∙◌, add-one, arith, append_assoc}
use Rattle.std.specs.Prelude.{IfOk, OnOk, slice_get}
use Rattle.std.proofs.lemmas.List.{take_all}
use Rattle.std.proofs.lemmas.Option.{get_or_from_slice_get}
use Rattle.std.specs.List.{flat_map}
use Rattle.ecf_faults.specs.declared.Fault.{Fault}
use Rattle.ecf_faults.specs.Least.{least_with, least_of_both}

-- the first of some faults and then of others
pub first_with_both : (old : Option Fault) (a b : List Fault) → least_with old (a ++ b) ≡ least_with (least_with old a) b
first_with_both old [] b = refl
first_with_both old (f ∷ a) b = first_with_both (least_of_both old f) a b

-- two steps, one after the other
pub then_more : (old between new : Option Fault) (a b : List Fault) → between ≡ least_with old a → new ≡ least_with between b → new ≡ least_with old (a ++ b)
then_more old between new a b first second = second ∙ ap (λ o. least_with o b) first ∙ sym (first_with_both old a b)

pub one_more : {X : Type 0} (xs : List X) (i : ℕ) (x : X) → i < length xs → x ≡ get_or xs i x → take (suc i) xs ≡ take i xs ++ x ∷ []
one_more [] i x h e = absurd (omega (arith, h))
one_more (y ∷ ys) zero x h e = ap (λ z. z ∷ []) (sym e)
one_more (y ∷ ys) (suc i) x h e = ap (λ zs. y ∷ zs) (one_more ys i x (omega (arith, h)) e)

pub take_next : {X : Type 0} (xs : List X) (i : ℕ) (x : X) → i < length xs → x ≡ get_or xs i x → take (i + 1) xs ≡ take i xs ++ x ∷ []
take_next xs i x h e = ap (λ k. take k xs) (add-one i) ∙ one_more xs i x h e

pub map_push : {X Y : Type 0} (f : X → Y) (xs : List X) (x : X) → map f (xs ++ x ∷ []) ≡ map f xs ++ f x ∷ []
map_push f [] x = refl
map_push f (y ∷ ys) x = ap (λ zs. f y ∷ zs) (map_push f ys x)

append_nil : {X : Type 0} (xs : List X) → xs ++ [] ≡ xs
append_nil [] = refl
append_nil (x ∷ xs) = ap (λ ys. x ∷ ys) (append_nil xs)

pub flat_push : {X Y : Type 0} (f : X → List Y) (xs : List X) (x : X) → flat_map f (xs ++ x ∷ []) ≡ flat_map f xs ++ f x
flat_push f [] x = append_nil (f x)
flat_push f (y ∷ ys) x = ap (λ zs. f y ++ zs) (flat_push f ys x) ∙ sym (append_assoc (f y) (flat_map f ys) (f x))

-- a loop that makes something of each element
pub made_more : {X Y : Type 0} (f : X → Y) (xs : List X) (i : ℕ) (x : X) (made made' : List Y) (y : Y) → made ≡ map f (take i xs) → i < length xs → x ≡ get_or xs i x → made' ≡ made ++ y ∷ [] → y ≡ f x → made' ≡ map f (take (i + 1) xs)
made_more f xs i x made made' y so_far h e push is =
    push ∙ ap (λ m. m ++ y ∷ []) so_far ∙ ap (λ z. map f (take i xs) ++ z ∷ []) is ∙ sym (map_push f (take i xs) x) ∙ ap (map f) (sym (take_next xs i x h e))

-- the same of a list that is read by number
pub made_at : {X Y : Type 0} (f : X → Y) (xs : List X) (i : ℕ) (x : X) (made made' : List Y) (y : Y) → made ≡ map f (take i xs) → slice_get xs i ≡ Some x → i < length xs → made' ≡ made ++ y ∷ [] → y ≡ f x → made' ≡ map f (take (i + 1) xs)
made_at f xs i x made made' y so_far at within push is = made_more f xs i x made made' y so_far within (sym (get_or_from_slice_get xs i x x at)) push is

-- a loop that notes the faults of each element
pub noted_more : {X : Type 0} (f : X → List Fault) (xs : List X) (i : ℕ) (x : X) (old now now' : Option Fault) → now ≡ least_with old (flat_map f (take i xs)) → i < length xs → x ≡ get_or xs i x → now' ≡ least_with now (f x) → now' ≡ least_with old (flat_map f (take (i + 1) xs))
noted_more f xs i x old now now' so_far h e step =
    then_more old now now' (flat_map f (take i xs)) (f x) so_far step ∙ ap (least_with old) (sym (ap (flat_map f) (take_next xs i x h e) ∙ flat_push f (take i xs) x))

-- what follows from what a call answered
pub if_ok_then : {A E : Type 0} (r : Result A E) (x : A) (P : A → Type 0) → IfOk r (λ a. a ≡ x) → ((a : A) → a ≡ x → P a) → IfOk r P
if_ok_then (Ok a) x P is then = then a is
if_ok_then (Err e) x P is then = is

pub on_ok_then : {A E : Type 0} (r : Result A E) (P Q : Type 0) → OnOk r P → (P → Q) → OnOk r Q
on_ok_then (Ok a) P Q is then = then is
on_ok_then (Err e) P Q is then = is

pub on_ok : {A E : Type 0} (r : Result A E) (P : Type 0) → P → OnOk r P
on_ok (Ok a) P is = is
on_ok (Err e) P is = tt

-- at its end a loop has gone over the whole list
pub at_end : {X Y : Type 0} (f : List X → Y) (xs : List X) (i : ℕ) (now : Y) → now ≡ f (take i xs) → length xs ≤ i → now ≡ f xs
at_end f xs i now so_far past = so_far ∙ ap f (take_all i xs past)
