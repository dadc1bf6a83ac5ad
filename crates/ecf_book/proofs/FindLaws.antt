-- What is found among rows, and small facts on tests.
use Rattle.std.proofs.Common.{◌≡◌, ℕ, suc, zero, ◌+◌, ◌<◌, ◌≤◌, Bool, true, false, cond, not, ◌&&◌, List, [], ◌∷◌, length, map, get_or, All, Result, Ok, Err, OnOk, OnErr, Option, Some, None, inl, inr, refl, sym, ap, ◌∙◌, subst, arith}
use Rattle.std.specs.Prelude.{find, slice_get}
use Rattle.std.specs.List.{range_with_len}
use Rattle.std.proofs.lemmas.Bool.{cases_eq}
use Rattle.std.proofs.lemmas.List.{length-map}
use Rattle.ecf_verdicts.specs.ListLemmas.{Each, Each_from_all, In, find_some}

-- a fact that is said of the one value of a test
pub false_not_true : {A : Type 0} {b : Bool} → b ≡ false → b ≡ true → A
false_not_true {A} {b} e f = absurd (subst IsF (sym e ∙ f) tt)
  where
    IsF : Bool → Type 0
    IsF false = Unit {0}
    IsF true = ⊥

pub none_not_some : {A : Type 0} {X : Type 0} {x : X} → None ≡ Some x → A
none_not_some {A} {X} {x} e = absurd (subst IsNo e tt)
  where
    IsNo : Option X → Type 0
    IsNo None = Unit {0}
    IsNo (Some y) = ⊥

pub some_same : {X : Type 0} (x y : X) → Some x ≡ Some y → x ≡ y
some_same {X} x y e = ap (un x) e
  where
    un : X → Option X → X
    un d None = d
    un d (Some y) = y

pub and_left : (a b : Bool) → (a && b) ≡ true → a ≡ true
and_left true b e = refl
and_left false b e = e

pub not_true : (a : Bool) → not a ≡ true → a ≡ false
not_true true e = sym e
not_true false e = refl

pub not_false : (a : Bool) → not a ≡ false → a ≡ true
not_false true e = refl
not_false false e = sym e

-- what is in a range is below its end
pub range_high : (a n x : ℕ) → In x (range_with_len a n) → x < a + n
range_high a zero x h = absurd h
range_high a (suc n) x (inl e) = omega (arith, e)
range_high a (suc n) x (inr h) = omega (arith, range_high (a + 1) n x h)

-- a place that is found is below the end
pub found_below : (p : ℕ → Bool) (n x : ℕ) → find p (range_with_len 0 n) ≡ Some x → x < n
found_below p n x e = omega (arith, range_high 0 n x (find_some p (range_with_len 0 n) x e).0)

-- no place before the one that is found passes
pub found_first : (p : ℕ → Bool) (a n x : ℕ) → find p (range_with_len a n) ≡ Some x → (y : ℕ) → a ≤ y → y < x → p y ≡ false
found_first p a zero x e y l m = none_not_some e
found_first p a (suc n) x e y l m = go (p a) refl e (λ f k. found_first p (a + 1) n x f y k m)
  where
    go : (b : Bool) → p a ≡ b → cond b (Some a) (find p (range_with_len (a + 1) n)) ≡ Some x → (find p (range_with_len (a + 1) n) ≡ Some x → a + 1 ≤ y → p y ≡ false) → p y ≡ false
    go true f e deep = absurd (omega (arith, some_same a x e))
    go false f e deep = elim (cases_eq y a) [ inl s ↦ ap p s ∙ f | inr s ↦ deep e (omega arith) ]

-- a fact for one answer
pub on_err : {T E P : Type 0} (r : Result T E) → P → OnErr r P
on_err (Ok x) p = tt
on_err (Err e) p = p

pub on_ok_map : {T E P Q : Type 0} (r : Result T E) → (P → Q) → OnOk r P → OnOk r Q
on_ok_map (Ok x) f p = f p
on_ok_map (Err e) f p = tt

pub on_err_map : {T E P Q : Type 0} (r : Result T E) → (P → Q) → OnErr r P → OnErr r Q
on_err_map (Ok x) f p = tt
on_err_map (Err e) f p = f p

-- what holds of each image holds of one
each_image : {X Y : Type 0} (P : Y → Type 0) (f : X → Y) (xs : List X) (r : ℕ) (x : X) → Each P (map f xs) → r < length xs → x ≡ get_or xs r x → P (f x)
each_image P f [] r x h l e = absurd (omega (arith, l))
each_image P f (y ∷ xs) zero x h l e = subst (λ z. P (f z)) (sym e) h.0
each_image P f (y ∷ xs) (suc r) x h l e = each_image P f xs r x h.1 (omega (arith, l)) e

pub all_image : {X Y : Type 0} (P : Y → Type 0) (f : X → Y) (xs : List X) (r : ℕ) (x : X) → All P (map f xs) → r < length (map f xs) → x ≡ get_or xs r x → P (f x)
all_image P f xs r x h l e = each_image P f xs r x (Each_from_all P (map f xs) h) (omega (arith, l, length-map xs f)) e

get_from : {X Y : Type 0} (f : X → Y) (xs : List X) (r : ℕ) (x : X) → r < length xs → x ≡ get_or xs r x → slice_get (map f xs) r ≡ Some (f x)
get_from f [] r x l e = absurd (omega (arith, l))
get_from f (y ∷ xs) zero x l e = ap (λ z. Some (f z)) (sym e)
get_from f (y ∷ xs) (suc r) x l e = get_from f xs r x (omega (arith, l)) e

pub get_image : {X Y : Type 0} (f : X → Y) (xs : List X) (r : ℕ) (x : X) → r < length (map f xs) → x ≡ get_or xs r x → slice_get (map f xs) r ≡ Some (f x)
get_image f xs r x l e = get_from f xs r x (omega (arith, l, length-map xs f)) e
