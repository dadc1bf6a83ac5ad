-- Lists of places, and what is first among them.
use Rattle.std.proofs.Common.{◌≡◌, ℕ, suc, zero, ◌+◌, ◌<◌, ◌≤◌, Bool, true, false, cond, not, ◌&&◌, List, [], ◌∷◌, ◌++◌, length, Option, Some, None, inl, inr, ◌⊎◌, refl, sym, ap, ◌∙◌, subst, arith}
use Rattle.std.specs.Prelude.{find, slice_get}
use Rattle.std.specs.List.{range_with_len, list_all}
use Rattle.std.proofs.lemmas.Bool.{cases_eq}
use Rattle.ecf_verdicts.specs.ListLemmas.{Each, In, Each_from}
use Rattle.ecf_verdicts.specs.RisingLemmas.{Rising}

pub range_low : (a n x : ℕ) → In x (range_with_len a n) → a ≤ x
range_low a zero x h = absurd h
range_low a (suc n) x (inl e) = omega (arith, e)
range_low a (suc n) x (inr h) = omega (arith, range_low (a + 1) n x h)

pub range_high : (a n x : ℕ) → In x (range_with_len a n) → x < a + n
range_high a zero x h = absurd h
range_high a (suc n) x (inl e) = omega (arith, e)
range_high a (suc n) x (inr h) = omega (arith, range_high (a + 1) n x h)

pub in_range : (a n x : ℕ) → a ≤ x → x < a + n → In x (range_with_len a n)
in_range a zero x h k = absurd (omega arith)
in_range a (suc n) x h k = elim (cases_eq x a) [ inl e ↦ inl e | inr e ↦ inr (in_range (a + 1) n x (omega arith) (omega arith)) ]

pub range_rises : (a n : ℕ) → Rising (range_with_len a n)
range_rises a zero = tt
range_rises a (suc n) = (Each_from (λ y. a < y) (range_with_len (a + 1) n) (λ y h. omega (arith, range_low (a + 1) n y h)), range_rises (a + 1) n)

pub false_not_true : {A : Type 0} {b : Bool} → b ≡ false → b ≡ true → A
false_not_true {A} {b} e f = absurd (subst IsF (sym e ∙ f) tt)
  where
    IsF : Bool → Type 0
    IsF false = Unit {0}
    IsF true = ⊥

pub none_not_some : {A : Type 0} {X : Type 0} {x : X} → None ≡ Some x → A
none_not_some {A} {X} {x} e = absurd (subst IsNo e tt)
  where
    IsNo : Option X → Type 0
    IsNo None = Unit {0}
    IsNo (Some y) = ⊥

pub some_same : {X : Type 0} (x y : X) → Some x ≡ Some y → x ≡ y
some_same {X} x y e = ap (un x) e
  where
    un : X → Option X → X
    un d None = d
    un d (Some y) = y

pub In_left : {X : Type 0} (p : X) (xs ys : List X) → In p xs → In p (xs ++ ys)
In_left p [] ys i = absurd i
In_left p (x ∷ xs) ys (inl e) = inl e
In_left p (x ∷ xs) ys (inr i) = inr (In_left p xs ys i)

pub In_right : {X : Type 0} (p : X) (xs ys : List X) → In p ys → In p (xs ++ ys)
In_right p [] ys i = i
In_right p (x ∷ xs) ys i = inr (In_right p xs ys i)

pub In_either : {X : Type 0} (p : X) (xs ys : List X) → In p (xs ++ ys) → In p xs ⊎ In p ys
In_either p [] ys i = inr i
In_either p (x ∷ xs) ys (inl e) = inl (inl e)
In_either p (x ∷ xs) ys (inr i) = elim (In_either p xs ys i) [ inl h ↦ inl (inr h) | inr h ↦ inr h ]

pub Each_more : {X : Type 0} (P : X → Type 0) (xs : List X) (y : X) → Each P xs → P y → Each P (xs ++ y ∷ [])
Each_more P [] y h p = (p, tt)
Each_more P (x ∷ xs) y h p = (h.0, Each_more P xs y h.1 p)

pub Each_both : {X : Type 0} (P : X → Type 0) (xs ys : List X) → Each P xs → Each P ys → Each P (xs ++ ys)
Each_both P [] ys h k = k
Each_both P (x ∷ xs) ys h k = (h.0, Each_both P xs ys h.1 k)

pub rises_right : (xs ys : List ℕ) → Rising (xs ++ ys) → Rising ys
rises_right [] ys r = r
rises_right (x ∷ xs) ys r = rises_right xs ys r.1

pub and_left : (a b : Bool) → (a && b) ≡ true → a ≡ true
and_left true b e = refl
and_left false b e = e

pub and_right : (a b : Bool) → (a && b) ≡ true → b ≡ true
and_right true b e = e
and_right false b e = false_not_true refl e

pub not_true : (a : Bool) → not a ≡ true → a ≡ false
not_true true e = sym e
not_true false e = refl

pub not_false : (a : Bool) → not a ≡ false → a ≡ true
not_false true e = refl
not_false false e = sym e

pub each_all : {X : Type 0} (p : X → Bool) (xs : List X) → list_all p xs ≡ true → Each (λ x. p x ≡ true) xs
each_all p [] e = tt
each_all p (x ∷ xs) e = (and_left (p x) (list_all p xs) e, each_all p xs (and_right (p x) (list_all p xs) e))

-- what is found is in the list and passes
pub found_in : {X : Type 0} (p : X → Bool) (xs : List X) (x : X) → find p xs ≡ Some x → In x xs × (p x ≡ true)
found_in p [] x e = none_not_some e
found_in p (y ∷ ys) x e = go (p y) refl e (λ f. found_in p ys x f)
  where
    go : (b : Bool) → p y ≡ b → cond b (Some y) (find p ys) ≡ Some x → (find p ys ≡ Some x → In x ys × (p x ≡ true)) → In x (y ∷ ys) × (p x ≡ true)
    go true f e deep = let same = some_same y x e in (inl (sym same), ap p (sym same) ∙ f)
    go false f e deep = let r = deep e in (inr r.0, r.1)

-- none before it does
pub found_first : (p : ℕ → Bool) (a n x : ℕ) → find p (range_with_len a n) ≡ Some x → (y : ℕ) → a ≤ y → y < x → p y ≡ false
found_first p a zero x e y l m = none_not_some e
found_first p a (suc n) x e y l m = go (p a) refl e (λ f k. found_first p (a + 1) n x f y k m)
  where
    go : (b : Bool) → p a ≡ b → cond b (Some a) (find p (range_with_len (a + 1) n)) ≡ Some x → (find p (range_with_len (a + 1) n) ≡ Some x → a + 1 ≤ y → p y ≡ false) → p y ≡ false
    go true f e deep = absurd (omega (arith, some_same a x e))
    go false f e deep = elim (cases_eq y a) [ inl s ↦ ap p s ∙ f | inr s ↦ deep e (omega arith) ]

-- and where nothing is found, none does
pub found_none : {X : Type 0} (p : X → Bool) (xs : List X) → find p xs ≡ None → (x : X) → In x xs → p x ≡ false
found_none p [] e x i = absurd i
found_none p (y ∷ ys) e x i = go (p y) refl e i (λ f j. found_none p ys f x j)
  where
    go : (b : Bool) → p y ≡ b → cond b (Some y) (find p ys) ≡ None → In x (y ∷ ys) → (find p ys ≡ None → In x ys → p x ≡ false) → p x ≡ false
    go true f e i deep = none_not_some (sym e)
    go false f e (inl s) deep = ap p s ∙ f
    go false f e (inr j) deep = deep e j

pub get_left : {X : Type 0} (xs ys : List X) (i : ℕ) (x : X) → slice_get xs i ≡ Some x → slice_get (xs ++ ys) i ≡ Some x
get_left [] ys i x e = none_not_some e
get_left (y ∷ xs) ys zero x e = e
get_left (y ∷ xs) ys (suc i) x e = get_left xs ys i x e

pub get_last : {X : Type 0} (xs : List X) (x : X) → slice_get (xs ++ x ∷ []) (length xs) ≡ Some x
get_last [] x = refl
get_last (y ∷ xs) x = get_last xs x
