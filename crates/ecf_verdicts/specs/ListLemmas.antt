-- Some and each element of a list, by recursion on it, and the lemmas that lead there from std's words and back.
use Rattle.std.proofs.Common.{◌≡◌, ℕ, zero, suc, ◌<◌, length, Bool, true, false, cond, List, [], ◌∷◌, filter, find, Option, Some, None, ◌⊎◌, inl, inr, refl, sym, ap, ◌∙◌, subst, not-suc-le-zero, le_of_suc-le-suc, suc-le-suc, zero-lt-suc}
use Rattle.std.specs.Prelude.{⊤, All, Any, Contains, get_or}
use Rattle.std.specs.List.{list_any, AllByRecursion}
use Rattle.std.proofs.lemmas.Bool.{or_cases, both_ways, or_left, or_right}
use Rattle.std.proofs.lemmas.List.Elements.{recursion_from_All}
use Rattle.std.proofs.lemmas.Option.{none-some, same_Some}

-- some element is such
abbrev pub Has : {X : Type 0} → (X → Type 0) → List X → Type 0
Has P [] = ⊥
Has P (x ∷ xs) = P x ⊎ Has P xs

-- each element is such
abbrev pub Each : {X : Type 0} → (X → Type 0) → List X → Type 0
Each P [] = ⊤
Each P (x ∷ xs) = P x × Each P xs

-- y is one of the list
abbrev pub In : {X : Type 0} → X → List X → Type 0
In y xs = Has (λ x. y ≡ x) xs

-- each element is in the relation to each later one
abbrev pub Pairs : {X : Type 0} → (X → X → Type 0) → List X → Type 0
Pairs R [] = ⊤
Pairs R (x ∷ xs) = Each (R x) xs × Pairs R xs

pub Has_weaker : {X : Type 0} (P Q : X → Type 0) (xs : List X) → ((x : X) → P x → Q x) → Has P xs → Has Q xs
Has_weaker P Q [] f h = h
Has_weaker P Q (x ∷ xs) f (inl p) = inl (f x p)
Has_weaker P Q (x ∷ xs) f (inr h) = inr (Has_weaker P Q xs f h)

pub Each_weaker : {X : Type 0} (P Q : X → Type 0) (xs : List X) → ((x : X) → P x → Q x) → Each P xs → Each Q xs
Each_weaker P Q [] f h = h
Each_weaker P Q (x ∷ xs) f h = (f x h.0, Each_weaker P Q xs f h.1)

pub Has_in : {X : Type 0} (P : X → Type 0) (xs : List X) → Has P xs → (x : X) × In x xs × P x
Has_in P [] h = absurd h
Has_in P (x ∷ xs) (inl p) = (x, inl refl, p)
Has_in P (x ∷ xs) (inr h) = let r = Has_in P xs h in (r.0, inr r.1, r.2)

pub Has_from_in : {X : Type 0} (P : X → Type 0) (xs : List X) (x : X) → In x xs → P x → Has P xs
Has_from_in P [] x i p = absurd i
Has_from_in P (y ∷ xs) x (inl e) p = inl (subst P e p)
Has_from_in P (y ∷ xs) x (inr i) p = inr (Has_from_in P xs x i p)

pub Each_at : {X : Type 0} (P : X → Type 0) (xs : List X) (x : X) → Each P xs → In x xs → P x
Each_at P [] x h i = absurd i
Each_at P (y ∷ xs) x h (inl e) = subst P (sym e) h.0
Each_at P (y ∷ xs) x h (inr i) = Each_at P xs x h.1 i

pub Each_from : {X : Type 0} (P : X → Type 0) (xs : List X) → ((x : X) → In x xs → P x) → Each P xs
Each_from P [] f = tt
Each_from P (x ∷ xs) f = (f x (inl refl), Each_from P xs (λ y i. f y (inr i)))

-- between each element and std's All
pub Each_from_all : {X : Type 0} (P : X → Type 0) (xs : List X) → All P xs → Each P xs
Each_from_all P xs h = go xs (recursion_from_All P xs h)
  where
    go : (ys : List _) → AllByRecursion P ys → Each P ys
    go [] h = tt
    go (y ∷ ys) h = (h.0, go ys h.1)

pub In_get : {X : Type 0} (v : List X) (k : ℕ) (d : X) → k < length v → In (get_or v k d) v
In_get [] k d h = absurd (not-suc-le-zero h)
In_get (x ∷ xs) zero d h = inl refl
In_get (x ∷ xs) (suc k) d h = inr (In_get xs k d (le_of_suc-le-suc h))

pub All_from_Each : {X : Type 0} (P : X → Type 0) (xs : List X) → Each P xs → All P xs
All_from_Each P xs h = λ k d l. Each_at P xs (get_or xs k d) h (In_get xs k d l)

-- between one of the list and std's Contains
pub Contains_from_In : {X : Type 0} (xs : List X) (x : X) → In x xs → Contains xs x
Contains_from_In [] x i = absurd i
Contains_from_In (y ∷ ys) x (inl e) = (0, zero-lt-suc (length ys), sym e)
Contains_from_In (y ∷ ys) x (inr i) = let c = Contains_from_In ys x i in (suc c.0, suc-le-suc c.1, c.2)

pub In_from_Contains : {X : Type 0} (xs : List X) (x : X) → Contains xs x → In x xs
In_from_Contains xs x c = subst (λ y. In y xs) c.2 (In_get xs c.0 x c.1)

-- between some element and std's Any
pub Any_from_Has : {X : Type 0} (P : X → Type 0) (xs : List X) → Has P xs → Any P xs
Any_from_Has P [] h = absurd h
Any_from_Has P (x ∷ xs) (inl p) = (0, x, zero-lt-suc (length xs), refl, p)
Any_from_Has P (x ∷ xs) (inr h) = let r = Any_from_Has P xs h in (suc r.0, r.1, suc-le-suc r.2, r.3, r.4)

pub Has_from_Any : {X : Type 0} (P : X → Type 0) (xs : List X) → Any P xs → Has P xs
Has_from_Any P xs a = go xs a.0 a.1 a.2 a.3 a.4
  where
    go : (ys : List _) (k : ℕ) (x : _) → k < length ys → get_or ys k x ≡ x → P x → Has P ys
    go [] k x l e p = absurd (not-suc-le-zero l)
    go (y ∷ ys) zero x l e p = inl (subst P (sym e) p)
    go (y ∷ ys) (suc k) x l e p = inr (go ys k x (le_of_suc-le-suc l) e p)

-- between some element and its place
pub Has_at : {X : Type 0} (P : X → Type 0) (xs : List X) → Has P xs → (k : ℕ) × (k < length xs) × ((d : X) → P (get_or xs k d))
Has_at P [] h = absurd h
Has_at P (x ∷ xs) (inl p) = (0, zero-lt-suc (length xs), λ d. p)
Has_at P (x ∷ xs) (inr h) = let r = Has_at P xs h in (suc r.0, suc-le-suc r.1, r.2)

pub Has_from_at : {X : Type 0} (P : X → Type 0) (xs : List X) (k : ℕ) (d : X) → k < length xs → P (get_or xs k d) → Has P xs
Has_from_at P [] k d l p = absurd (not-suc-le-zero l)
Has_from_at P (x ∷ xs) zero d l p = inl p
Has_from_at P (x ∷ xs) (suc k) d l p = inr (Has_from_at P xs k d (le_of_suc-le-suc l) p)

-- between a test of some element and its fact
pub Has_from_any : {X : Type 0} (p : X → Bool) (xs : List X) → list_any p xs ≡ true → Has (λ x. p x ≡ true) xs
Has_from_any p [] e = absurd (both_ways false refl e)
Has_from_any p (x ∷ xs) e = elim (or_cases (p x) (list_any p xs) e) [ inl h ↦ inl h | inr h ↦ inr (Has_from_any p xs h) ]

pub any_from_Has : {X : Type 0} (p : X → Bool) (xs : List X) → Has (λ x. p x ≡ true) xs → list_any p xs ≡ true
any_from_Has p [] h = absurd h
any_from_Has p (x ∷ xs) (inl e) = or_left (p x) (list_any p xs) e
any_from_Has p (x ∷ xs) (inr h) = or_right (p x) (list_any p xs) (any_from_Has p xs h)

-- what stands in a list with a head that a test lets in
In_cond : {X : Type 0} (b : Bool) (y : X) (ys : List X) (x : X) → In x (cond b (y ∷ ys) ys) → ((b ≡ true) × (x ≡ y)) ⊎ In x ys
In_cond true y ys x (inl e) = inl (refl, e)
In_cond true y ys x (inr j) = inr j
In_cond false y ys x j = inr j

In_cond_tail : {X : Type 0} (b : Bool) (y : X) (ys : List X) (x : X) → In x ys → In x (cond b (y ∷ ys) ys)
In_cond_tail true y ys x j = inr j
In_cond_tail false y ys x j = j

In_cond_head : {X : Type 0} (b : Bool) (y : X) (ys : List X) (x : X) → b ≡ true → x ≡ y → In x (cond b (y ∷ ys) ys)
In_cond_head true y ys x e same = inl same
In_cond_head false y ys x e same = absurd (both_ways false refl e)

-- what a filter keeps
pub In_filter : {X : Type 0} (p : X → Bool) (xs : List X) (x : X) → In x (filter p xs) → In x xs × (p x ≡ true)
In_filter p [] x i = absurd i
In_filter p (y ∷ xs) x i = elim (In_cond (p y) y (filter p xs) x i) [
  | inl h ↦ (inl h.1, ap p h.1 ∙ h.0)
  | inr j ↦ let r = In_filter p xs x j in (inr r.0, r.1)
]

pub In_filter_from : {X : Type 0} (p : X → Bool) (xs : List X) (x : X) → In x xs → p x ≡ true → In x (filter p xs)
In_filter_from p [] x i e = absurd i
In_filter_from p (y ∷ xs) x (inl same) e = In_cond_head (p y) y (filter p xs) x (ap p (sym same) ∙ e) same
In_filter_from p (y ∷ xs) x (inr j) e = In_cond_tail (p y) y (filter p xs) x (In_filter_from p xs x j e)

pub Each_filter : {X : Type 0} (P : X → Type 0) (p : X → Bool) (xs : List X) → Each P xs → Each P (filter p xs)
Each_filter P p xs h = Each_from P (filter p xs) (λ x i. Each_at P xs x h (In_filter p xs x i).0)

-- what `find` finds
pub find_some : {X : Type 0} (p : X → Bool) (xs : List X) (x : X) → find p xs ≡ Some x → In x xs × (p x ≡ true)
find_some p [] x e = absurd (none-some x e)
find_some p (y ∷ ys) x e = go (p y) refl (find_some p ys x)
  where
    go : (b : Bool) → p y ≡ b → (find p ys ≡ Some x → In x ys × (p x ≡ true)) → In x (y ∷ ys) × (p x ≡ true)
    go true t deep = let same : y ≡ x = same_Some y x (ap (λ b. cond b (Some y) (find p ys)) (sym t) ∙ e) in (inl (sym same), subst (λ z. p z ≡ true) same t)
    go false f deep = let r = deep (ap (λ b. cond b (Some y) (find p ys)) (sym f) ∙ e) in (inr r.0, r.1)

pub find_none : {X : Type 0} (p : X → Bool) (xs : List X) → find p xs ≡ None → Each (λ x. p x ≡ false) xs
find_none p [] e = tt
find_none p (y ∷ ys) e = go (p y) refl (find_none p ys)
  where
    go : (b : Bool) → p y ≡ b → (find p ys ≡ None → Each (λ x. p x ≡ false) ys) → Each (λ x. p x ≡ false) (y ∷ ys)
    go true t deep = absurd (none-some y (sym (ap (λ b. cond b (Some y) (find p ys)) (sym t) ∙ e)))
    go false f deep = (f, deep (ap (λ b. cond b (Some y) (find p ys)) (sym f) ∙ e))

pub option_cases : {X : Type 0} (o : Option X) → (o ≡ None) ⊎ ((x : X) × (o ≡ Some x))
option_cases None = inl refl
option_cases (Some x) = inr (x, refl)

-- between pairs and their places
pub Pairs_at : {X : Type 0} (R : X → X → Type 0) (xs : List X) → Pairs R xs → (i j : ℕ) (d : X) → i < j → j < length xs → R (get_or xs i d) (get_or xs j d)
Pairs_at R [] h i j d a b = absurd (not-suc-le-zero b)
Pairs_at R (x ∷ xs) h i zero d a b = absurd (not-suc-le-zero a)
Pairs_at R (x ∷ xs) h zero (suc j) d a b = Each_at (R x) xs (get_or xs j d) h.0 (In_get xs j d (le_of_suc-le-suc b))
Pairs_at R (x ∷ xs) h (suc i) (suc j) d a b = Pairs_at R xs h.1 i j d (le_of_suc-le-suc a) (le_of_suc-le-suc b)

pub Pairs_from_at : {X : Type 0} (R : X → X → Type 0) (xs : List X) → ((i j : ℕ) (d : X) → i < j → j < length xs → R (get_or xs i d) (get_or xs j d)) → Pairs R xs
Pairs_from_at R [] h = tt
Pairs_from_at R (x ∷ xs) h = (
  Each_from (R x) xs (λ y i. (let c = Contains_from_In xs y i in subst (λ z. R x z) c.2 (h 0 (suc c.0) y (zero-lt-suc c.0) (suc-le-suc c.1)))),
  Pairs_from_at R xs (λ i j d a b. h (suc i) (suc j) d (suc-le-suc a) (suc-le-suc b)),
)
