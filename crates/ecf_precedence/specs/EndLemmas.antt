-- Lists with one element more at the end, and lists turned round.
use Rattle.std.proofs.Common.{◌≡◌, Bool, true, List, [], ◌∷◌, ◌++◌, reverse, ◌⊎◌, inl, inr, sym, ◌∙◌, subst}
use Rattle.std.proofs.lemmas.Bool.{both_ways, cases_Bool}
use Rattle.std.proofs.lemmas.List.{reverse-append}
use Rattle.ecf_verdicts.specs.ListLemmas.{Has}

-- two tests that hold in the same cases
pub same_test : (a b : Bool) → (a ≡ true → b ≡ true) → (b ≡ true → a ≡ true) → a ≡ b
same_test a b f g = elim (cases_Bool a) [
  | inl x ↦ x ∙ sym (f x)
  | inr x ↦ elim (cases_Bool b) [ inl y ↦ absurd (both_ways a x (g y)) | inr y ↦ x ∙ sym y ]
]

pub Has_snoc : {X : Type 0} (P : X → Type 0) (xs : List X) (y : X) → Has P (xs ++ y ∷ []) → Has P xs ⊎ P y
Has_snoc P [] y (inl h) = inr h
Has_snoc P [] y (inr h) = absurd h
Has_snoc P (x ∷ xs) y (inl h) = inl (inl h)
Has_snoc P (x ∷ xs) y (inr h) = elim (Has_snoc P xs y h) [ inl a ↦ inl (inr a) | inr b ↦ inr b ]

pub Has_front : {X : Type 0} (P : X → Type 0) (xs : List X) (y : X) → Has P xs → Has P (xs ++ y ∷ [])
Has_front P [] y h = absurd h
Has_front P (x ∷ xs) y (inl h) = inl h
Has_front P (x ∷ xs) y (inr h) = inr (Has_front P xs y h)

pub Has_last : {X : Type 0} (P : X → Type 0) (xs : List X) (y : X) → P y → Has P (xs ++ y ∷ [])
Has_last P [] y h = inl h
Has_last P (x ∷ xs) y h = inr (Has_last P xs y h)

pub reverse_cons : {X : Type 0} (x : X) (xs : List X) → reverse (x ∷ xs) ≡ reverse xs ++ x ∷ []
reverse_cons x xs = reverse-append (x ∷ []) xs

pub Has_reverse : {X : Type 0} (P : X → Type 0) (xs : List X) → Has P xs → Has P (reverse xs)
Has_reverse P [] h = h
Has_reverse P (x ∷ xs) (inl h) = subst (λ l. Has P l) (sym (reverse_cons x xs)) (Has_last P (reverse xs) x h)
Has_reverse P (x ∷ xs) (inr h) = subst (λ l. Has P l) (sym (reverse_cons x xs)) (Has_front P (reverse xs) x (Has_reverse P xs h))

pub Has_from_reverse : {X : Type 0} (P : X → Type 0) (xs : List X) → Has P (reverse xs) → Has P xs
Has_from_reverse P [] h = h
Has_from_reverse P (x ∷ xs) h = elim (Has_snoc P (reverse xs) x (subst (λ l. Has P l) (reverse_cons x xs) h)) [ inl a ↦ inr (Has_from_reverse P xs a) | inr b ↦ inl b ]
