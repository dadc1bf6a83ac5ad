-- Where one of two lists is over, no argument is left to write.
use Rattle.std.proofs.Common.{◌≡◌, ℕ, List, [], ◌∷◌, ◌++◌, ◌⊎◌, ⊎_elim, refl, ap, ◌∙◌, sym, append-nil}
use Rattle.ecf_lang.specs.declared.tree.Ty.{Ty}
use Rattle.ecf_lang.specs.declared.typed.Typed.{Typed}
use Rattle.ecf_texts.specs.Words.{arguments_text}

no_arguments : (typed : Typed) (params : List Ty) → arguments_text typed params [] ≡ []
no_arguments typed [] = refl
no_arguments typed (p ∷ ps) = refl

pub all_written : (typed : Typed) (params : List Ty) (args text whole : List ℕ) → (params ≡ []) ⊎ (args ≡ []) → text ++ arguments_text typed params args ≡ whole → text ≡ whole
all_written typed params args text whole over rest =
    ⊎_elim
    (λ e. sym (append-nil text) ∙ sym (ap (λ ps. text ++ arguments_text typed ps args) e) ∙ rest)
    (λ e. sym (append-nil text) ∙ sym (ap (λ t. text ++ t) (no_arguments typed params)) ∙ sym (ap (λ as_. text ++ arguments_text typed params as_) e) ∙ rest)
    over
