-- Where events or replies are over, no line is left to write.
use Rattle.std.proofs.Common.{◌≡◌, ℕ, List, [], ◌∷◌, ◌++◌, ◌⊎◌, ⊎_elim, refl, ap, ◌∙◌, sym, append-nil}
use Rattle.ecf_core.specs.declared.event.Event.{Event}
use Rattle.ecf_core.specs.declared.event.Reply.{Reply}
use Rattle.ecf_lang.specs.declared.typed.Typed.{Typed}
use Rattle.ecf_schedule_text.specs.declared.names.RowName.{RowName}
use Rattle.ecf_schedule_text.specs.Lines.{lines_by_names}

no_replies : (typed : Typed) (names : List RowName) (events : List Event) → lines_by_names typed names events [] ≡ []
no_replies typed names [] = refl
no_replies typed names (e ∷ es) = refl

pub all_written : (typed : Typed) (names : List RowName) (events : List Event) (replies : List Reply) (text whole : List ℕ) → (events ≡ []) ⊎ (replies ≡ []) → text ++ lines_by_names typed names events replies ≡ whole → text ≡ whole
all_written typed names events replies text whole over rest =
    ⊎_elim
    (λ e. sym (append-nil text) ∙ sym (ap (λ es. text ++ lines_by_names typed names es replies) e) ∙ rest)
    (λ e. sym (append-nil text) ∙ sym (ap (λ t. text ++ t) (no_replies typed names events)) ∙ sym (ap (λ rs. text ++ lines_by_names typed names events rs) e) ∙ rest)
    over
