-- The words of a line as the code holds them, and the values that are read from them.
use Rattle.std.proofs.Common.{◌≡◌, ℕ, Bool, List, [], ◌∷◌, ◌++◌, ◌||◌, Option, Some, None, map, refl, ap, sym, Bor, append_assoc}
use Rattle.std.specs.List.{list_any}
use Rattle.std.specs.Option.{option_map}
use Rattle.ecf_lang.specs.declared.tree.Ty.{Ty}
use Rattle.ecf_lang.specs.declared.typed.Typed.{Typed}
use Rattle.ecf_lines.specs.Line.{value_of, values_of}

-- words without their references
abbrev pub seen : List (Bor (List ℕ)) → List (List ℕ)
seen ws = map (λ word. word.now) ws

pub list_any-seen : (p : List ℕ → Bool) (ws : List (Bor (List ℕ))) → list_any p (seen ws) ≡ list_any (λ word. p word.now) ws
list_any-seen p [] = refl
list_any-seen p (w ∷ ws) = ap (λ b. p w.now || b) (list_any-seen p ws)

-- a value that goes in front of later values goes behind earlier ones
moved : (before : List ℕ) (value : ℕ) (later : Option (List ℕ)) → option_map (λ more. before ++ more) (option_map (λ values. value ∷ values) later) ≡ option_map (λ more. (before ++ value ∷ []) ++ more) later
moved before value None = refl
moved before value (Some values) = ap Some (sym (append_assoc before (value ∷ []) values))

pub next_value : (typed : Typed) (ty : Ty) (params : List Ty) (word : List ℕ) (words : List (List ℕ)) (value : ℕ) (before : List ℕ) → Some value ≡ value_of typed ty word → option_map (λ more. before ++ more) (values_of typed (ty ∷ params) (word ∷ words)) ≡ option_map (λ more. (before ++ value ∷ []) ++ more) (values_of typed params words)
next_value typed ty params word words value before e = rw (← e) (moved before value (values_of typed params words))
