-- Histories that grow, and the entries of one caller in them, each with its place.
use Rattle.std.specs.Prelude.{◌≡◌, ◌≢◌, ◌⊎◌, ℕ, List, [], ◌∷◌, ◌++◌, length, slice_get, if◌then◌else◌, nat_lt, Some, All}

module _ {E : Type 0} where
  -- the longer of two lists, the first if they are of one length
  abbrev pub longer_of : List E → List E → List E
  longer_of xs ys = if nat_lt (length xs) (length ys) then ys else xs

  -- the history is as it was, or has one entry more at its end
  abbrev pub GrowsByAtMostOne : List E → List E → Type 0
  GrowsByAtMostOne before after = (after ≡ before) ⊎ ((e : E) × (after ≡ before ++ e ∷ []))

  -- the same, and that entry, if there is one, is added to the caller's own at its place
  abbrev pub AddsOwn : List E → List (ℕ × E) → List E → List (ℕ × E) → Type 0
  AddsOwn before own after own' = ((after ≡ before) × (own' ≡ own)) ⊎ ((e : E) × (after ≡ before ++ e ∷ []) × (own' ≡ own ++ (length before, e) ∷ []))

  -- each of these entries stands in the history at its place
  abbrev pub StandIn : List E → List (ℕ × E) → Type 0
  StandIn history own = All (λ p. slice_get history p.0 ≡ Some p.1) own

  -- no two of these entries have one place
  abbrev pub AreApart : List (ℕ × E) → Type 0
  AreApart [] = Unit {0}
  AreApart (p ∷ ps) = All (λ q. p.0 ≢ q.0) ps × AreApart ps
