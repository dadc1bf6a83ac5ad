-- What a pass knows, and how its calls change it.
use Rattle.std.specs.Prelude.{ℕ, ◌+◌, ◌-◌, ◌/◌, List, [], ◌∷◌, ◌++◌, map}
use Rattle.ecf_handoff.specs.declared.account.Account.{Account}
use Rattle.ecf_handoff.specs.declared.limits.TheConstants.{WHOLE_SHARE}

module _ {T : Type 0} where
  -- this share, and these items handed in and taken, with their places
  abbrev pub account : ℕ → List (ℕ × T) → List (ℕ × T) → Account T
  account share handed taken = record { share = share; handed = handed; taken = taken }

  -- the first pass of a queue
  abbrev pub first_account : Account T
  first_account = account WHOLE_SHARE [] []

  -- what a pass keeps, of which another is made
  abbrev pub kept_account : Account T → Account T
  kept_account a = account (a.share - a.share / 2) a.handed a.taken

  -- what that other gets
  abbrev pub given_account : Account T → Account T
  given_account a = account (a.share / 2) [] []

  -- a pass that took in another
  abbrev pub united_account : Account T → Account T → Account T
  united_account a b = account (a.share + b.share) (a.handed ++ b.handed) (a.taken ++ b.taken)

  -- what is left of the other
  abbrev pub spent_account : Account T
  spent_account = account 0 [] []

  -- once this item was handed in at this place
  abbrev pub with_handed : Account T → ℕ → T → Account T
  with_handed a place item = account a.share (a.handed ++ (place, item) ∷ []) a.taken

  -- once this item, which has this place, was taken
  abbrev pub with_taken : Account T → ℕ → T → Account T
  with_taken a place item = account a.share a.handed (a.taken ++ (place, item) ∷ [])

  -- what its calls handed in
  abbrev pub handed_of : Account T → List (ℕ × T)
  handed_of a = a.handed

  -- what its calls took
  abbrev pub taken_of : Account T → List (ℕ × T)
  taken_of a = a.taken

  -- the items alone
  abbrev pub items_of : List (ℕ × T) → List T
  items_of entries = map (λ e. e.1) entries
