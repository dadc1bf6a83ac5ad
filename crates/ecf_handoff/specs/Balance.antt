-- The rule of the queue, which holds between any two steps of any threads: what was handed in is, in order, what was taken and what the queue holds.
use Rattle.std.specs.Prelude.{◌≡◌, ℕ, ◌+◌, List, [], ◌∷◌, ◌++◌, All, IsPermutation}
use mathlib.Core.Option.{some}
use lib.ListN.{get_elem?}
use Rattle.crossbeam_queue.specs.Fifo.{Held}
use Rattle.ecf_handoff.specs.declared.account.Account.{Account}
use Rattle.ecf_handoff.specs.declared.limits.TheConstants.{PLACES, WHOLE_SHARE}
use Rattle.ecf_handoff.specs.Accounts.{handed_of, taken_of}
use Rattle.ecf_handoff.specs.Content.{with_places, IsContent}

module _ {T : Type 0} where
  -- the shares of all passes together
  abbrev pub total_share : List (Account T) → ℕ
  total_share [] = 0
  total_share (a ∷ rest) = a.share + total_share rest

  -- a list of each pass, one behind the other
  abbrev pub every : {X : Type 0} → (Account T → List X) → List (Account T) → List X
  every list_of [] = []
  every list_of (a ∷ rest) = list_of a ++ every list_of rest

  module _ (fits : T → Type 0) where
    -- the shares are one whole, all that was handed in has its place, the first of these were taken and the others are in the queue, a pass with no share did neither, and all in the queue fit
    pub record IsBalanced (items : List T) (accounts : List (Account T)) : Type 0 where
      pub whole : total_share accounts ≡ WHOLE_SHARE
      pub gone : List T
      pub handed : IsPermutation (every handed_of accounts) (with_places (gone ++ items))
      pub taken : IsPermutation (every taken_of accounts) (with_places gone)
      pub idle : (j : ℕ) (a : Account T) → get_elem? accounts j ≡ some a → a.share ≡ 0 → (a.handed ≡ []) × (a.taken ≡ [])
      pub fit : All fits items

    -- what a pass knows of the items in the queue: they fit, and where it has the whole share, they are what it handed in and didn't take, in order
    abbrev pub Knows : Account T → List T → Type 0
    Knows a items = All fits items × (a.share ≡ WHOLE_SHARE → IsContent a items)

    -- at a moment of the call all places were taken
    abbrev pub WasFull : Account T → Type 0
    WasFull a = Held PLACES (Knows a)

    -- at a moment of the call the queue held nothing
    abbrev pub WasEmpty : Account T → Type 0
    WasEmpty a = Held 0 (Knows a)
