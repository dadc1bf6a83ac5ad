-- What the queue holds, and which item a call hands in or takes.
use Rattle.std.specs.Prelude.{◌≡◌, ℕ, ◌<◌, List, ◌∷◌, ◌++◌, All, IsPermutation}
use Rattle.std.specs.List.{enumerate_from}
use Rattle.ecf_handoff.specs.declared.account.Account.{Account}
use Rattle.ecf_handoff.specs.declared.limits.TheConstants.{WHOLE_SHARE}
use Rattle.ecf_handoff.specs.Accounts.{with_handed, with_taken}

module _ {T : Type 0} where
  -- each item of a list with its place, from 0 on
  abbrev pub with_places : List T → List (ℕ × T)
  with_places items = enumerate_from 0 items

  -- the queue holds these items, front first, if no other pass handed in or took any: what was handed in is, in order, what was taken and these
  pub record IsContent (a : Account T) (items : List T) : Type 0 where
    pub gone : List T
    pub handed : IsPermutation a.handed (with_places (gone ++ items))
    pub taken : IsPermutation a.taken (with_places gone)

  -- the item was handed in behind all that the pass had handed in or taken
  pub record HasHanded (old : Account T) (item : T) (new : Account T) : Type 0 where
    pub place : ℕ
    pub behind_handed : All (λ e. e.0 < place) old.handed
    pub behind_taken : All (λ e. e.0 < place) old.taken
    pub is : new ≡ with_handed old place item

  -- the item had its place behind all that the pass had taken; the pass with the whole share took it from the front of what the queue held
  pub record HasTaken (old : Account T) (item : T) (new : Account T) : Type 0 where
    pub place : ℕ
    pub behind_taken : All (λ e. e.0 < place) old.taken
    pub front : old.share ≡ WHOLE_SHARE → (rest : List T) × IsContent old (item ∷ rest)
    pub is : new ≡ with_taken old place item
