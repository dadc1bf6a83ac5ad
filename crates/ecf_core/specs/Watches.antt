-- Watches: what they are shown of a transaction, how they vote on it, and what they tell.
use Rattle.std.specs.Prelude.{◌≡◌, ◌≤◌, length, map, All, ℕ, zero, suc, ◌==◌, Bool, true, false, not, if◌then◌else◌, List, [], ◌∷◌, ◌++◌, Option, Some, None, slice_get, codes, decimal}
use Rattle.std.specs.List.{list_any}
use Rattle.ecf_lang.specs.declared.tx.Tx.{Tx}
use Rattle.ecf_lang.specs.declared.tx.TxCall.{TxCall}
use Rattle.ecf_lang.specs.Store.{Cells}
use Rattle.ecf_core.specs.declared.watch.WatchSpec.{WatchSpec}
use Rattle.ecf_core.specs.declared.watch.WatchSpec.TheVariants.{Cap, Freeze}

-- a watch: what it looks for, and how much of it there was
pub record Watch : Type 0 where
  pub spec : WatchSpec
  pub count : ℕ

-- watches in their order; the place of one that was taken out stays empty
abbrev pub Watches : Type 0
Watches = List (Option Watch)

-- what a watch is shown of a transaction that is to be committed
pub record Shown : Type 0 where
  pub tx : Tx
  pub answer : ℕ
  pub fuel : ℕ
  pub writes : Cells

-- one of the transaction's own calls is of the object
abbrev pub calls_object : Tx → ℕ → Bool
calls_object tx object = list_any (λ (call : TxCall). call.object == object) tx.calls

-- one of the cells is the object's
abbrev pub writes_object : Cells → ℕ → Bool
writes_object writes object = list_any (λ w. w.0.object == object) writes

-- a vote, and the watch's next count
pub record Vote : Type 0 where
  pub agrees : Bool
  pub count : ℕ

-- a yes, or a no, with the count after it
abbrev pub vote : Bool → ℕ → Vote
vote agrees count = record { agrees = agrees; count = count }

-- How a watch votes on what it is shown, and its next count.
-- A cap counts each yes on a transaction that calls the object, a freeze each yes until it has counted enough.
unfoldable pub turn : WatchSpec → ℕ → Shown → Vote
turn (Cap object most) count shown =
    if not (calls_object shown.tx object) then vote true count else (if count == most then vote false count else vote true (suc count))
turn (Freeze object last) count shown =
    if count == last then vote (not (writes_object shown.writes object)) count else vote true (suc count)

-- the most that a watch counts
abbrev pub most_of : WatchSpec → ℕ
most_of (Cap object most) = most
most_of (Freeze object last) = last

-- a count stays within that
abbrev pub CountsStayWithin : Type 0
CountsStayWithin = (spec : WatchSpec) (count : ℕ) (shown : Shown) → count ≤ most_of spec → (turn spec count shown).count ≤ most_of spec

-- the place of the first watch that voted no, if one did, and the watches after the votes
pub record Votes : Type 0 where
  pub no : Option ℕ
  pub watches : Watches

-- the votes with a watch, or an empty place, before them
abbrev pub with_watch : Option Watch → Votes → Votes
with_watch w votes = record { no = votes.no; watches = w ∷ votes.watches }

-- the votes of the watches in their order, up to the first no: the watches after it aren't asked; places count from a number
unfoldable pub show_all : Shown → ℕ → Watches → Votes
show_all shown place [] = record { no = None; watches = [] }
show_all shown place (None ∷ ws) = with_watch None (show_all shown (suc place) ws)
show_all shown place (Some w ∷ ws) =
    let voted = turn w.spec w.count shown in
    let now : Watch = record { spec = w.spec; count = voted.count } in
    if voted.agrees then with_watch (Some now) (show_all shown (suc place) ws) else record { no = Some place; watches = Some now ∷ ws }

-- how a watch votes; an empty place is no hindrance
abbrev pub votes_yes : Shown → Option Watch → Bool
votes_yes shown None = true
votes_yes shown (Some w) = (turn w.spec w.count shown).agrees

-- a watch after its vote
abbrev pub after_vote : Shown → Option Watch → Option Watch
after_vote shown None = None
after_vote shown (Some w) = Some (record { spec = w.spec; count = (turn w.spec w.count shown).count })

-- all watches vote yes, and all are left after their votes
pub record AllYes (shown : Shown) (ws left : Watches) : Type 0 where
  pub yes : All (λ w. votes_yes shown w ≡ true) ws
  pub leaves : left ≡ map (after_vote shown) ws

-- the watch at a place is the first that votes no: those before it and it are left after their votes, the others as they were
pub record FirstNo (shown : Shown) (ws : Watches) (place : ℕ) (left : Watches) : Type 0 where
  pub before : Watches
  pub one : Option Watch
  pub later : Watches
  pub parts : ws ≡ before ++ one ∷ later
  pub place_is : place ≡ length before
  pub yes : All (λ w. votes_yes shown w ≡ true) before
  pub no : votes_yes shown one ≡ false
  pub leaves : left ≡ map (after_vote shown) before ++ after_vote shown one ∷ later

-- no place is named where all watches vote yes, and else the first that votes no
pub record VotesGo (shown : Shown) (ws : Watches) (votes : Votes) : Type 0 where
  pub none : votes.no ≡ None → AllYes shown ws votes.watches
  pub first : (place : ℕ) → votes.no ≡ Some place → FirstNo shown ws place votes.watches

-- so the votes go
abbrev pub FirstNoIsNamed : Type 0
FirstNoIsNamed = (shown : Shown) (ws : Watches) → VotesGo shown ws (show_all shown 0 ws)

-- the watches without the one at a place
abbrev pub without_watch : ℕ → Watches → Watches
without_watch k [] = []
without_watch zero (w ∷ ws) = None ∷ ws
without_watch (suc k) (w ∷ ws) = w ∷ without_watch k ws

-- what a watch tells: its kind, its numbers and its count
abbrev pub told : WatchSpec → ℕ → List ℕ
told (Cap object most) count = codes "cap " ++ decimal object ++ codes " " ++ decimal most ++ codes " at " ++ decimal count
told (Freeze object last) count = codes "freeze " ++ decimal object ++ codes " " ++ decimal last ++ codes " at " ++ decimal count

-- what is told of a place: what its watch tells, or that none is in
abbrev pub told_of : Option (Option Watch) → List ℕ
told_of None = codes "none"
told_of (Some None) = codes "none"
told_of (Some (Some w)) = told w.spec w.count

-- what is told of the watch at a place
abbrev pub told_at : Watches → ℕ → List ℕ
told_at ws k = told_of (slice_get ws k)
