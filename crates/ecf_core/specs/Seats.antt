-- What a seat at a shared book knows of the book's history.
use Rattle.std.specs.Prelude.{◌≡◌, ◌≢◌, ◌≤◌, ℕ, nat_lt, if◌then◌else◌, List, [], ◌++◌, length, slice_get, Some, All, AllPairs, ◌⊎◌}
use Rattle.std.specs.List.{enumerate_from}
use Rattle.ecf_lang.specs.Store.{Cells}
use Rattle.ecf_core.specs.declared.book.LogEntry.{LogEntry}
use Rattle.ecf_core.specs.declared.event.Reply.{Reply}
use Rattle.ecf_core.specs.Book.{Opening, Book, after}
use Rattle.ecf_core.specs.Calls.{Answer, claim, commit, commit_here, release}

-- the first part of the history that it has seen, and the entries of its own calls, each with its place in the history
pub record Seat : Type 0 where
  pub seen : List LogEntry
  pub mine : List (ℕ × LogEntry)

-- its own entries stand in what it has seen, at their places, which all differ
pub record IsSeat (seat : Seat) : Type 0 where
  pub own : All (λ m. slice_get seat.seen m.0 ≡ Some m.1) seat.mine
  pub differ : AllPairs (λ m n. m.0 ≢ n.0) seat.mine

-- no own entry of the one stands at the place of an own entry of the other
abbrev pub ShareNoEntry : Seat → Seat → Type 0
ShareNoEntry a b = All (λ m. All (λ n. m.0 ≢ n.0) b.mine) a.mine

-- a list begins with another
abbrev pub BeginsWith : List LogEntry → List LogEntry → Type 0
BeginsWith whole first = (rest : List LogEntry) × (whole ≡ first ++ rest)

-- a seat before a call and later: the call was made after a history that begins with what the seat had seen
pub record HasCalled (o : Opening) (call : Book → Answer) (reply : Reply) (before later : Seat) : Type 0 where
  pub history : List LogEntry
  pub begins : BeginsWith history before.seen
  pub said : (call (after o history)).reply ≡ reply
  pub seen : later.seen ≡ history ++ (call (after o history)).entries
  pub mine : later.mine ≡ before.mine ++ enumerate_from (length history) (call (after o history)).entries

-- a seat made two: both have seen the same, and the first keeps the own entries
abbrev pub split_seat : Seat → Seat × Seat
split_seat seat = (seat, record { seen = seat.seen; mine = [] })

-- two seats made one: the longer of what they have seen, the first's if both are of one length, and the own entries of both
abbrev pub join_seats : Seat → Seat → Seat
join_seats a b = record { seen = if nat_lt (length a.seen) (length b.seen) then b.seen else a.seen; mine = a.mine ++ b.mine }

-- a call that adds at most one entry
abbrev pub AddsOneAtMost : (Book → Answer) → Type 0
AddsOneAtMost call = (b : Book) → length (call b).entries ≤ 1

-- the four calls that a seat makes are such
pub record CallsAddOne (o : Opening) : Type 0 where
  pub claims : AddsOneAtMost (claim o)
  pub commits : (r ticket : ℕ) (reads : Cells) → AddsOneAtMost (λ b. commit b r ticket reads)
  pub runs_here : (r ticket : ℕ) → AddsOneAtMost (λ b. commit_here b r ticket)
  pub releases : (r ticket : ℕ) → AddsOneAtMost (λ b. release b r ticket)

-- each call of a seat adds at most one entry
abbrev pub EachCallAddsOne : Type 0
EachCallAddsOne = (o : Opening) → CallsAddOne o

-- a call leaves a seat a seat, whatever others did between
abbrev pub CallKeepsSeat : Type 0
CallKeepsSeat = (o : Opening) (call : Book → Answer) (reply : Reply) (before later : Seat) →
    AddsOneAtMost call → HasCalled o call reply before later → IsSeat before → IsSeat later

-- a call leaves a seat that shares no entry with another one so
abbrev pub CallKeepsUnshared : Type 0
CallKeepsUnshared = (o : Opening) (call : Book → Answer) (reply : Reply) (before later other : Seat) (called : HasCalled o call reply before later) →
    IsSeat other → BeginsWith called.history other.seen → ShareNoEntry before other → ShareNoEntry later other

-- a split gives two seats that share no entry
abbrev pub SplitKeepsSeats : Type 0
SplitKeepsSeats = (seat : Seat) → IsSeat seat → let parts = split_seat seat in IsSeat parts.0 × IsSeat parts.1 × ShareNoEntry parts.0 parts.1

-- what one seat has seen begins with what the other has: both are seats of one history
abbrev pub SeeOneHistory : Seat → Seat → Type 0
SeeOneHistory a b = BeginsWith a.seen b.seen ⊎ BeginsWith b.seen a.seen

-- the joined seat is one, has the own entries of both, and has seen what both have
pub record IsJoined (a b joined : Seat) : Type 0 where
  pub seat : IsSeat joined
  pub mine : joined.mine ≡ a.mine ++ b.mine
  pub first : BeginsWith joined.seen a.seen
  pub second : BeginsWith joined.seen b.seen
  pub no_more : (joined.seen ≡ a.seen) ⊎ (joined.seen ≡ b.seen)

-- a join of two seats that share no entry gives such a seat
abbrev pub JoinKeepsSeats : Type 0
JoinKeepsSeats = (a b : Seat) → IsSeat a → IsSeat b → ShareNoEntry a b → SeeOneHistory a b → IsJoined a b (join_seats a b)

-- it shares no entry with a third with which neither did
abbrev pub JoinKeepsUnshared : Type 0
JoinKeepsUnshared = (a b other : Seat) → ShareNoEntry a other → ShareNoEntry b other → ShareNoEntry (join_seats a b) other

-- sharing no entry holds both ways
abbrev pub UnsharedBothWays : Type 0
UnsharedBothWays = (a b : Seat) → ShareNoEntry a b → ShareNoEntry b a
