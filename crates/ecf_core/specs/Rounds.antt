-- What workers and monitors may add to a history in a round.
use Rattle.std.specs.Prelude.{◌≡◌, ◌≤◌, ℕ, List, [], ◌∷◌, ◌++◌, All, Any, ⊤}
use Rattle.ecf_lang.specs.declared.limits.TheConstants.{MAX_STALES}
use Rattle.ecf_core.specs.declared.book.LogEntry.{LogEntry}
use Rattle.ecf_core.specs.declared.book.LogWhat.{LogWhat}
use Rattle.ecf_core.specs.declared.book.LogWhat.TheVariants as log
use Rattle.ecf_core.specs.declared.event.Event.{Event}
use Rattle.ecf_core.specs.Book.{Opening, after}
use Rattle.ecf_core.specs.Core.{initial_core, entries_added}
use Rattle.ecf_core.specs.Legal.{IsHistory, IsHeld}

-- workers and monitors claim rows and place them; they give rows back, to be placed at the end, only where they may give up
abbrev pub MayAdd : Type 0 → LogWhat → Type 0
MayAdd may log.Claimed = ⊤
MayAdd may (log.Placed seq) = ⊤
MayAdd may (log.Stale cell was now) = ⊤
MayAdd may (log.LastStale cell was now) = ⊤
MayAdd may (log.Here seq) = ⊤
MayAdd may log.Freed = may
MayAdd may (log.Finished seq) = may
MayAdd may (log.Off k) = ⊥

-- the change is a last stale commit
abbrev pub IsLastStale : LogWhat → Type 0
IsLastStale log.Claimed = ⊥
IsLastStale (log.Placed seq) = ⊥
IsLastStale (log.Stale cell was now) = ⊥
IsLastStale (log.LastStale cell was now) = ⊤
IsLastStale (log.Here seq) = ⊥
IsLastStale log.Freed = ⊥
IsLastStale (log.Finished seq) = ⊥
IsLastStale (log.Off k) = ⊥

-- among the entries is the last stale commit of a row under a ticket
abbrev pub HasLastStale : List LogEntry → ℕ → ℕ → Type 0
HasLastStale entries r ticket = Any (λ (e : LogEntry). (e.row ≡ r) × (e.ticket ≡ ticket) × IsLastStale e.what) entries

-- a run on the present store is due only after the last stale commit of its row and ticket
abbrev pub IsDue : List LogEntry → LogEntry → LogWhat → Type 0
IsDue earlier e log.Claimed = ⊤
IsDue earlier e (log.Placed seq) = ⊤
IsDue earlier e (log.Stale cell was now) = ⊤
IsDue earlier e (log.LastStale cell was now) = ⊤
IsDue earlier e (log.Here seq) = HasLastStale earlier e.row e.ticket
IsDue earlier e log.Freed = ⊤
IsDue earlier e (log.Finished seq) = ⊤
IsDue earlier e (log.Off k) = ⊤

-- each of the further entries is due after those before it
abbrev pub AreDue : List LogEntry → List LogEntry → Type 0
AreDue earlier [] = ⊤
AreDue earlier (e ∷ es) = IsDue earlier e e.what × AreDue (earlier ++ e ∷ []) es

-- a history before a round and after it
pub record IsRound (may : Type 0) (before later : List LogEntry) : Type 0 where
  pub added : List LogEntry
  pub begins : later ≡ before ++ added
  pub allowed : All (λ (e : LogEntry). MayAdd may e.what) added
  pub due : AreDue before added

-- a round after a round is a round, where nothing may be given up
abbrev pub RoundsChain : Type 0
RoundsChain = (first second third : List LogEntry) → IsRound ⊥ first second → IsRound ⊥ second third → IsRound ⊥ first third

-- a row with as many stale commits under a ticket as there may be has the last one of them in the history
abbrev pub LastStaleIsLogged : Type 0
LastStaleIsLogged = (o : Opening) (es : List LogEntry) → IsHistory o es → (r ticket n : ℕ) →
    IsHeld (after o es) r ticket n → MAX_STALES ≤ n → HasLastStale es r ticket

-- whatever events come, a row is run on the present store only after its last stale commit
abbrev pub EventsAreDue : Type 0
EventsAreDue = (o : Opening) (es : List LogEntry) (events : List Event) → IsHistory o es →
    AreDue es (entries_added o (initial_core (after o es)) events)
