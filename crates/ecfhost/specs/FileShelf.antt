-- What a shelf of files answers about a file, and what it counts.
use Rattle.std.specs.Prelude.{◌≡◌, ℕ, ◌≤◌, ◌+◌, List, length, Option, Result, Ok, Err, Vec}
use Rattle.std.specs.IoError.{error_kind}
use Rattle.std.specs.declared.alloc.Global.{Global}
use Rattle.std.specs.declared.io.Error.{Error}
use Rattle.std.specs.declared.io.ErrorKind.{ErrorKind}
use Rattle.std.specs.declared.io.ErrorKind.TheVariants.{NotFound, OutOfMemory}
use Rattle.ecf_edge.specs.Shelf.{faults_after_fetch, long_answers_after_fetch, absences_after_fetch}
use Rattle.ecf_edge.specs.Source.{Gave, GaveSome, IsAtEnd}
use Rattle.ecf_edge.specs.declared.source.Source.{Ghosts as SourceGhosts}
use Rattle.ecf_edge.specs.declared.shelf.Fetch.{Fetch}
use Rattle.ecf_edge.specs.declared.shelf.Fetch.TheVariants.{Failed, Missing, TooLong, NoMemory}

-- how often a shelf gave each answer that is counted
pub record ShelfCounts : Type 0 where
  pub faults : ℕ
  pub long_answers : ℕ
  pub absences : ℕ

-- before the first fetch
abbrev pub no_counts : ShelfCounts
no_counts = record { faults = 0; long_answers = 0; absences = 0 }

-- after an answer: its own count goes up, and no other
abbrev pub counts_after : {T : Type 0} → ShelfCounts → Result T Fetch → ShelfCounts
counts_after counts answer = record {
  faults = faults_after_fetch counts.faults answer;
  long_answers = long_answers_after_fetch counts.long_answers answer;
  absences = absences_after_fetch counts.absences answer;
}

-- the answer about a file that can't be opened, by the kind of the system's error
abbrev pub fault_of_kind : ErrorKind → Fetch
fault_of_kind NotFound = Missing
fault_of_kind OutOfMemory = NoMemory
fault_of_kind _ = Failed

-- what was read of a source, by the answer, from what it had left before and has now: all of it, one byte more than was
-- wanted, or some part of it
abbrev pub HasRead : Result (Vec ℕ Global) Fetch → ℕ → Option (List ℕ) → Option (List ℕ) → Type 0
HasRead (Ok bytes) most before after = Gave before bytes.items after × IsAtEnd after × (length bytes.items ≤ most)
HasRead (Err TooLong) most before after = (piece : List ℕ) × Gave before piece after × (length piece ≡ most + 1)
HasRead (Err Failed) most before after = GaveSome before after
HasRead (Err NoMemory) most before after = GaveSome before after
HasRead (Err Missing) most before after = ⊥

-- reading a source whole, where it has at most so many bytes, gave this answer, and a read failed just where it says so
pub record IsContentOf {S : Type 0} (told : SourceGhosts S) (before after : S) (most : ℕ) (answer : Result (Vec ℕ Global) Fetch) : Type 0 where
  pub has_read : HasRead answer most (told.left before) (told.left after)
  pub counted : told.faults after ≡ faults_after_fetch (told.faults before) answer

-- what is answered where this came of opening a file: what reading it gave, or why it can't be opened
abbrev pub IsAnswerTo : {S : Type 0} → SourceGhosts S → Result S Error → ℕ → Result (Vec ℕ Global) Fetch → Type 0
IsAnswerTo {S} told (Ok source) most answer = (after : S) × IsContentOf told source after most answer
IsAnswerTo told (Err error) most answer = answer ≡ Err (fault_of_kind (error_kind error))

-- of what may come of one opening, this is answered
abbrev pub IsOneFetch : {S : Type 0} → SourceGhosts S → (Result S Error → Type 0) → ℕ → Result (Vec ℕ Global) Fetch → Type 0
IsOneFetch {S} told may_open most answer = (opened : Result S Error) × may_open opened × IsAnswerTo told opened most answer

-- a shelf of files: what opens them, and its counts
pub record OpeningShelf (O : Type 0) : Type 0 where
  pub opener : O
  pub counts : ShelfCounts

-- before the first fetch
abbrev pub fresh_shelf : {O : Type 0} → O → OpeningShelf O
fresh_shelf opener = record { opener = opener; counts = no_counts }
