-- What each status says: which answer was due, and how far it was written.
use Rattle.std.specs.Prelude.{◌≡◌, ◌⊎◌, ℕ, ◌≤◌, List, [], Option, Some, None, Ok}
use Rattle.ecf_edge.specs.Count.{Rose, counted_up}
use Rattle.ecf_edge.specs.Sink.{Grew, GrewByPrefix}
use Rattle.ecf_edge.specs.Source.{IsAtEnd}
use Rattle.ecf_lang.specs.declared.typed.Typed.{Typed}
use Rattle.ecf_host.specs.Answers.{Answer}
use Rattle.ecf_host.specs.Contract.{fetched, contract}
use Rattle.ecf_host.specs.Due.{IsDue, IsUncounted, IsSmooth}
use Rattle.ecf_host.specs.Rounds.{IsCut, IsBegunOf}
use Rattle.ecf_host.specs.Words.{Command}
use Rattle.ecf_host.specs.World.{Inputs, SinkState, World}

-- an answer was written whole
pub record IsWritten (before after : World) (answer : Answer) : Type 0 where
  pub out : Grew before.out.held answer.out after.out.held
  pub note : Grew before.note.held answer.note after.note.held

-- a first part of an answer was written
pub record IsBegun (before after : World) (answer : Answer) : Type 0 where
  pub out : GrewByPrefix before.out.held answer.out after.out.held
  pub note : GrewByPrefix before.note.held answer.note after.note.held

-- no write failed
pub record NoWriteFailed (before after : World) : Type 0 where
  pub out : after.out.faults ≡ before.out.faults
  pub note : after.note.faults ≡ before.note.faults

-- status up to 4: an answer that is due, with this status, was written whole
pub record IsAnswered (command : Option Command) (before after : World) (status : ℕ) : Type 0 where
  pub answer : Answer
  pub due : IsDue command before.inputs after.inputs answer
  pub status_is : status ≡ answer.status
  pub written : IsWritten before after answer
  pub no_write_failed : NoWriteFailed before after

-- what a command that did all its work has read
abbrev pub HasRead : Option Command → Inputs → Type 0
HasRead (Some (Command.Run file)) after = IsAtEnd after.source.left
HasRead (Some (Command.Show file)) after = Unit {0}
HasRead None after = ⊥

-- status 0: all was read, and nothing failed
pub record IsDone (command : Option Command) (before after : World) : Type 0 where
  pub has_read : HasRead command after.inputs
  pub no_fetch_failed : after.inputs.shelf ≡ before.inputs.shelf
  pub no_read_failed : after.inputs.source.faults ≡ before.inputs.source.faults
  pub no_write_failed : NoWriteFailed before after

-- a write of a text that was due failed, behind a first part of it; on the other sink nothing was due, and it is as it was
pub record IsFailed (sink sink' other other' : SinkState) (text elsewhere : List ℕ) : Type 0 where
  pub counted : sink'.faults ≡ counted_up sink.faults
  pub part : GrewByPrefix sink.held text sink'.held
  pub nothing_due : elsewhere ≡ []
  pub other_stands : other' ≡ other

-- a write of the note that is due failed
pub record IsNoteCut (command : Option Command) (before after : World) : Type 0 where
  pub answer : Answer
  pub due : IsDue command before.inputs after.inputs answer
  pub failed : IsFailed before.note after.note before.out after.out answer.note answer.out

-- a write of the text that is due failed
pub record IsTextCut (command : Option Command) (before after : World) : Type 0 where
  pub answer : Answer
  pub due : IsDue command before.inputs after.inputs answer
  pub failed : IsFailed before.out after.out before.note after.note answer.out answer.note

-- the contract in a file was fetched and accepted, and nothing else was fetched
pub record IsAccepted (file : List ℕ) (before after : Inputs) (typed : Typed) : Type 0 where
  pub text : List ℕ
  pub fetch : fetched before.shelf after.shelf file (Ok text)
  pub is : contract text (Ok typed)
  pub shelf : after.shelf ≡ before.shelf

-- a write of the journal failed: among the rounds, or in its head or its tail
pub record IsJournalCut (file : List ℕ) (before after : World) : Type 0 where
  pub typed : Typed
  pub accepted : IsAccepted file before.inputs after.inputs typed
  pub cut : IsCut typed before.inputs.source after.inputs.source before.out.held after.out.held
  pub counted : after.out.faults ≡ counted_up before.out.faults
  pub note : after.note ≡ before.note

-- status 5: a write failed, on out or on note, behind a first part of what was to be written
abbrev pub IsWriteFault : Option Command → World → World → Type 0
IsWriteFault (Some (Command.Run file)) before after = IsNoteCut (Some (Command.Run file)) before after ⊎ IsJournalCut file before after
IsWriteFault (Some (Command.Show file)) before after = IsNoteCut (Some (Command.Show file)) before after ⊎ IsTextCut (Some (Command.Show file)) before after
IsWriteFault None before after = IsNoteCut None before after

-- nothing was written, and nothing that was fetched or read counted
pub record IsSilent (before after : World) : Type 0 where
  pub out : after.out ≡ before.out
  pub note : after.note ≡ before.note
  pub uncounted : IsUncounted before.inputs after.inputs

-- an answer that is due was begun
pub record IsDueBegun (command : Option Command) (before after : World) : Type 0 where
  pub answer : Answer
  pub due : IsDue command before.inputs after.inputs answer
  pub begun : IsBegun before after answer

-- the journal of whole rounds was begun, behind which more may have been read
pub record IsJournalBegun (file : List ℕ) (before after : World) : Type 0 where
  pub typed : Typed
  pub accepted : IsAccepted file before.inputs after.inputs typed
  pub begun : IsBegunOf typed before.inputs.source after.inputs.source before.out.held after.out.held
  pub note : after.note ≡ before.note

-- memory ran out among the rounds, of which `run` alone has some
abbrev pub IsAmongRounds : Option Command → World → World → Type 0
IsAmongRounds (Some (Command.Run file)) before after = IsJournalBegun file before after
IsAmongRounds other before after = ⊥

-- status 6: no write failed, and an answer that is due was begun, or the journal of some rounds, or nothing was told
pub record IsOutOfMemory (command : Option Command) (before after : World) : Type 0 where
  pub no_write_failed : NoWriteFailed before after
  pub written : IsDueBegun command before after ⊎ IsAmongRounds command before after ⊎ IsSilent before after

-- shelf and source tell what they have, and neither a fetch nor a read nor a write failed
pub record IsUndisturbed (before after : World) : Type 0 where
  pub inputs : IsSmooth before.inputs after.inputs
  pub out : ¬ Rose before.out.faults after.out.faults
  pub note : ¬ Rose before.note.faults after.note.faults

-- an answer was given: its status, and all its bytes
abbrev pub IsGiven : World → World → ℕ → Answer → Type 0
IsGiven before after status answer = (status ≡ answer.status) × IsWritten before after answer

-- what the status says of a command, of the world before it and of the world after it
pub record IsServed (command : Option Command) (before after : World) (status : ℕ) : Type 0 where
  pub statuses : status ≤ 6
  pub answered : status ≤ 4 → IsAnswered command before after status
  pub done : status ≡ 0 → IsDone command before after
  pub write_fault : status ≡ 5 → IsWriteFault command before after
  pub no_memory : status ≡ 6 → IsOutOfMemory command before after
  -- whichever answer is due, only want of memory keeps it from being given where nothing is disturbed
  pub complete : IsUndisturbed before after → (answer : Answer) → IsDue command before.inputs after.inputs answer →
      IsGiven before after status answer ⊎ (status ≡ 6)
