-- The answer that is due to a command, from the outside world before it and after it.
use Rattle.std.specs.Prelude.{◌≡◌, ◌⊎◌, ℕ, List, [], Option, Some, None, Result, Ok, Err}
use Rattle.ecf_edge.specs.Count.{Rose}
use Rattle.ecf_edge.specs.Shelf.{Files}
use Rattle.ecf_lang.specs.declared.receipt.Stop.{Stop}
use Rattle.ecf_lang.specs.declared.receipt.StopCause.{StopCause}
use Rattle.ecf_lang.specs.declared.receipt.StopCause.TheVariants.{Read}
use Rattle.ecf_lang.specs.declared.tree.Tree.{Tree}
use Rattle.ecf_lang.specs.declared.typed.Typed.{Typed}
use Rattle.ecf_lines.specs.Stream.{StreamSaid}
use Rattle.ecf_show.specs.Files.{tree_text}
use Rattle.ecf_verdicts.specs.Journals.{places}
use Rattle.ecf_host.specs.declared.refusal.Refusal.{Refusal}
use Rattle.ecf_host.specs.declared.refusal.Refusal.TheVariants.{Words}
use Rattle.ecf_host.specs.declared.failure.Failure.{Failure}
use Rattle.ecf_host.specs.declared.failure.Failure.TheVariants.{Refused, NoMemory}
use Rattle.ecf_host.specs.declared.failure.Report.{Report}
use Rattle.ecf_host.specs.Answers.{Answer, answer_of, answer_of_report}
use Rattle.ecf_host.specs.Contract.{fetched, spelled, contract}
use Rattle.ecf_journals.specs.Journals.{IsJournal, text_along}
use Rattle.ecf_host.specs.Stages.{Stage, ◌▷◌, of_shelf, computed, of_source, untouched, OneAtMost}
use Rattle.ecf_host.specs.Stream.{streamed}
use Rattle.ecf_host.specs.Words.{Command}
use Rattle.ecf_host.specs.World.{Inputs}

-- the status of a journal: 0 where the stream was read to its end, 4 where a read failed, and 3 for each other stop
abbrev pub status_of_cause : StopCause → ℕ
status_of_cause Read = 4
status_of_cause other = 3

abbrev pub status_of_stop : Option Stop → ℕ
status_of_stop None = 0
status_of_stop (Some stop) = status_of_cause stop.cause

-- the journal of what a stream says, with its status: its transactions run in their order, one after the other, and its stop
abbrev pub journal_answer : Typed → StreamSaid → Answer
journal_answer typed said = record {
  status = status_of_stop said.stop;
  out = text_along 2 typed said.txs (places said.txs) said.stop;
  note = [];
}

-- this answer is that journal; and in it each transaction stands once, and is vetoed exactly where it does harm
pub record IsRun (typed : Typed) (said : StreamSaid) (answer : Answer) : Type 0 where
  pub in_order : answer ≡ journal_answer typed said
  pub journal : IsJournal 2 typed said.txs said.stop answer.out

-- whatever a stream says has its journal
abbrev pub HasJournal : Type 0
HasJournal = (typed : Typed) (said : StreamSaid) → IsRun typed said (journal_answer typed said)

-- ran: what a stream says has its journal
abbrev pub ran : Typed → StreamSaid → Stage Answer
ran typed said (Ok answer) = IsRun typed said answer
ran typed said (Err refusal) = ⊥

-- `run FILE`: the contract is fetched and read, then the stream, and its transactions are run
abbrev pub due_of_run : List ℕ → Inputs → Inputs → Stage Answer
due_of_run file before after =
    of_shelf before after (fetched before.shelf after.shelf file) ▷ (λ text.
    computed before after (contract text) ▷ (λ typed.
    of_source before after (streamed typed before.source after.source) ▷
    ran typed))

-- the canonical text of a tree, with status 0
abbrev pub shown_answer : Tree → Answer
shown_answer tree = record { status = 0; out = tree_text tree; note = [] }

-- shown: a tree has its canonical text
abbrev pub shown : Tree → Stage Answer
shown tree (Ok answer) = answer ≡ shown_answer tree
shown tree (Err refusal) = ⊥

-- `show FILE`: the file is fetched and read as a tree, whose names and types aren't looked at; nothing is read from the source
abbrev pub due_of_show : List ℕ → Inputs → Inputs → Stage Answer
due_of_show file before after =
    of_shelf before after (fetched before.shelf after.shelf file) ▷ (λ text.
    untouched before after (spelled text ▷ shown))

-- words that are no command are refused, and neither shelf nor source is touched
abbrev pub refused_words : Stage Answer
refused_words (Ok answer) = ⊥
refused_words (Err refusal) = refusal ≡ Words

-- what may come of a command
abbrev pub due : Option Command → Inputs → Inputs → Stage Answer
due (Some (Command.Run file)) before after = due_of_run file before after
due (Some (Command.Show file)) before after = due_of_show file before after
due None before after = computed before after refused_words

-- this answer is due
pub record IsDue (command : Option Command) (before after : Inputs) (answer : Answer) : Type 0 where
  pub outcome : Result Answer Refusal
  pub comes : due command before after outcome
  pub is : answer ≡ answer_of outcome

-- nothing was counted: no fetch and no read went wrong
pub record IsUncounted (before after : Inputs) : Type 0 where
  pub shelf : after.shelf ≡ before.shelf
  pub faults : after.source.faults ≡ before.source.faults

-- some answer is due
abbrev pub IsSomeDue : Option Command → Inputs → Inputs → Type 0
IsSomeDue command before after = (outcome : Result Answer Refusal) × due command before after outcome

-- a command came to a report or a refusal that is due; where memory ran out, nothing was counted before, or some answer is due
abbrev pub Comes : Option Command → Inputs → Inputs → Result Report Failure → Type 0
Comes command before after (Ok report) = due command before after (Ok (answer_of_report report))
Comes command before after (Err (Refused refusal)) = due command before after (Err refusal)
Comes command before after (Err NoMemory) = IsUncounted before after ⊎ IsSomeDue command before after

-- shelf and source tell what they have, and neither a fetch nor a read failed
pub record IsSmooth (before after : Inputs) : Type 0 where
  pub files : Files
  pub files_told : before.shelf.files ≡ Some files
  pub bytes : List ℕ
  pub bytes_told : before.source.left ≡ Some bytes
  pub fetches : ¬ Rose before.shelf.faults after.shelf.faults
  pub reads : ¬ Rose before.source.faults after.source.faults

-- then each command comes to one answer or refusal at most
abbrev pub OneDue : Type 0
OneDue = (command : Option Command) (before after : Inputs) → IsSmooth before after → OneAtMost (due command before after)
