-- How far what came of a command was written, and the status that tells it.
use Rattle.std.specs.Prelude.{◌≡◌, ℕ, List, Option, Result, Ok, Err}
use Rattle.ecf_edge.specs.Count.{counted_up}
use Rattle.ecf_edge.specs.Sink.{Grew, GrewByPrefix}
use Rattle.ecf_edge.specs.declared.sink.WriteFault.{WriteFault}
use Rattle.ecf_edge.specs.declared.sink.WriteFault.TheVariants as write
use Rattle.ecf_lang.specs.declared.receipt.Stop.{Stop}
use Rattle.ecf_host.specs.declared.failure.Failure.{Failure}
use Rattle.ecf_host.specs.declared.failure.Failure.TheVariants.{Refused, NoMemory}
use Rattle.ecf_host.specs.declared.failure.Report.{Report}
use Rattle.ecf_host.specs.Due.{status_of_stop}
use Rattle.ecf_host.specs.Refusals.{status_of, note_of}
use Rattle.ecf_host.specs.World.{SinkState}

-- the status after a write; where all was written, the one that is due
abbrev pub status_after : ℕ → Result (Unit {0}) WriteFault → ℕ
status_after due (Ok done) = due
status_after due (Err write.Failed) = 5
status_after due (Err write.NoMemory) = 6

-- the status of a run: by the stop of its stream where the journal was written
abbrev pub status_of_run : Result (Option Stop) WriteFault → ℕ
status_of_run (Ok stop) = status_of_stop stop
status_of_run (Err write.Failed) = 5
status_of_run (Err write.NoMemory) = 6

-- A text was put on a sink: whole, with the status that it comes with; or a first part of it, since a write failed, or
-- since there was no memory.
pub data IsPut (before after : SinkState) (text : List ℕ) (due : ℕ) : ℕ → Type 0 where
  whole : Grew before.held text after.held → after.faults ≡ before.faults → IsPut before after text due due
  failed : GrewByPrefix before.held text after.held → after.faults ≡ counted_up before.faults → IsPut before after text due 5
  no_memory : GrewByPrefix before.held text after.held → after.faults ≡ before.faults → IsPut before after text due 6

-- what came of a command was put on its sink, and the other sink is as it was
abbrev pub IsDelivered : Result Report Failure → (out out' note note' : SinkState) → ℕ → Type 0
IsDelivered (Ok report) out out' note note' status = IsPut out out' report.text.items report.status status × (note' ≡ note)
IsDelivered (Err (Refused refusal)) out out' note note' status = IsPut note note' (note_of refusal) (status_of refusal) status × (out' ≡ out)
IsDelivered (Err NoMemory) out out' note note' status = (status ≡ 6) × (out' ≡ out) × (note' ≡ note)
