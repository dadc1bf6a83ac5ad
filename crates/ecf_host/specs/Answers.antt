-- Answers to a command: a status, and what is written with it.
use Rattle.std.specs.Prelude.{ℕ, List, [], Result, Ok, Err}
use Rattle.ecf_host.specs.declared.failure.Report.{Report}
use Rattle.ecf_host.specs.declared.refusal.Refusal.{Refusal}
use Rattle.ecf_host.specs.Refusals.{status_of, note_of}

-- a status, the bytes for out and the bytes for note
pub record Answer : Type 0 where
  pub status : ℕ
  pub out : List ℕ
  pub note : List ℕ

-- a report is written on out, without a note
abbrev pub answer_of_report : Report → Answer
answer_of_report report = record { status = report.status; out = report.text.items; note = [] }

-- a refusal is told by its note, with nothing on out
abbrev pub answer_of_refusal : Refusal → Answer
answer_of_refusal refusal = record { status = status_of refusal; out = []; note = note_of refusal }

-- the answer where a command comes to an answer of its own, or to a refusal
abbrev pub answer_of : Result Answer Refusal → Answer
answer_of (Ok answer) = answer
answer_of (Err refusal) = answer_of_refusal refusal
