-- What came of a command, and how far it was written, say together what the status says.
use Rattle.std.proofs.Common.{◌≡◌, ◌⊎◌, ◌≤◌, ◌++◌, ℕ, List, [], Option, Some, None, Result, Ok, Err, refl, ap, sym, subst, ◌∙◌, arith, inl, inr}
use Rattle.ecf_edge.specs.Count.{Rose, counted_up}
use Rattle.ecf_edge.specs.Sink.{Grew, GrewByPrefix}
use Rattle.ecf_edge.specs.Source.{IsAtEnd}
use Rattle.ecf_lang.specs.declared.receipt.Stop.{Stop}
use Rattle.ecf_lang.specs.declared.receipt.StopCause.{StopCause}
use Rattle.ecf_lang.specs.declared.receipt.StopCause.TheVariants.{Form, Object, Method, Fuel, Arity, Arg, Long, Many, Bytes, Read}
use Rattle.ecf_lang.specs.declared.typed.Typed.{Typed}
use Rattle.ecf_lines.specs.Stream.{StreamSaid}
use Rattle.ecf_host.specs.declared.failure.Failure.{Failure}
use Rattle.ecf_host.specs.declared.failure.Failure.TheVariants.{Refused, NoMemory}
use Rattle.ecf_host.specs.declared.failure.Report.{Report}
use Rattle.ecf_host.specs.declared.refusal.Refusal.{Refusal}
use Rattle.ecf_host.specs.declared.refusal.Refusal.TheVariants.{Words, TooLong, BadByte, WideNumber, TooManyTokens, Syntax, TooDeep, Typing, Missing, ReadFault}
use Rattle.ecf_host.specs.Answers.{Answer, answer_of, answer_of_report, answer_of_refusal}
use Rattle.ecf_edge.specs.declared.sink.WriteFault.{WriteFault}
use Rattle.ecf_edge.specs.declared.sink.WriteFault.TheVariants as write
use Rattle.ecf_verdicts.specs.SerialLaws.{AlongPlaces}
use Rattle.ecf_host.specs.Delivery.{IsPut, IsDelivered, status_of_run}
use Rattle.ecf_host.specs.Delivery.IsPut.{whole, failed, no_memory}
use Rattle.ecf_host.specs.Due.{status_of_cause, status_of_stop, journal_answer, due, due_of_run, due_of_show, Comes, HasJournal, IsDue, IsSomeDue, IsUncounted, OneDue}
use Rattle.ecf_host.specs.Refusals.{status_of}
use Rattle.ecf_host.specs.Rounds.{receipts_text, rest_text, just}
use Rattle.ecf_host.specs.Run.{HasRun}
use Rattle.ecf_host.specs.Served.{IsWritten, IsBegun, NoWriteFailed, HasRead, IsNoteCut, IsTextCut, IsAccepted, IsWriteFault, IsServed, IsDueBegun, IsAmongRounds, IsSilent, IsUndisturbed}
use Rattle.ecf_host.specs.Stages.◌▷◌.{went_on}
use Rattle.ecf_host.specs.Stream.{IsReadFault, ReadsToEnd, IsStream}
use Rattle.ecf_host.specs.Stream.IsStream.{read_on, cut_off}
use Rattle.ecf_host.specs.Words.{Command}
use Rattle.ecf_host.specs.World.{Inputs, SinkState, SourceState, World}
use Rattle.ecf_host.proofs.DeliveryLaws.{nothing_grew, nothing_begun}
use Rattle.ecf_host.proofs.TextLaws.{whole_text}

rose : (before after : ℕ) → after ≡ counted_up before → Rose before after
rose before after is = subst (λ n. n ≤ after) is (omega arith)

-- an answer of status 0 has read all, and nothing was counted
abbrev IsEnded : Option Command → Inputs → Inputs → Type 0
IsEnded command before after = HasRead command after × (after.shelf ≡ before.shelf) × (after.source.faults ≡ before.source.faults)

-- ---- what was written

-- what is not written on is as it was
none_grew : (sink sink' : SinkState) (text : List ℕ) → sink' ≡ sink → text ≡ [] → Grew sink.held text sink'.held
none_grew sink sink' text same empty = subst (λ (s : SinkState). Grew sink.held text s.held) (sym same) (subst (λ t. Grew sink.held t sink.held) (sym empty) (nothing_grew sink.held))

none_begun : (sink sink' : SinkState) (text : List ℕ) → sink' ≡ sink → GrewByPrefix sink.held text sink'.held
none_begun sink sink' text same = subst (λ (s : SinkState). GrewByPrefix sink.held text s.held) (sym same) (nothing_begun sink.held text)

same_faults : (sink sink' : SinkState) → sink' ≡ sink → sink'.faults ≡ sink.faults
same_faults sink sink' same = ap (λ (s : SinkState). s.faults) same

-- ---- a fault

-- a note that was cut is a fault of every command
note_fault : (command : Option Command) (before after : World) → IsNoteCut command before after → IsWriteFault command before after
note_fault (Some (Command.Run file)) before after h = inl h
note_fault (Some (Command.Show file)) before after h = inl h
note_fault None before after h = h

module _ (command : Option Command) (before after : World) where
  pub cut_served : IsWriteFault command before after → (IsUndisturbed before after → ⊥) → IsServed command before after 5
  cut_served fault disturbed = record {
    statuses = omega arith;
    answered = λ most. absurd (omega arith);
    done = λ zero. absurd (omega arith);
    write_fault = λ five. fault;
    no_memory = λ six. absurd (omega arith);
    complete = λ still other also. absurd (disturbed still);
  }

  pub short_served : IsDueBegun command before after ⊎ IsAmongRounds command before after ⊎ IsSilent before after → NoWriteFailed before after → IsServed command before after 6
  short_served written kept = record {
    statuses = omega arith;
    answered = λ most. absurd (omega arith);
    done = λ zero. absurd (omega arith);
    write_fault = λ five. absurd (omega arith);
    no_memory = λ six. record { no_write_failed = kept; written = written };
    complete = λ still other also. inr refl;
  }

-- ---- an answer that is due

module _ (command : Option Command) (before after : World) (answer : Answer) (is_due : IsDue command before.inputs after.inputs answer) (few : answer.status ≤ 4)
    (ended : answer.status ≡ 0 → IsEnded command before.inputs after.inputs)
    (only : IsUndisturbed before after → (other : Answer) → IsDue command before.inputs after.inputs other → other ≡ answer) where
  whole_served : IsWritten before after answer → NoWriteFailed before after → IsServed command before after answer.status
  whole_served written kept = record {
    statuses = omega arith;
    answered = λ most. record { answer = answer; due = is_due; status_is = refl; written = written; no_write_failed = kept };
    done = λ zero. (let end = ended zero in record { has_read = end.0; no_fetch_failed = end.1; no_read_failed = end.2; no_write_failed = kept });
    write_fault = λ five. absurd (omega arith);
    no_memory = λ six. absurd (omega arith);
    complete = λ still other also. inl (let same : other ≡ answer = only still other also in (ap (λ (a : Answer). a.status) (sym same), subst (IsWritten before after) (sym same) written));
  }

  begun_due : IsBegun before after answer → IsDueBegun command before after
  begun_due begun = record { answer = answer; due = is_due; begun = begun }

  -- all of the answer was written on out, and none of it is a note
  pub out_whole : Grew before.out.held answer.out after.out.held → after.out.faults ≡ before.out.faults → after.note ≡ before.note → answer.note ≡ [] → IsServed command before after answer.status
  out_whole grew counted same empty =
      whole_served (record { out = grew; note = none_grew before.note after.note answer.note same empty }) (record { out = counted; note = same_faults before.note after.note same })

  -- a first part of it was
  pub out_begun : GrewByPrefix before.out.held answer.out after.out.held → after.note ≡ before.note → IsDueBegun command before after
  out_begun part same = begun_due (record { out = part; note = none_begun before.note after.note answer.note same })

  pub out_served : (IsTextCut command before after → IsWriteFault command before after) → (status : ℕ) → IsPut before.out after.out answer.out answer.status status → after.note ≡ before.note → answer.note ≡ [] → IsServed command before after status
  out_served fault status (whole grew counted) same empty = out_whole grew counted same empty
  out_served fault status (failed part counted) same empty =
      cut_served command before after (fault (record { answer = answer; due = is_due; failed = record { counted = counted; part = part; nothing_due = empty; other_stands = same } }))
      (λ still. still.out (rose before.out.faults after.out.faults counted))
  out_served fault status (no_memory part counted) same empty =
      short_served command before after (inl (out_begun part same)) (record { out = counted; note = same_faults before.note after.note same })

  pub note_served : (status : ℕ) → IsPut before.note after.note answer.note answer.status status → after.out ≡ before.out → answer.out ≡ [] → IsServed command before after status
  note_served status (whole grew counted) same empty =
      whole_served (record { out = none_grew before.out after.out answer.out same empty; note = grew }) (record { out = same_faults before.out after.out same; note = counted })
  note_served status (failed part counted) same empty =
      cut_served command before after (note_fault command before after (record { answer = answer; due = is_due; failed = record { counted = counted; part = part; nothing_due = empty; other_stands = same } }))
      (λ still. still.note (rose before.note.faults after.note.faults counted))
  note_served status (no_memory part counted) same empty =
      short_served command before after (inl (begun_due (record { out = none_begun before.out after.out answer.out same; note = part }))) (record { out = same_faults before.out after.out same; note = counted })

-- ---- what came of a command

-- a refusal's status is 1 to 4
some_status : (refusal : Refusal) → (1 ≤ status_of refusal) × (status_of refusal ≤ 4)
some_status Words = (omega arith, omega arith)
some_status TooLong = (omega arith, omega arith)
some_status (BadByte at) = (omega arith, omega arith)
some_status (WideNumber at) = (omega arith, omega arith)
some_status (TooManyTokens at) = (omega arith, omega arith)
some_status (Syntax token) = (omega arith, omega arith)
some_status (TooDeep token) = (omega arith, omega arith)
some_status (Typing token what) = (omega arith, omega arith)
some_status Missing = (omega arith, omega arith)
some_status ReadFault = (omega arith, omega arith)

-- a stop's status is 3 or 4
stop_status : (cause : StopCause) → (1 ≤ status_of_cause cause) × (status_of_cause cause ≤ 4)
stop_status Form = (omega arith, omega arith)
stop_status Object = (omega arith, omega arith)
stop_status Method = (omega arith, omega arith)
stop_status Fuel = (omega arith, omega arith)
stop_status Arity = (omega arith, omega arith)
stop_status Arg = (omega arith, omega arith)
stop_status Long = (omega arith, omega arith)
stop_status Many = (omega arith, omega arith)
stop_status Bytes = (omega arith, omega arith)
stop_status Read = (omega arith, omega arith)

few_status : (stop : Option Stop) → status_of_stop stop ≤ 4
few_status None = omega arith
few_status (Some stop) = (let some = stop_status stop.cause in some.1)

-- where nothing stopped the reading, the stream was read to its end, and nothing failed
unstopped : (typed : Typed) (before after : SourceState) (said : StreamSaid) (stop : Option Stop) → said.stop ≡ stop → status_of_stop stop ≡ 0 → IsStream typed before after said → IsAtEnd after.left × (after.faults ≡ before.faults)
unstopped typed before after said (Some stop) is zero stream = absurd (let some = stop_status stop.cause in omega (arith, some.0, zero))
unstopped typed before after said None is zero (read_on h) = (h.at_end (subst (ReadsToEnd h.bytes) (sym is) tt), h.faults)
unstopped typed before after said None is zero (cut_off h) = absurd (subst IsReadFault is h.fault)

-- a report of `run` has status 4 at most, and with status 0 the stream was read to its end and nothing was counted
run_ended : (file : List ℕ) (before after : Inputs) (answer : Answer) → due_of_run file before after (Ok answer) → (answer.status ≤ 4) × (answer.status ≡ 0 → after.shelf ≡ before.shelf → IsEnded (Some (Command.Run file)) before after) × (after.shelf ≡ before.shelf)
run_ended file before after answer (went_on text _ h (went_on typed _ k (went_on said _ l m))) =
    let status : answer.status ≡ status_of_stop said.stop = ap (λ (a : Answer). a.status) m.in_order in
    let few = few_status said.stop in (
      omega (arith, status, few),
      λ zero shelf. (let end = unstopped typed before.source after.source said said.stop refl (sym status ∙ zero) l.0 in (end.0, shelf, end.1)),
      l.1,
    )

-- a report of `show` has status 0, and nothing was fetched amiss or read
show_ended : (file : List ℕ) (before after : Inputs) (answer : Answer) → due_of_show file before after (Ok answer) → (answer.status ≡ 0) × (after ≡ before)
show_ended file before after answer (went_on text _ h (went_on tree _ k is, same)) = (ap (λ (a : Answer). a.status) is, same)

ended_of : (command : Option Command) (before after : Inputs) (answer : Answer) → due command before after (Ok answer) → (answer.status ≤ 4) × (answer.status ≡ 0 → IsEnded command before after)
ended_of (Some (Command.Run file)) before after answer comes = (let end = run_ended file before after answer comes in (end.0, λ zero. end.1 zero end.2))
ended_of (Some (Command.Show file)) before after answer comes =
    (let end = show_ended file before after answer comes in
    (omega (arith, end.0), λ zero. (tt, ap (λ (i : Inputs). i.shelf) end.1, ap (λ (i : Inputs). i.source.faults) end.1)))
ended_of None before after answer comes = absurd comes

module _ (one : OneDue) (command : Option Command) (before after : World) where
  only : (outcome : Result Answer Refusal) → due command before.inputs after.inputs outcome → IsUndisturbed before after → (other : Answer) → IsDue command before.inputs after.inputs other → other ≡ answer_of outcome
  only outcome comes still other also = also.is ∙ ap answer_of (one command before.inputs after.inputs still.inputs also.outcome outcome also.comes comes)

  -- memory ran out: nothing was written, of an answer that was due, or where nothing was counted
  nothing_written : after.out ≡ before.out → after.note ≡ before.note → IsUncounted before.inputs after.inputs ⊎ IsSomeDue command before.inputs after.inputs →
      IsDueBegun command before after ⊎ IsAmongRounds command before after ⊎ IsSilent before after
  nothing_written out note (inl uncounted) = inr (inr (record { out = out; note = note; uncounted = uncounted }))
  nothing_written out note (inr some) = inl (record {
    answer = answer_of some.0;
    due = record { outcome = some.0; comes = some.1; is = refl };
    begun = record { out = none_begun before.out after.out (answer_of some.0).out out; note = none_begun before.note after.note (answer_of some.0).note note };
  })

  -- a refusal, or want of memory
  pub refused_served : (failure : Failure) (status : ℕ) → Comes command before.inputs after.inputs (Err failure) → IsDelivered (Err failure) before.out after.out before.note after.note status → IsServed command before after status
  refused_served (Refused refusal) status comes put =
      let some = some_status refusal in
      let least : 1 ≤ status_of refusal = some.0 in
      note_served command before after (answer_of_refusal refusal) (record { outcome = Err refusal; comes = comes; is = refl }) some.1 (λ zero. absurd (omega arith))
      (only (Err refusal) comes) status put.0 put.1 refl
  refused_served NoMemory status comes put = subst (IsServed command before after) (sym put.0)
      (short_served command before after (nothing_written put.1 put.2 comes) (record { out = ap (λ (s : SinkState). s.faults) put.1; note = ap (λ (s : SinkState). s.faults) put.2 }))

-- what came of `show`
pub show_served : OneDue → (file : List ℕ) (before after : World) (outcome : Result Report Failure) (status : ℕ) → Comes (Some (Command.Show file)) before.inputs after.inputs outcome →
    IsDelivered outcome before.out after.out before.note after.note status → IsServed (Some (Command.Show file)) before after status
show_served one file before after (Ok report) status comes put =
    let end = ended_of (Some (Command.Show file)) before.inputs after.inputs (answer_of_report report) comes in
    out_served (Some (Command.Show file)) before after (answer_of_report report) (record { outcome = Ok (answer_of_report report); comes = comes; is = refl }) end.0 end.1
    (only one (Some (Command.Show file)) before after (Ok (answer_of_report report)) comes) (λ cut. inr cut) status put.0 put.1 refl
show_served one file before after (Err failure) status comes put = refused_served one (Some (Command.Show file)) before after failure status comes put

-- ---- a run

module _ (one : OneDue) (has : HasJournal) (all : AlongPlaces) (file : List ℕ) (before after : World) (typed : Typed) (accepted : IsAccepted file before.inputs after.inputs typed) (note : after.note ≡ before.note) where
  abbrev answer_is : StreamSaid → Answer
  answer_is said = journal_answer typed said

  comes_of : (said : StreamSaid) → IsStream typed before.inputs.source after.inputs.source said → due_of_run file before.inputs after.inputs (Ok (answer_is said))
  comes_of said stream = went_on accepted.text (Ok (answer_is said)) accepted.fetch (went_on typed (Ok (answer_is said)) accepted.is (went_on said (Ok (answer_is said)) (stream, accepted.shelf) (has typed said)))

  text_is : (said : StreamSaid) → receipts_text typed said.txs ++ rest_text typed said ≡ (answer_is said).out
  text_is said = sym (whole_text all typed said)

  same_note : after.note.faults ≡ before.note.faults
  same_note = same_faults before.note after.note note

  pub run_served : (ran : Result (Option Stop) WriteFault) → HasRun typed before.inputs.source after.inputs.source before.out after.out ran → IsServed (Some (Command.Run file)) before after (status_of_run ran)
  run_served (Ok stop) (done, counted) =
      let said = just done.txs stop in
      let comes = comes_of said done.stream in
      let end = ended_of (Some (Command.Run file)) before.inputs after.inputs (answer_is said) comes in
      out_whole (Some (Command.Run file)) before after (answer_is said) (record { outcome = Ok (answer_is said); comes = comes; is = refl }) end.0 end.1
      (only one (Some (Command.Run file)) before after (Ok (answer_is said)) comes)
      (subst (λ text. Grew before.out.held text after.out.held) (text_is said) done.wrote) counted note refl
  run_served (Err write.Failed) (is_cut, counted) =
      cut_served (Some (Command.Run file)) before after (inr (record { typed = typed; accepted = accepted; cut = is_cut; counted = counted; note = note }))
      (λ still. still.out (rose before.out.faults after.out.faults counted))
  run_served (Err write.NoMemory) (inl begun, counted) =
      short_served (Some (Command.Run file)) before after (inr (inl (record { typed = typed; accepted = accepted; begun = begun; note = note }))) (record { out = counted; note = same_note })
  run_served (Err write.NoMemory) (inr begun, counted) =
      let said = just begun.txs begun.stop in
      let comes = comes_of said begun.stream in
      let end = ended_of (Some (Command.Run file)) before.inputs after.inputs (answer_is said) comes in
      short_served (Some (Command.Run file)) before after
      (inl (out_begun (Some (Command.Run file)) before after (answer_is said) (record { outcome = Ok (answer_is said); comes = comes; is = refl }) end.0 end.1
      (only one (Some (Command.Run file)) before after (Ok (answer_is said)) comes)
      (subst (λ text. GrewByPrefix before.out.held text after.out.held) (text_is said) begun.wrote) note))
      (record { out = counted; note = same_note })
