-- The steps of a schedule: a row that is handed on, taken back by all, given back and claimed again.
use Rattle.std.proofs.Common.{◌≡◌, List, [], ◌∷◌, refl, ap}
use Rattle.ecf_lang.specs.Meaning.{run}
use Rattle.ecf_lang.specs.Part.{pay, read_cell, write_cell, attempt_of}
use Rattle.ecf_cases.specs.Computation.{run_is}
use Rattle.ecf_verdicts.specs.Computing.{computing}
use Rattle.ecf_core.specs.declared.book.RowState.TheVariants as row
use Rattle.ecf_core.specs.declared.book.LogWhat.TheVariants as log
use Rattle.ecf_core.specs.declared.event.Event.TheVariants as event
use Rattle.ecf_core.specs.declared.event.Reply.TheVariants as reply
use Rattle.ecf_core.specs.Core.{Core, Nothing, Work, Draft, Judged}
use Rattle.ecf_core.specs.Ledgers.{ledger_after}
use Rattle.ecf_core_cases.specs.Adder.{adder, add, committed, holds, add_result}
use Rattle.ecf_core_cases.specs.Schedules.{entry, ledger, Goes}
use Rattle.ecf_core_cases.specs.GivenBack.{given_back}
use Rattle.ecf_core_cases.proofs.StepLaws.{stepping, built, Stage, Steps, stage, stage_with, core, reads_of, running, placing, ledger_from_run, goes_from_steps}

runs_add_1_of_1_on_5 : run adder (holds 5) (add 1 1) ≡ add_result 5 1 6
unfolding built pay read_cell write_cell attempt_of
runs_add_1_of_1_on_5 = run_is adder built (holds 5) (add 1 1)

leaves_1 : ledger_after adder (add 1 1) (ledger [] 5) ≡ ledger (committed 6 ∷ []) 6
unfolding computing stepping
leaves_1 = ledger_from_run adder (add 1 1) (ledger [] 5) (add_result 5 1 6) runs_add_1_of_1_on_5

abbrev c0 : Core
c0 = core (row.Free 0 ∷ []) [] 0 (ledger [] 5) Nothing Nothing Nothing []

abbrev c1 : Core
c1 = core (row.Claimed 1 1 0 ∷ []) [] 1 (ledger [] 5) (Work 0 1 (holds 5)) Nothing Nothing []

abbrev c2 : Core
c2 = core (row.Claimed 1 1 0 ∷ []) [] 1 (ledger [] 5) (Work 0 1 (holds 5)) Nothing Nothing []

abbrev c3 : Core
c3 = core (row.Claimed 1 1 0 ∷ []) [] 1 (ledger [] 5) (Work 0 1 (holds 5)) Nothing Nothing []

abbrev c4 : Core
c4 = core (row.Claimed 1 1 0 ∷ []) [] 1 (ledger [] 5) (Draft (reads_of 0 1 5)) Nothing Nothing []

abbrev c5 : Core
c5 = core (row.Claimed 1 1 0 ∷ []) [] 1 (ledger [] 5) Nothing Nothing Nothing (reads_of 0 1 5 ∷ [])

abbrev c6 : Core
c6 = core (row.Claimed 1 1 0 ∷ []) [] 1 (ledger [] 5) Nothing (Draft (reads_of 0 1 5)) Nothing []

abbrev c7 : Core
c7 = core (row.Claimed 1 1 0 ∷ []) [] 1 (ledger [] 5) Nothing (Judged (reads_of 0 1 5)) Nothing []

abbrev c8 : Core
c8 = core (row.Free 1 ∷ []) [] 1 (ledger [] 5) Nothing (Judged (reads_of 0 1 5)) Nothing []

abbrev c9 : Core
c9 = core (row.Free 1 ∷ []) [] 1 (ledger [] 5) Nothing Nothing Nothing []

abbrev c10 : Core
c10 = core (row.Free 1 ∷ []) [] 1 (ledger [] 5) Nothing Nothing Nothing []

abbrev c11 : Core
c11 = core (row.Claimed 2 2 0 ∷ []) [] 2 (ledger [] 5) (Work 0 2 (holds 5)) Nothing Nothing []

abbrev c12 : Core
c12 = core (row.Free 2 ∷ []) [] 2 (ledger [] 5) Nothing Nothing Nothing []

abbrev c13 : Core
c13 = core (row.Claimed 3 3 0 ∷ []) [] 3 (ledger [] 5) (Work 0 3 (holds 5)) Nothing Nothing []

abbrev c14 : Core
c14 = core (row.Claimed 3 3 0 ∷ []) [] 3 (ledger [] 5) (Draft (reads_of 0 3 5)) Nothing Nothing []

abbrev c15 : Core
c15 = core (row.Claimed 3 3 0 ∷ []) [] 3 (ledger [] 5) (Judged (reads_of 0 3 5)) Nothing Nothing []

abbrev c16 : Core
c16 = core (row.Done 1 ∷ []) (0 ∷ []) 3 (ledger (committed 6 ∷ []) 6) Nothing Nothing Nothing []

abbrev c17 : Core
c17 = core (row.Done 1 ∷ []) (0 ∷ []) 3 (ledger (committed 6 ∷ []) 6) Nothing Nothing Nothing []

abbrev stages : List Stage
stages =
    stage_with (event.Claim 0) (reply.Work 0) (entry 0 1 log.Claimed ∷ []) c1
    ∷ stage (event.Claim 1) reply.Later c2
    ∷ stage (event.Take 1) reply.Empty c3
    ∷ stage (event.Run 0) reply.Ran c4
    ∷ stage (event.Hand 0) reply.Handed c5
    ∷ stage (event.Take 1) (reply.Took 0) c6
    ∷ stage (event.Judge 1) reply.Judged c7
    ∷ stage_with event.Reclaim (reply.Reclaimed 1) (entry 0 1 log.Freed ∷ []) c8
    ∷ stage (event.Commit 1) (reply.Gone (row.Free 1)) c9
    ∷ stage (event.Commit 1) reply.Refused c10
    ∷ stage_with (event.Claim 0) (reply.Work 0) (entry 0 2 log.Claimed ∷ []) c11
    ∷ stage_with (event.Release 0) reply.Freed (entry 0 2 log.Freed ∷ []) c12
    ∷ stage_with (event.Claim 0) (reply.Work 0) (entry 0 3 log.Claimed ∷ []) c13
    ∷ stage (event.Run 0) reply.Ran c14
    ∷ stage (event.Judge 0) reply.Judged c15
    ∷ stage_with (event.Commit 0) (reply.Placed 1) (entry 0 3 (log.Placed 1) ∷ []) c16
    ∷ stage (event.Claim 0) reply.Over c17
    ∷ []

steps : Steps given_back.opening c0 stages
unfolding stepping
steps = (refl, (refl, (refl, (ap (running c3 0 0 1) runs_add_1_of_1_on_5, (refl, (refl, (refl, (refl, (refl, (refl, (refl, (refl, (refl, (ap (running c13 0 0 3) runs_add_1_of_1_on_5, (refl, (ap (placing (reply.Placed 1) (entry 0 3 (log.Placed 1)) (λ l. core (row.Done 1 ∷ []) (0 ∷ []) 3 l Nothing Nothing Nothing [])) leaves_1, (refl, tt)))))))))))))))))

pub goes : Goes given_back
unfolding stepping
goes = goes_from_steps given_back.opening stages given_back.finishing given_back.last steps (refl, refl)
