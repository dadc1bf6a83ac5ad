-- The steps of a schedule: two drafts that are handed on are taken in their order.
use Rattle.std.proofs.Common.{◌≡◌, List, [], ◌∷◌, refl, ap}
use Rattle.ecf_lang.specs.Meaning.{run}
use Rattle.ecf_lang.specs.Part.{pay, read_cell, write_cell, attempt_of}
use Rattle.ecf_cases.specs.Computation.{run_is}
use Rattle.ecf_verdicts.specs.Computing.{computing}
use Rattle.ecf_core.specs.declared.book.RowState.TheVariants as row
use Rattle.ecf_core.specs.declared.book.LogWhat.TheVariants as log
use Rattle.ecf_core.specs.declared.event.Event.TheVariants as event
use Rattle.ecf_core.specs.declared.event.Reply.TheVariants as reply
use Rattle.ecf_core.specs.Core.{Core, Nothing, Work, Draft, Judged}
use Rattle.ecf_core.specs.Ledgers.{ledger_after}
use Rattle.ecf_core_cases.specs.Adder.{adder, x, add, committed, holds, add_result}
use Rattle.ecf_core_cases.specs.Schedules.{entry, ledger, Goes}
use Rattle.ecf_core_cases.specs.TakenInOrder.{taken_in_order}
use Rattle.ecf_core_cases.proofs.StepLaws.{stepping, built, Stage, Steps, stage, stage_with, core, reads_of, running, placing, ledger_from_run, goes_from_steps}

runs_add_1_of_1_on_5 : run adder (holds 5) (add 1 1) ≡ add_result 5 1 6
unfolding built pay read_cell write_cell attempt_of
runs_add_1_of_1_on_5 = run_is adder built (holds 5) (add 1 1)

runs_add_10_of_2_on_5 : run adder (holds 5) (add 2 10) ≡ add_result 5 10 15
unfolding built pay read_cell write_cell attempt_of
runs_add_10_of_2_on_5 = run_is adder built (holds 5) (add 2 10)

runs_add_1_of_1_on_15 : run adder (holds 15) (add 1 1) ≡ add_result 15 1 16
unfolding built pay read_cell write_cell attempt_of
runs_add_1_of_1_on_15 = run_is adder built (holds 15) (add 1 1)

leaves_1 : ledger_after adder (add 2 10) (ledger [] 5) ≡ ledger (committed 15 ∷ []) 15
unfolding computing stepping
leaves_1 = ledger_from_run adder (add 2 10) (ledger [] 5) (add_result 5 10 15) runs_add_10_of_2_on_5

leaves_2 : ledger_after adder (add 1 1) (ledger (committed 15 ∷ []) 15) ≡ ledger (committed 15 ∷ committed 16 ∷ []) 16
unfolding computing stepping
leaves_2 = ledger_from_run adder (add 1 1) (ledger (committed 15 ∷ []) 15) (add_result 15 1 16) runs_add_1_of_1_on_15

abbrev c0 : Core
c0 = core (row.Free 0 ∷ row.Free 0 ∷ []) [] 0 (ledger [] 5) Nothing Nothing Nothing []

abbrev c1 : Core
c1 = core (row.Claimed 1 1 0 ∷ row.Free 0 ∷ []) [] 1 (ledger [] 5) (Work 0 1 (holds 5)) Nothing Nothing []

abbrev c2 : Core
c2 = core (row.Claimed 1 1 0 ∷ row.Claimed 2 1 0 ∷ []) [] 2 (ledger [] 5) (Work 0 1 (holds 5)) (Work 1 2 (holds 5)) Nothing []

abbrev c3 : Core
c3 = core (row.Claimed 1 1 0 ∷ row.Claimed 2 1 0 ∷ []) [] 2 (ledger [] 5) (Draft (reads_of 0 1 5)) (Work 1 2 (holds 5)) Nothing []

abbrev c4 : Core
c4 = core (row.Claimed 1 1 0 ∷ row.Claimed 2 1 0 ∷ []) [] 2 (ledger [] 5) (Draft (reads_of 0 1 5)) (Draft (reads_of 1 2 5)) Nothing []

abbrev c5 : Core
c5 = core (row.Claimed 1 1 0 ∷ row.Claimed 2 1 0 ∷ []) [] 2 (ledger [] 5) (Draft (reads_of 0 1 5)) Nothing Nothing (reads_of 1 2 5 ∷ [])

abbrev c6 : Core
c6 = core (row.Claimed 1 1 0 ∷ row.Claimed 2 1 0 ∷ []) [] 2 (ledger [] 5) Nothing Nothing Nothing (reads_of 1 2 5 ∷ reads_of 0 1 5 ∷ [])

abbrev c7 : Core
c7 = core (row.Claimed 1 1 0 ∷ row.Claimed 2 1 0 ∷ []) [] 2 (ledger [] 5) Nothing Nothing (Draft (reads_of 1 2 5)) (reads_of 0 1 5 ∷ [])

abbrev c8 : Core
c8 = core (row.Claimed 1 1 0 ∷ row.Claimed 2 1 0 ∷ []) [] 2 (ledger [] 5) Nothing Nothing (Judged (reads_of 1 2 5)) (reads_of 0 1 5 ∷ [])

abbrev c9 : Core
c9 = core (row.Claimed 1 1 0 ∷ row.Done 1 ∷ []) (1 ∷ []) 2 (ledger (committed 15 ∷ []) 15) Nothing Nothing Nothing (reads_of 0 1 5 ∷ [])

abbrev c10 : Core
c10 = core (row.Claimed 1 1 0 ∷ row.Done 1 ∷ []) (1 ∷ []) 2 (ledger (committed 15 ∷ []) 15) Nothing Nothing (Draft (reads_of 0 1 5)) []

abbrev c11 : Core
c11 = core (row.Claimed 1 1 0 ∷ row.Done 1 ∷ []) (1 ∷ []) 2 (ledger (committed 15 ∷ []) 15) Nothing Nothing (Judged (reads_of 0 1 5)) []

abbrev c12 : Core
c12 = core (row.Claimed 1 1 1 ∷ row.Done 1 ∷ []) (1 ∷ []) 2 (ledger (committed 15 ∷ []) 15) Nothing Nothing (Work 0 1 (holds 15)) []

abbrev c13 : Core
c13 = core (row.Claimed 1 1 1 ∷ row.Done 1 ∷ []) (1 ∷ []) 2 (ledger (committed 15 ∷ []) 15) Nothing Nothing (Draft (reads_of 0 1 15)) []

abbrev c14 : Core
c14 = core (row.Claimed 1 1 1 ∷ row.Done 1 ∷ []) (1 ∷ []) 2 (ledger (committed 15 ∷ []) 15) Nothing Nothing (Judged (reads_of 0 1 15)) []

abbrev c15 : Core
c15 = core (row.Done 2 ∷ row.Done 1 ∷ []) (1 ∷ 0 ∷ []) 2 (ledger (committed 15 ∷ committed 16 ∷ []) 16) Nothing Nothing Nothing []

abbrev stages : List Stage
stages =
    stage_with (event.Claim 0) (reply.Work 0) (entry 0 1 log.Claimed ∷ []) c1
    ∷ stage_with (event.Claim 1) (reply.Work 1) (entry 1 2 log.Claimed ∷ []) c2
    ∷ stage (event.Run 0) reply.Ran c3
    ∷ stage (event.Run 1) reply.Ran c4
    ∷ stage (event.Hand 1) reply.Handed c5
    ∷ stage (event.Hand 0) reply.Handed c6
    ∷ stage (event.Take 2) (reply.Took 1) c7
    ∷ stage (event.Judge 2) reply.Judged c8
    ∷ stage_with (event.Commit 2) (reply.Placed 1) (entry 1 2 (log.Placed 1) ∷ []) c9
    ∷ stage (event.Take 2) (reply.Took 0) c10
    ∷ stage (event.Judge 2) reply.Judged c11
    ∷ stage_with (event.Commit 2) (reply.Stale x 5 15) (entry 0 1 (log.Stale x 5 15) ∷ []) c12
    ∷ stage (event.Run 2) reply.Ran c13
    ∷ stage (event.Judge 2) reply.Judged c14
    ∷ stage_with (event.Commit 2) (reply.Placed 2) (entry 0 1 (log.Placed 2) ∷ []) c15
    ∷ []

steps : Steps taken_in_order.opening c0 stages
unfolding stepping
steps = (refl, (refl, (ap (running c2 0 0 1) runs_add_1_of_1_on_5, (ap (running c3 1 1 2) runs_add_10_of_2_on_5, (refl, (refl, (refl, (refl, (ap (placing (reply.Placed 1) (entry 1 2 (log.Placed 1)) (λ l. core (row.Claimed 1 1 0 ∷ row.Done 1 ∷ []) (1 ∷ []) 2 l Nothing Nothing Nothing (reads_of 0 1 5 ∷ []))) leaves_1, (refl, (refl, (refl, (ap (running c12 2 0 1) runs_add_1_of_1_on_15, (refl, (ap (placing (reply.Placed 2) (entry 0 1 (log.Placed 2)) (λ l. core (row.Done 2 ∷ row.Done 1 ∷ []) (1 ∷ 0 ∷ []) 2 l Nothing Nothing Nothing [])) leaves_2, tt)))))))))))))))

pub goes : Goes taken_in_order
unfolding stepping
goes = goes_from_steps taken_in_order.opening stages taken_in_order.finishing taken_in_order.last steps (refl, refl)
