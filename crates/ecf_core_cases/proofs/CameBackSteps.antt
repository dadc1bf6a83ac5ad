-- The steps of a schedule: a value that changed and came back between a run and its commit: the commit isn't stale.
use Rattle.std.proofs.Common.{◌≡◌, List, [], ◌∷◌, refl, ap}
use Rattle.ecf_lang.specs.Meaning.{run}
use Rattle.ecf_lang.specs.Part.{pay, read_cell, write_cell, attempt_of}
use Rattle.ecf_cases.specs.Computation.{run_is}
use Rattle.ecf_verdicts.specs.Computing.{computing}
use Rattle.ecf_core.specs.declared.book.RowState.TheVariants as row
use Rattle.ecf_core.specs.declared.book.LogWhat.TheVariants as log
use Rattle.ecf_core.specs.declared.event.Event.TheVariants as event
use Rattle.ecf_core.specs.declared.event.Reply.TheVariants as reply
use Rattle.ecf_core.specs.Core.{Core, Nothing, Work, Draft, Judged}
use Rattle.ecf_core.specs.Ledgers.{ledger_after}
use Rattle.ecf_core_cases.specs.Adder.{adder, add, sub, committed, holds, add_result, sub_result}
use Rattle.ecf_core_cases.specs.Schedules.{entry, ledger, Goes}
use Rattle.ecf_core_cases.specs.CameBack.{value_came_back}
use Rattle.ecf_core_cases.proofs.StepLaws.{stepping, built, Stage, Steps, stage, stage_with, core, reads_of, running, placing, ledger_from_run, goes_from_steps}

runs_add_10_of_2_on_5 : run adder (holds 5) (add 2 10) ≡ add_result 5 10 15
unfolding built pay read_cell write_cell attempt_of
runs_add_10_of_2_on_5 = run_is adder built (holds 5) (add 2 10)

runs_add_1_of_1_on_5 : run adder (holds 5) (add 1 1) ≡ add_result 5 1 6
unfolding built pay read_cell write_cell attempt_of
runs_add_1_of_1_on_5 = run_is adder built (holds 5) (add 1 1)

runs_sub_1_of_1_on_6 : run adder (holds 6) (sub 1 1) ≡ sub_result 6 1 5
unfolding built pay read_cell write_cell attempt_of
runs_sub_1_of_1_on_6 = run_is adder built (holds 6) (sub 1 1)

leaves_1 : ledger_after adder (add 1 1) (ledger [] 5) ≡ ledger (committed 6 ∷ []) 6
unfolding computing stepping
leaves_1 = ledger_from_run adder (add 1 1) (ledger [] 5) (add_result 5 1 6) runs_add_1_of_1_on_5

leaves_2 : ledger_after adder (sub 1 1) (ledger (committed 6 ∷ []) 6) ≡ ledger (committed 6 ∷ committed 5 ∷ []) 5
unfolding computing stepping
leaves_2 = ledger_from_run adder (sub 1 1) (ledger (committed 6 ∷ []) 6) (sub_result 6 1 5) runs_sub_1_of_1_on_6

leaves_3 : ledger_after adder (add 2 10) (ledger (committed 6 ∷ committed 5 ∷ []) 5) ≡ ledger (committed 6 ∷ committed 5 ∷ committed 15 ∷ []) 15
unfolding computing stepping
leaves_3 = ledger_from_run adder (add 2 10) (ledger (committed 6 ∷ committed 5 ∷ []) 5) (add_result 5 10 15) runs_add_10_of_2_on_5

abbrev c0 : Core
c0 = core (row.Free 0 ∷ row.Free 0 ∷ row.Free 0 ∷ []) [] 0 (ledger [] 5) Nothing Nothing Nothing []

abbrev c1 : Core
c1 = core (row.Claimed 1 1 0 ∷ row.Free 0 ∷ row.Free 0 ∷ []) [] 1 (ledger [] 5) (Work 0 1 (holds 5)) Nothing Nothing []

abbrev c2 : Core
c2 = core (row.Claimed 1 1 0 ∷ row.Free 0 ∷ row.Claimed 2 1 0 ∷ []) [] 2 (ledger [] 5) (Work 0 1 (holds 5)) (Work 2 2 (holds 5)) Nothing []

abbrev c3 : Core
c3 = core (row.Claimed 1 1 0 ∷ row.Free 0 ∷ row.Claimed 2 1 0 ∷ []) [] 2 (ledger [] 5) (Work 0 1 (holds 5)) (Draft (reads_of 2 2 5)) Nothing []

abbrev c4 : Core
c4 = core (row.Claimed 1 1 0 ∷ row.Free 0 ∷ row.Claimed 2 1 0 ∷ []) [] 2 (ledger [] 5) (Draft (reads_of 0 1 5)) (Draft (reads_of 2 2 5)) Nothing []

abbrev c5 : Core
c5 = core (row.Claimed 1 1 0 ∷ row.Free 0 ∷ row.Claimed 2 1 0 ∷ []) [] 2 (ledger [] 5) (Judged (reads_of 0 1 5)) (Draft (reads_of 2 2 5)) Nothing []

abbrev c6 : Core
c6 = core (row.Done 1 ∷ row.Free 0 ∷ row.Claimed 2 1 0 ∷ []) (0 ∷ []) 2 (ledger (committed 6 ∷ []) 6) Nothing (Draft (reads_of 2 2 5)) Nothing []

abbrev c7 : Core
c7 = core (row.Done 1 ∷ row.Claimed 3 1 0 ∷ row.Claimed 2 1 0 ∷ []) (0 ∷ []) 3 (ledger (committed 6 ∷ []) 6) (Work 1 3 (holds 6)) (Draft (reads_of 2 2 5)) Nothing []

abbrev c8 : Core
c8 = core (row.Done 1 ∷ row.Claimed 3 1 0 ∷ row.Claimed 2 1 0 ∷ []) (0 ∷ []) 3 (ledger (committed 6 ∷ []) 6) (Draft (reads_of 1 3 6)) (Draft (reads_of 2 2 5)) Nothing []

abbrev c9 : Core
c9 = core (row.Done 1 ∷ row.Claimed 3 1 0 ∷ row.Claimed 2 1 0 ∷ []) (0 ∷ []) 3 (ledger (committed 6 ∷ []) 6) (Judged (reads_of 1 3 6)) (Draft (reads_of 2 2 5)) Nothing []

abbrev c10 : Core
c10 = core (row.Done 1 ∷ row.Done 2 ∷ row.Claimed 2 1 0 ∷ []) (0 ∷ 1 ∷ []) 3 (ledger (committed 6 ∷ committed 5 ∷ []) 5) Nothing (Draft (reads_of 2 2 5)) Nothing []

abbrev c11 : Core
c11 = core (row.Done 1 ∷ row.Done 2 ∷ row.Claimed 2 1 0 ∷ []) (0 ∷ 1 ∷ []) 3 (ledger (committed 6 ∷ committed 5 ∷ []) 5) Nothing (Judged (reads_of 2 2 5)) Nothing []

abbrev c12 : Core
c12 = core (row.Done 1 ∷ row.Done 2 ∷ row.Done 3 ∷ []) (0 ∷ 1 ∷ 2 ∷ []) 3 (ledger (committed 6 ∷ committed 5 ∷ committed 15 ∷ []) 15) Nothing Nothing Nothing []

abbrev stages : List Stage
stages =
    stage_with (event.Claim 0) (reply.Work 0) (entry 0 1 log.Claimed ∷ []) c1
    ∷ stage_with (event.Claim 1) (reply.Work 2) (entry 2 2 log.Claimed ∷ []) c2
    ∷ stage (event.Run 1) reply.Ran c3
    ∷ stage (event.Run 0) reply.Ran c4
    ∷ stage (event.Judge 0) reply.Judged c5
    ∷ stage_with (event.Commit 0) (reply.Placed 1) (entry 0 1 (log.Placed 1) ∷ []) c6
    ∷ stage_with (event.Claim 0) (reply.Work 1) (entry 1 3 log.Claimed ∷ []) c7
    ∷ stage (event.Run 0) reply.Ran c8
    ∷ stage (event.Judge 0) reply.Judged c9
    ∷ stage_with (event.Commit 0) (reply.Placed 2) (entry 1 3 (log.Placed 2) ∷ []) c10
    ∷ stage (event.Judge 1) reply.Judged c11
    ∷ stage_with (event.Commit 1) (reply.Placed 3) (entry 2 2 (log.Placed 3) ∷ []) c12
    ∷ []

steps : Steps value_came_back.opening c0 stages
unfolding stepping
steps = (refl, (refl, (ap (running c2 1 2 2) runs_add_10_of_2_on_5, (ap (running c3 0 0 1) runs_add_1_of_1_on_5, (refl, (ap (placing (reply.Placed 1) (entry 0 1 (log.Placed 1)) (λ l. core (row.Done 1 ∷ row.Free 0 ∷ row.Claimed 2 1 0 ∷ []) (0 ∷ []) 2 l Nothing (Draft (reads_of 2 2 5)) Nothing [])) leaves_1, (refl, (ap (running c7 0 1 3) runs_sub_1_of_1_on_6, (refl, (ap (placing (reply.Placed 2) (entry 1 3 (log.Placed 2)) (λ l. core (row.Done 1 ∷ row.Done 2 ∷ row.Claimed 2 1 0 ∷ []) (0 ∷ 1 ∷ []) 3 l Nothing (Draft (reads_of 2 2 5)) Nothing [])) leaves_2, (refl, (ap (placing (reply.Placed 3) (entry 2 2 (log.Placed 3)) (λ l. core (row.Done 1 ∷ row.Done 2 ∷ row.Done 3 ∷ []) (0 ∷ 1 ∷ 2 ∷ []) 3 l Nothing Nothing Nothing [])) leaves_3, tt))))))))))))

pub goes : Goes value_came_back
unfolding stepping
goes = goes_from_steps value_came_back.opening stages value_came_back.finishing value_came_back.last steps (refl, refl)
