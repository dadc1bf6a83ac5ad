-- The steps of a schedule: three stale commits, so that the row is run here; and a lost claim, whose row is placed when all work ends.
use Rattle.std.proofs.Common.{◌≡◌, List, [], ◌∷◌, refl, ap}
use Rattle.ecf_lang.specs.Meaning.{run}
use Rattle.ecf_lang.specs.Part.{pay, read_cell, write_cell, attempt_of}
use Rattle.ecf_cases.specs.Computation.{run_is}
use Rattle.ecf_verdicts.specs.Computing.{computing}
use Rattle.ecf_core.specs.declared.book.RowState.TheVariants as row
use Rattle.ecf_core.specs.declared.book.LogWhat.TheVariants as log
use Rattle.ecf_core.specs.declared.event.Event.TheVariants as event
use Rattle.ecf_core.specs.declared.event.Reply.TheVariants as reply
use Rattle.ecf_core.specs.Core.{Core, Nothing, Work, Draft, Judged, Here}
use Rattle.ecf_core.specs.Ledgers.{ledger_after}
use Rattle.ecf_core_cases.specs.Adder.{adder, x, add, committed, holds, add_result}
use Rattle.ecf_core_cases.specs.Schedules.{entry, book, ledger, Goes}
use Rattle.ecf_core_cases.specs.ThreeTimes.{stale_three_times}
use Rattle.ecf_core_cases.proofs.StepLaws.{stepping, built, Stage, Steps, stage, stage_with, core, reads_of, running, placing, ledger_from_run, goes_from_steps}

runs_add_10_of_2_on_5 : run adder (holds 5) (add 2 10) ≡ add_result 5 10 15
unfolding built pay read_cell write_cell attempt_of
runs_add_10_of_2_on_5 = run_is adder built (holds 5) (add 2 10)

runs_add_1_of_1_on_5 : run adder (holds 5) (add 1 1) ≡ add_result 5 1 6
unfolding built pay read_cell write_cell attempt_of
runs_add_1_of_1_on_5 = run_is adder built (holds 5) (add 1 1)

runs_add_10_of_2_on_6 : run adder (holds 6) (add 2 10) ≡ add_result 6 10 16
unfolding built pay read_cell write_cell attempt_of
runs_add_10_of_2_on_6 = run_is adder built (holds 6) (add 2 10)

runs_add_1_of_1_on_6 : run adder (holds 6) (add 1 1) ≡ add_result 6 1 7
unfolding built pay read_cell write_cell attempt_of
runs_add_1_of_1_on_6 = run_is adder built (holds 6) (add 1 1)

runs_add_10_of_2_on_7 : run adder (holds 7) (add 2 10) ≡ add_result 7 10 17
unfolding built pay read_cell write_cell attempt_of
runs_add_10_of_2_on_7 = run_is adder built (holds 7) (add 2 10)

runs_add_1_of_1_on_7 : run adder (holds 7) (add 1 1) ≡ add_result 7 1 8
unfolding built pay read_cell write_cell attempt_of
runs_add_1_of_1_on_7 = run_is adder built (holds 7) (add 1 1)

runs_add_10_of_2_on_8 : run adder (holds 8) (add 2 10) ≡ add_result 8 10 18
unfolding built pay read_cell write_cell attempt_of
runs_add_10_of_2_on_8 = run_is adder built (holds 8) (add 2 10)

runs_add_100_of_3_on_18 : run adder (holds 18) (add 3 100) ≡ add_result 18 100 118
unfolding built pay read_cell write_cell attempt_of
runs_add_100_of_3_on_18 = run_is adder built (holds 18) (add 3 100)

leaves_1 : ledger_after adder (add 1 1) (ledger [] 5) ≡ ledger (committed 6 ∷ []) 6
unfolding computing stepping
leaves_1 = ledger_from_run adder (add 1 1) (ledger [] 5) (add_result 5 1 6) runs_add_1_of_1_on_5

leaves_2 : ledger_after adder (add 1 1) (ledger (committed 6 ∷ []) 6) ≡ ledger (committed 6 ∷ committed 7 ∷ []) 7
unfolding computing stepping
leaves_2 = ledger_from_run adder (add 1 1) (ledger (committed 6 ∷ []) 6) (add_result 6 1 7) runs_add_1_of_1_on_6

leaves_3 : ledger_after adder (add 1 1) (ledger (committed 6 ∷ committed 7 ∷ []) 7) ≡ ledger (committed 6 ∷ committed 7 ∷ committed 8 ∷ []) 8
unfolding computing stepping
leaves_3 = ledger_from_run adder (add 1 1) (ledger (committed 6 ∷ committed 7 ∷ []) 7) (add_result 7 1 8) runs_add_1_of_1_on_7

leaves_4 : ledger_after adder (add 2 10) (ledger (committed 6 ∷ committed 7 ∷ committed 8 ∷ []) 8) ≡ ledger (committed 6 ∷ committed 7 ∷ committed 8 ∷ committed 18 ∷ []) 18
unfolding computing stepping
leaves_4 = ledger_from_run adder (add 2 10) (ledger (committed 6 ∷ committed 7 ∷ committed 8 ∷ []) 8) (add_result 8 10 18) runs_add_10_of_2_on_8

leaves_5 : ledger_after adder (add 3 100) (ledger (committed 6 ∷ committed 7 ∷ committed 8 ∷ committed 18 ∷ []) 18) ≡ ledger (committed 6 ∷ committed 7 ∷ committed 8 ∷ committed 18 ∷ committed 118 ∷ []) 118
unfolding computing stepping
leaves_5 = ledger_from_run adder (add 3 100) (ledger (committed 6 ∷ committed 7 ∷ committed 8 ∷ committed 18 ∷ []) 18) (add_result 18 100 118) runs_add_100_of_3_on_18

abbrev c0 : Core
c0 = core (row.Free 0 ∷ row.Free 0 ∷ row.Free 0 ∷ row.Free 0 ∷ row.Free 0 ∷ []) [] 0 (ledger [] 5) Nothing Nothing Nothing []

abbrev c1 : Core
c1 = core (row.Claimed 1 1 0 ∷ row.Free 0 ∷ row.Free 0 ∷ row.Free 0 ∷ row.Free 0 ∷ []) [] 1 (ledger [] 5) (Work 0 1 (holds 5)) Nothing Nothing []

abbrev c2 : Core
c2 = core (row.Claimed 1 1 0 ∷ row.Free 0 ∷ row.Free 0 ∷ row.Claimed 2 1 0 ∷ row.Free 0 ∷ []) [] 2 (ledger [] 5) (Work 0 1 (holds 5)) (Work 3 2 (holds 5)) Nothing []

abbrev c3 : Core
c3 = core (row.Claimed 1 1 0 ∷ row.Free 0 ∷ row.Free 0 ∷ row.Claimed 2 1 0 ∷ row.Claimed 3 1 0 ∷ []) [] 3 (ledger [] 5) (Work 0 1 (holds 5)) (Work 3 2 (holds 5)) (Work 4 3 (holds 5)) []

abbrev c4 : Core
c4 = core (row.Claimed 1 1 0 ∷ row.Free 0 ∷ row.Free 0 ∷ row.Claimed 2 1 0 ∷ row.Claimed 3 1 0 ∷ []) [] 3 (ledger [] 5) (Work 0 1 (holds 5)) (Work 3 2 (holds 5)) Nothing []

abbrev c5 : Core
c5 = core (row.Claimed 1 1 0 ∷ row.Free 0 ∷ row.Free 0 ∷ row.Claimed 2 1 0 ∷ row.Claimed 3 1 0 ∷ []) [] 3 (ledger [] 5) (Work 0 1 (holds 5)) (Draft (reads_of 3 2 5)) Nothing []

abbrev c6 : Core
c6 = core (row.Claimed 1 1 0 ∷ row.Free 0 ∷ row.Free 0 ∷ row.Claimed 2 1 0 ∷ row.Claimed 3 1 0 ∷ []) [] 3 (ledger [] 5) (Draft (reads_of 0 1 5)) (Draft (reads_of 3 2 5)) Nothing []

abbrev c7 : Core
c7 = core (row.Claimed 1 1 0 ∷ row.Free 0 ∷ row.Free 0 ∷ row.Claimed 2 1 0 ∷ row.Claimed 3 1 0 ∷ []) [] 3 (ledger [] 5) (Judged (reads_of 0 1 5)) (Draft (reads_of 3 2 5)) Nothing []

abbrev c8 : Core
c8 = core (row.Done 1 ∷ row.Free 0 ∷ row.Free 0 ∷ row.Claimed 2 1 0 ∷ row.Claimed 3 1 0 ∷ []) (0 ∷ []) 3 (ledger (committed 6 ∷ []) 6) Nothing (Draft (reads_of 3 2 5)) Nothing []

abbrev c9 : Core
c9 = core (row.Done 1 ∷ row.Free 0 ∷ row.Free 0 ∷ row.Claimed 2 1 0 ∷ row.Claimed 3 1 0 ∷ []) (0 ∷ []) 3 (ledger (committed 6 ∷ []) 6) Nothing (Judged (reads_of 3 2 5)) Nothing []

abbrev c10 : Core
c10 = core (row.Done 1 ∷ row.Free 0 ∷ row.Free 0 ∷ row.Claimed 2 1 1 ∷ row.Claimed 3 1 0 ∷ []) (0 ∷ []) 3 (ledger (committed 6 ∷ []) 6) Nothing (Work 3 2 (holds 6)) Nothing []

abbrev c11 : Core
c11 = core (row.Done 1 ∷ row.Free 0 ∷ row.Free 0 ∷ row.Claimed 2 1 1 ∷ row.Claimed 3 1 0 ∷ []) (0 ∷ []) 3 (ledger (committed 6 ∷ []) 6) Nothing (Draft (reads_of 3 2 6)) Nothing []

abbrev c12 : Core
c12 = core (row.Done 1 ∷ row.Claimed 4 1 0 ∷ row.Free 0 ∷ row.Claimed 2 1 1 ∷ row.Claimed 3 1 0 ∷ []) (0 ∷ []) 4 (ledger (committed 6 ∷ []) 6) (Work 1 4 (holds 6)) (Draft (reads_of 3 2 6)) Nothing []

abbrev c13 : Core
c13 = core (row.Done 1 ∷ row.Claimed 4 1 0 ∷ row.Free 0 ∷ row.Claimed 2 1 1 ∷ row.Claimed 3 1 0 ∷ []) (0 ∷ []) 4 (ledger (committed 6 ∷ []) 6) (Draft (reads_of 1 4 6)) (Draft (reads_of 3 2 6)) Nothing []

abbrev c14 : Core
c14 = core (row.Done 1 ∷ row.Claimed 4 1 0 ∷ row.Free 0 ∷ row.Claimed 2 1 1 ∷ row.Claimed 3 1 0 ∷ []) (0 ∷ []) 4 (ledger (committed 6 ∷ []) 6) (Judged (reads_of 1 4 6)) (Draft (reads_of 3 2 6)) Nothing []

abbrev c15 : Core
c15 = core (row.Done 1 ∷ row.Done 2 ∷ row.Free 0 ∷ row.Claimed 2 1 1 ∷ row.Claimed 3 1 0 ∷ []) (0 ∷ 1 ∷ []) 4 (ledger (committed 6 ∷ committed 7 ∷ []) 7) Nothing (Draft (reads_of 3 2 6)) Nothing []

abbrev c16 : Core
c16 = core (row.Done 1 ∷ row.Done 2 ∷ row.Free 0 ∷ row.Claimed 2 1 1 ∷ row.Claimed 3 1 0 ∷ []) (0 ∷ 1 ∷ []) 4 (ledger (committed 6 ∷ committed 7 ∷ []) 7) Nothing (Judged (reads_of 3 2 6)) Nothing []

abbrev c17 : Core
c17 = core (row.Done 1 ∷ row.Done 2 ∷ row.Free 0 ∷ row.Claimed 2 1 2 ∷ row.Claimed 3 1 0 ∷ []) (0 ∷ 1 ∷ []) 4 (ledger (committed 6 ∷ committed 7 ∷ []) 7) Nothing (Work 3 2 (holds 7)) Nothing []

abbrev c18 : Core
c18 = core (row.Done 1 ∷ row.Done 2 ∷ row.Free 0 ∷ row.Claimed 2 1 2 ∷ row.Claimed 3 1 0 ∷ []) (0 ∷ 1 ∷ []) 4 (ledger (committed 6 ∷ committed 7 ∷ []) 7) Nothing (Draft (reads_of 3 2 7)) Nothing []

abbrev c19 : Core
c19 = core (row.Done 1 ∷ row.Done 2 ∷ row.Claimed 5 1 0 ∷ row.Claimed 2 1 2 ∷ row.Claimed 3 1 0 ∷ []) (0 ∷ 1 ∷ []) 5 (ledger (committed 6 ∷ committed 7 ∷ []) 7) (Work 2 5 (holds 7)) (Draft (reads_of 3 2 7)) Nothing []

abbrev c20 : Core
c20 = core (row.Done 1 ∷ row.Done 2 ∷ row.Claimed 5 1 0 ∷ row.Claimed 2 1 2 ∷ row.Claimed 3 1 0 ∷ []) (0 ∷ 1 ∷ []) 5 (ledger (committed 6 ∷ committed 7 ∷ []) 7) (Draft (reads_of 2 5 7)) (Draft (reads_of 3 2 7)) Nothing []

abbrev c21 : Core
c21 = core (row.Done 1 ∷ row.Done 2 ∷ row.Claimed 5 1 0 ∷ row.Claimed 2 1 2 ∷ row.Claimed 3 1 0 ∷ []) (0 ∷ 1 ∷ []) 5 (ledger (committed 6 ∷ committed 7 ∷ []) 7) (Judged (reads_of 2 5 7)) (Draft (reads_of 3 2 7)) Nothing []

abbrev c22 : Core
c22 = core (row.Done 1 ∷ row.Done 2 ∷ row.Done 3 ∷ row.Claimed 2 1 2 ∷ row.Claimed 3 1 0 ∷ []) (0 ∷ 1 ∷ 2 ∷ []) 5 (ledger (committed 6 ∷ committed 7 ∷ committed 8 ∷ []) 8) Nothing (Draft (reads_of 3 2 7)) Nothing []

abbrev c23 : Core
c23 = core (row.Done 1 ∷ row.Done 2 ∷ row.Done 3 ∷ row.Claimed 2 1 2 ∷ row.Claimed 3 1 0 ∷ []) (0 ∷ 1 ∷ 2 ∷ []) 5 (ledger (committed 6 ∷ committed 7 ∷ committed 8 ∷ []) 8) Nothing (Judged (reads_of 3 2 7)) Nothing []

abbrev c24 : Core
c24 = core (row.Done 1 ∷ row.Done 2 ∷ row.Done 3 ∷ row.Claimed 2 1 3 ∷ row.Claimed 3 1 0 ∷ []) (0 ∷ 1 ∷ 2 ∷ []) 5 (ledger (committed 6 ∷ committed 7 ∷ committed 8 ∷ []) 8) Nothing (Here 3 2) Nothing []

abbrev c25 : Core
c25 = core (row.Done 1 ∷ row.Done 2 ∷ row.Done 3 ∷ row.Done 4 ∷ row.Claimed 3 1 0 ∷ []) (0 ∷ 1 ∷ 2 ∷ 3 ∷ []) 5 (ledger (committed 6 ∷ committed 7 ∷ committed 8 ∷ committed 18 ∷ []) 18) Nothing Nothing Nothing []

abbrev stages : List Stage
stages =
    stage_with (event.Claim 0) (reply.Work 0) (entry 0 1 log.Claimed ∷ []) c1
    ∷ stage_with (event.Claim 1) (reply.Work 3) (entry 3 2 log.Claimed ∷ []) c2
    ∷ stage_with (event.Claim 2) (reply.Work 4) (entry 4 3 log.Claimed ∷ []) c3
    ∷ stage (event.Lose 2) reply.Lost c4
    ∷ stage (event.Run 1) reply.Ran c5
    ∷ stage (event.Run 0) reply.Ran c6
    ∷ stage (event.Judge 0) reply.Judged c7
    ∷ stage_with (event.Commit 0) (reply.Placed 1) (entry 0 1 (log.Placed 1) ∷ []) c8
    ∷ stage (event.Judge 1) reply.Judged c9
    ∷ stage_with (event.Commit 1) (reply.Stale x 5 6) (entry 3 2 (log.Stale x 5 6) ∷ []) c10
    ∷ stage (event.Run 1) reply.Ran c11
    ∷ stage_with (event.Claim 0) (reply.Work 1) (entry 1 4 log.Claimed ∷ []) c12
    ∷ stage (event.Run 0) reply.Ran c13
    ∷ stage (event.Judge 0) reply.Judged c14
    ∷ stage_with (event.Commit 0) (reply.Placed 2) (entry 1 4 (log.Placed 2) ∷ []) c15
    ∷ stage (event.Judge 1) reply.Judged c16
    ∷ stage_with (event.Commit 1) (reply.Stale x 6 7) (entry 3 2 (log.Stale x 6 7) ∷ []) c17
    ∷ stage (event.Run 1) reply.Ran c18
    ∷ stage_with (event.Claim 0) (reply.Work 2) (entry 2 5 log.Claimed ∷ []) c19
    ∷ stage (event.Run 0) reply.Ran c20
    ∷ stage (event.Judge 0) reply.Judged c21
    ∷ stage_with (event.Commit 0) (reply.Placed 3) (entry 2 5 (log.Placed 3) ∷ []) c22
    ∷ stage (event.Judge 1) reply.Judged c23
    ∷ stage_with (event.Commit 1) (reply.LastStale x 7 8) (entry 3 2 (log.LastStale x 7 8) ∷ []) c24
    ∷ stage_with (event.Here 1) (reply.Placed 4) (entry 3 2 (log.Here 4) ∷ []) c25
    ∷ []

steps : Steps stale_three_times.opening c0 stages
unfolding stepping
steps = (refl, (refl, (refl, (refl, (ap (running c4 1 3 2) runs_add_10_of_2_on_5, (ap (running c5 0 0 1) runs_add_1_of_1_on_5, (refl, (ap (placing (reply.Placed 1) (entry 0 1 (log.Placed 1)) (λ l. core (row.Done 1 ∷ row.Free 0 ∷ row.Free 0 ∷ row.Claimed 2 1 0 ∷ row.Claimed 3 1 0 ∷ []) (0 ∷ []) 3 l Nothing (Draft (reads_of 3 2 5)) Nothing [])) leaves_1, (refl, (refl, (ap (running c10 1 3 2) runs_add_10_of_2_on_6, (refl, (ap (running c12 0 1 4) runs_add_1_of_1_on_6, (refl, (ap (placing (reply.Placed 2) (entry 1 4 (log.Placed 2)) (λ l. core (row.Done 1 ∷ row.Done 2 ∷ row.Free 0 ∷ row.Claimed 2 1 1 ∷ row.Claimed 3 1 0 ∷ []) (0 ∷ 1 ∷ []) 4 l Nothing (Draft (reads_of 3 2 6)) Nothing [])) leaves_2, (refl, (refl, (ap (running c17 1 3 2) runs_add_10_of_2_on_7, (refl, (ap (running c19 0 2 5) runs_add_1_of_1_on_7, (refl, (ap (placing (reply.Placed 3) (entry 2 5 (log.Placed 3)) (λ l. core (row.Done 1 ∷ row.Done 2 ∷ row.Done 3 ∷ row.Claimed 2 1 2 ∷ row.Claimed 3 1 0 ∷ []) (0 ∷ 1 ∷ 2 ∷ []) 5 l Nothing (Draft (reads_of 3 2 7)) Nothing [])) leaves_3, (refl, (refl, (ap (placing (reply.Placed 4) (entry 3 2 (log.Here 4)) (λ l. core (row.Done 1 ∷ row.Done 2 ∷ row.Done 3 ∷ row.Done 4 ∷ row.Claimed 3 1 0 ∷ []) (0 ∷ 1 ∷ 2 ∷ 3 ∷ []) 5 l Nothing Nothing Nothing [])) leaves_4, tt)))))))))))))))))))))))))

pub goes : Goes stale_three_times
unfolding stepping
goes = goes_from_steps stale_three_times.opening stages stale_three_times.finishing stale_three_times.last steps (refl, ap (λ l. book (row.Done 1 ∷ row.Done 2 ∷ row.Done 3 ∷ row.Done 4 ∷ row.Done 5 ∷ []) (0 ∷ 1 ∷ 2 ∷ 3 ∷ 4 ∷ []) 5 l) leaves_5)
