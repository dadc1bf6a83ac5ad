-- The steps of a schedule: a row that is claimed, lost and taken back four times is claimed no more, and is placed when all work ends.
use Rattle.std.proofs.Common.{◌≡◌, List, [], ◌∷◌, refl, ap}
use Rattle.ecf_lang.specs.Meaning.{run}
use Rattle.ecf_lang.specs.Part.{pay, read_cell, write_cell, attempt_of}
use Rattle.ecf_cases.specs.Computation.{run_is}
use Rattle.ecf_verdicts.specs.Computing.{computing}
use Rattle.ecf_core.specs.declared.book.RowState.TheVariants as row
use Rattle.ecf_core.specs.declared.book.LogWhat.TheVariants as log
use Rattle.ecf_core.specs.declared.event.Event.TheVariants as event
use Rattle.ecf_core.specs.declared.event.Reply.TheVariants as reply
use Rattle.ecf_core.specs.Core.{Core, Nothing, Work}
use Rattle.ecf_core.specs.Ledgers.{ledger_after}
use Rattle.ecf_core_cases.specs.Adder.{adder, add, committed, holds, add_result}
use Rattle.ecf_core_cases.specs.Schedules.{entry, book, ledger, Goes}
use Rattle.ecf_core_cases.specs.FourLost.{four_claims_lost}
use Rattle.ecf_core_cases.proofs.StepLaws.{stepping, built, Stage, Steps, stage, stage_with, core, ledger_from_run, goes_from_steps}

runs_add_1_of_1_on_5 : run adder (holds 5) (add 1 1) ≡ add_result 5 1 6
unfolding built pay read_cell write_cell attempt_of
runs_add_1_of_1_on_5 = run_is adder built (holds 5) (add 1 1)

leaves_1 : ledger_after adder (add 1 1) (ledger [] 5) ≡ ledger (committed 6 ∷ []) 6
unfolding computing stepping
leaves_1 = ledger_from_run adder (add 1 1) (ledger [] 5) (add_result 5 1 6) runs_add_1_of_1_on_5

abbrev c0 : Core
c0 = core (row.Free 0 ∷ []) [] 0 (ledger [] 5) Nothing Nothing Nothing []

abbrev c1 : Core
c1 = core (row.Claimed 1 1 0 ∷ []) [] 1 (ledger [] 5) (Work 0 1 (holds 5)) Nothing Nothing []

abbrev c2 : Core
c2 = core (row.Claimed 1 1 0 ∷ []) [] 1 (ledger [] 5) Nothing Nothing Nothing []

abbrev c3 : Core
c3 = core (row.Free 1 ∷ []) [] 1 (ledger [] 5) Nothing Nothing Nothing []

abbrev c4 : Core
c4 = core (row.Claimed 2 2 0 ∷ []) [] 2 (ledger [] 5) (Work 0 2 (holds 5)) Nothing Nothing []

abbrev c5 : Core
c5 = core (row.Claimed 2 2 0 ∷ []) [] 2 (ledger [] 5) Nothing Nothing Nothing []

abbrev c6 : Core
c6 = core (row.Free 2 ∷ []) [] 2 (ledger [] 5) Nothing Nothing Nothing []

abbrev c7 : Core
c7 = core (row.Claimed 3 3 0 ∷ []) [] 3 (ledger [] 5) (Work 0 3 (holds 5)) Nothing Nothing []

abbrev c8 : Core
c8 = core (row.Claimed 3 3 0 ∷ []) [] 3 (ledger [] 5) Nothing Nothing Nothing []

abbrev c9 : Core
c9 = core (row.Free 3 ∷ []) [] 3 (ledger [] 5) Nothing Nothing Nothing []

abbrev c10 : Core
c10 = core (row.Claimed 4 4 0 ∷ []) [] 4 (ledger [] 5) (Work 0 4 (holds 5)) Nothing Nothing []

abbrev c11 : Core
c11 = core (row.Claimed 4 4 0 ∷ []) [] 4 (ledger [] 5) Nothing Nothing Nothing []

abbrev c12 : Core
c12 = core (row.Free 4 ∷ []) [] 4 (ledger [] 5) Nothing Nothing Nothing []

abbrev c13 : Core
c13 = core (row.Free 4 ∷ []) [] 4 (ledger [] 5) Nothing Nothing Nothing []

abbrev stages : List Stage
stages =
    stage_with (event.Claim 0) (reply.Work 0) (entry 0 1 log.Claimed ∷ []) c1
    ∷ stage (event.Lose 0) reply.Lost c2
    ∷ stage_with event.Reclaim (reply.Reclaimed 1) (entry 0 1 log.Freed ∷ []) c3
    ∷ stage_with (event.Claim 0) (reply.Work 0) (entry 0 2 log.Claimed ∷ []) c4
    ∷ stage (event.Lose 0) reply.Lost c5
    ∷ stage_with event.Reclaim (reply.Reclaimed 1) (entry 0 2 log.Freed ∷ []) c6
    ∷ stage_with (event.Claim 0) (reply.Work 0) (entry 0 3 log.Claimed ∷ []) c7
    ∷ stage (event.Lose 0) reply.Lost c8
    ∷ stage_with event.Reclaim (reply.Reclaimed 1) (entry 0 3 log.Freed ∷ []) c9
    ∷ stage_with (event.Claim 0) (reply.Work 0) (entry 0 4 log.Claimed ∷ []) c10
    ∷ stage (event.Lose 0) reply.Lost c11
    ∷ stage_with event.Reclaim (reply.Reclaimed 1) (entry 0 4 log.Freed ∷ []) c12
    ∷ stage (event.Claim 0) reply.Over c13
    ∷ []

steps : Steps four_claims_lost.opening c0 stages
unfolding stepping
steps = (refl, (refl, (refl, (refl, (refl, (refl, (refl, (refl, (refl, (refl, (refl, (refl, (refl, tt)))))))))))))

pub goes : Goes four_claims_lost
unfolding stepping
goes = goes_from_steps four_claims_lost.opening stages four_claims_lost.finishing four_claims_lost.last steps (refl, ap (λ l. book (row.Done 1 ∷ []) (0 ∷ []) 4 l) leaves_1)
