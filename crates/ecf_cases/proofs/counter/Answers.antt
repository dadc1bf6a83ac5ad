use Rattle.std.proofs.Common.{◌≡◌, [], ◌∷◌, refl, ap, ◌∙◌}
use Rattle.ecf_cases.specs.Computation.{run_is, contracts, Objects}
use Rattle.ecf_cases.specs.Counter.{bump, bump_again_result, bump_result, bump_twice, bump_twice_result, bump_twice_with_20, bump_twice_with_20_result, bump_with_13, bump_with_13_result, bump_with_14, bump_with_9, counter, n, AgainApproved, BumpApproved, BumpChanges, BumpCommitted, CountsAgain, CountsOnce, CountsTwice, EachChanges, EachCommitted, SecondWantChangesNothing, SecondWantIsReceipt, TwoApproved, TwoChange, TwoCommitted, UndoesBoth, UsesAllFuel, WantChangesNothing, WantIsReceipt, WantsFuelForRead, WantsFuelForWrite}
use Rattle.ecf_cases.specs.OutcomeLemmas.{receipt_from_run, store_from_run, serial_step}
use Rattle.ecf_lang.specs.Part.{pay, read_cell, write_cell, attempt_of}
use Rattle.ecf_lang.specs.declared.receipt.Receipt.TheVariants.{Committed}
use Rattle.ecf_verdicts.specs.Computing.{computing}
use Rattle.ecf_verdicts.specs.Receipts.{receipt_on, next_store, serial, Serial, receipt_of_answer, store_after, serial_from}
use Rattle.ecf_cases.proofs.counter.Goals as goal

built : Objects counter.objects
built = search contracts depth 40 fits 4000

counts_once : CountsOnce
unfolding built pay read_cell write_cell attempt_of
counts_once = run_is counter built [] bump

uses_all_fuel : UsesAllFuel
unfolding built pay read_cell write_cell attempt_of
uses_all_fuel = run_is counter built [] bump_with_14

wants_fuel_for_read : WantsFuelForRead
unfolding built pay read_cell write_cell attempt_of
wants_fuel_for_read = run_is counter built [] bump_with_13

wants_fuel_for_write : WantsFuelForWrite
unfolding built pay read_cell write_cell attempt_of
wants_fuel_for_write = run_is counter built [] bump_with_9

counts_twice : CountsTwice
unfolding built pay read_cell write_cell attempt_of
counts_twice = run_is counter built [] bump_twice

undoes_both : UndoesBoth
unfolding built pay read_cell write_cell attempt_of
undoes_both = run_is counter built [] bump_twice_with_20

counts_again : CountsAgain
unfolding built pay read_cell write_cell attempt_of
counts_again = run_is counter built ((n, 1) ∷ []) bump

bump_approved : BumpApproved
unfolding computing
bump_approved = refl

bump_committed : BumpCommitted
bump_committed = receipt_from_run counter [] bump bump_result counts_once ∙ ap (receipt_of_answer 1 14) bump_approved

bump_changes : BumpChanges
bump_changes = store_from_run counter [] bump bump_result counts_once ∙ ap (λ v. store_after (receipt_of_answer 1 14 v) [] bump_result.store) bump_approved

two_approved : TwoApproved
unfolding computing
two_approved = refl

two_committed : TwoCommitted
two_committed = receipt_from_run counter [] bump_twice bump_twice_result counts_twice ∙ ap (receipt_of_answer 2 28) two_approved

two_change : TwoChange
two_change = store_from_run counter [] bump_twice bump_twice_result counts_twice ∙ ap (λ v. store_after (receipt_of_answer 2 28 v) [] bump_twice_result.store) two_approved

want_is_receipt : WantIsReceipt
want_is_receipt = receipt_from_run counter [] bump_with_13 bump_with_13_result wants_fuel_for_read

want_changes_nothing : WantChangesNothing
want_changes_nothing = store_from_run counter [] bump_with_13 bump_with_13_result wants_fuel_for_read

second_want_is_receipt : SecondWantIsReceipt
second_want_is_receipt = receipt_from_run counter [] bump_twice_with_20 bump_twice_with_20_result undoes_both

second_want_changes_nothing : SecondWantChangesNothing
second_want_changes_nothing = store_from_run counter [] bump_twice_with_20 bump_twice_with_20_result undoes_both

again_approved : AgainApproved
unfolding computing
again_approved = refl

again_committed : receipt_on counter ((n, 1) ∷ []) bump ≡ Committed 2 14 []
again_committed = receipt_from_run counter ((n, 1) ∷ []) bump bump_again_result counts_again ∙ ap (receipt_of_answer 2 14) again_approved

again_changes : next_store counter ((n, 1) ∷ []) bump ≡ (n, 2) ∷ []
again_changes =
    store_from_run counter ((n, 1) ∷ []) bump bump_again_result counts_again
    ∙ ap (λ v. store_after (receipt_of_answer 2 14 v) ((n, 1) ∷ []) bump_again_result.store) again_approved

nothing_more : serial_from counter ((n, 2) ∷ []) [] ≡ record { receipts = []; store = (n, 2) ∷ [] }
unfolding serial_from
nothing_more = refl

one_by_one : serial counter (bump ∷ bump ∷ []) ≡ record { receipts = Committed 1 14 [] ∷ Committed 2 14 [] ∷ []; store = (n, 2) ∷ [] }
one_by_one =
    let second = serial_step counter ((n, 1) ∷ []) bump [] (Committed 2 14 []) ((n, 2) ∷ []) (record { receipts = []; store = (n, 2) ∷ [] }) again_committed again_changes nothing_more in
    serial_step counter [] bump (bump ∷ []) (Committed 1 14 []) ((n, 1) ∷ []) (record { receipts = Committed 2 14 [] ∷ []; store = (n, 2) ∷ [] }) bump_committed bump_changes second

each_committed : EachCommitted
each_committed = ap (λ (s : Serial). s.receipts) one_by_one

each_changes : EachChanges
each_changes = ap (λ (s : Serial). s.store) one_by_one

pub returns : goal.returns
returns c = record {
  counts_once = counts_once;
  uses_all_fuel = uses_all_fuel;
  wants_fuel_for_read = wants_fuel_for_read;
  wants_fuel_for_write = wants_fuel_for_write;
  counts_twice = counts_twice;
  undoes_both = undoes_both;
  counts_again = counts_again;
  bump_approved = bump_approved;
  bump_committed = bump_committed;
  bump_changes = bump_changes;
  two_approved = two_approved;
  two_committed = two_committed;
  two_change = two_change;
  want_is_receipt = want_is_receipt;
  want_changes_nothing = want_changes_nothing;
  second_want_is_receipt = second_want_is_receipt;
  second_want_changes_nothing = second_want_changes_nothing;
  again_approved = again_approved;
  each_committed = each_committed;
  each_changes = each_changes;
}
