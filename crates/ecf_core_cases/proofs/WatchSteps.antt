-- Bumps of the counter under the eyes of watches, one after the other.
use Rattle.std.proofs.Common.{◌≡◌, ℕ, [], ◌∷◌, Some, None, refl, ap, ◌∙◌}
use Rattle.std.specs.Fmt.{digits}
use Rattle.ecf_lang.specs.Meaning.{run}
use Rattle.ecf_lang.specs.Part.{pay, read_cell, write_cell, attempt_of}
use Rattle.ecf_cases.specs.Computation.{run_is, contracts, Objects}
use Rattle.ecf_cases.specs.Counter.{bump, counter, n}
use Rattle.ecf_verdicts.specs.Computing.{computing}
use Rattle.ecf_core.specs.Watches.{Watches}
use Rattle.ecf_core.specs.Ledgers.{Ledger, ledger_after, after_offs, watched_serial_from, without_offs}
use Rattle.ecf_core_cases.specs.Watching.{bump_on, counted, cap, freeze, capped, CappedAtTwo, frozen, FrozenAfterOne, FrozenTells, let_on, first_out, LetOnAfterThree}
use Rattle.ecf_core_cases.proofs.StepLaws.{stepping, ledger_from_run}

built : Objects counter.objects
built = search contracts depth 40 fits 4000

bumps_0 : run counter [] bump ≡ bump_on 0 1
unfolding built pay read_cell write_cell attempt_of
bumps_0 = run_is counter built [] bump

bumps_1 : run counter ((n, 1) ∷ []) bump ≡ bump_on 1 2
unfolding built pay read_cell write_cell attempt_of
bumps_1 = run_is counter built ((n, 1) ∷ []) bump

bumps_2 : run counter ((n, 2) ∷ []) bump ≡ bump_on 2 3
unfolding built pay read_cell write_cell attempt_of
bumps_2 = run_is counter built ((n, 2) ∷ []) bump

abbrev after_0 : Watches → Ledger
after_0 ws = record { receipts = []; store = []; watches = ws }

abbrev after_1 : Watches → Ledger
after_1 ws = record { receipts = counted 1 ∷ []; store = (n, 1) ∷ []; watches = ws }

abbrev after_2 : Watches → Ledger
after_2 ws = record { receipts = counted 1 ∷ counted 2 ∷ []; store = (n, 2) ∷ []; watches = ws }

abbrev one : ℕ → ℕ → Watches
one most count = Some (cap most count) ∷ []

abbrev two : ℕ → ℕ → Watches
two count other = Some (freeze 1 count) ∷ Some (cap 9 other) ∷ []

cap_1 : ledger_after counter bump (after_0 (one 2 0)) ≡ after_1 (one 2 1)
unfolding computing stepping
cap_1 = ledger_from_run counter bump (after_0 (one 2 0)) (bump_on 0 1) bumps_0

cap_2 : ledger_after counter bump (after_1 (one 2 1)) ≡ after_2 (one 2 2)
unfolding computing stepping
cap_2 = ledger_from_run counter bump (after_1 (one 2 1)) (bump_on 1 2) bumps_1

cap_3 : ledger_after counter bump (after_2 (one 2 2)) ≡ capped
unfolding computing stepping
cap_3 = ledger_from_run counter bump (after_2 (one 2 2)) (bump_on 2 3) bumps_2

pub capped_at_two : CappedAtTwo
unfolding watched_serial_from without_offs
capped_at_two = ap (λ l. watched_serial_from counter [] l (bump ∷ bump ∷ [])) cap_1 ∙ ap (λ l. watched_serial_from counter [] l (bump ∷ [])) cap_2 ∙ cap_3

freeze_1 : ledger_after counter bump (after_0 (two 0 0)) ≡ after_1 (two 1 1)
unfolding computing stepping
freeze_1 = ledger_from_run counter bump (after_0 (two 0 0)) (bump_on 0 1) bumps_0

freeze_2 : ledger_after counter bump (after_1 (two 1 1)) ≡ frozen
unfolding computing stepping
freeze_2 = ledger_from_run counter bump (after_1 (two 1 1)) (bump_on 1 2) bumps_1

pub frozen_after_one : FrozenAfterOne
unfolding watched_serial_from without_offs
frozen_after_one = ap (λ l. watched_serial_from counter [] l (bump ∷ [])) freeze_1 ∙ freeze_2

pub frozen_tells : FrozenTells
unfolding digits
frozen_tells = (refl, refl, refl)

last_1 : ledger_after counter bump (record capped { watches = None ∷ [] }) ≡ let_on
unfolding computing stepping
last_1 = ledger_from_run counter bump (record capped { watches = None ∷ [] }) (bump_on 2 3) bumps_2

pub let_on_after_three : LetOnAfterThree
unfolding watched_serial_from without_offs
let_on_after_three =
    ap (λ l. watched_serial_from counter first_out l (bump ∷ bump ∷ bump ∷ [])) cap_1
    ∙ ap (λ l. watched_serial_from counter first_out l (bump ∷ bump ∷ [])) cap_2
    ∙ ap (λ l. watched_serial_from counter first_out l (bump ∷ [])) cap_3
    ∙ ap (after_offs first_out) last_1
