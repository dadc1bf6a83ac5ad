-- Bumps of the counter under the eyes of watches.
use Rattle.std.specs.Prelude.{◌≡◌, ℕ, List, [], ◌∷◌, Some, None, codes}
use Rattle.ecf_lang.specs.declared.receipt.Receipt.{Receipt}
use Rattle.ecf_lang.specs.declared.receipt.Receipt.TheVariants.{Committed, Barred}
use Rattle.ecf_lang.specs.declared.run.Outcome.TheVariants.{Answer}
use Rattle.ecf_lang.specs.Meaning.{RunResult}
use Rattle.ecf_cases.specs.Counter.{bump, counter, n}
use Rattle.ecf_cases.specs.Words.{invocation}
use Rattle.ecf_verdicts.specs.Words.{read_step, write_step}
use Rattle.ecf_core.specs.declared.watch.WatchSpec.TheVariants.{Cap, Freeze}
use Rattle.ecf_core.specs.Ledgers.{Ledger, Off, watched_serial}
use Rattle.ecf_core.specs.Watches.{Watch, told_at}

-- the run of a bump, by the number before and after
abbrev pub bump_on : ℕ → ℕ → RunResult
bump_on was now = record {
  outcome = Answer now;
  fuel = 14;
  store = (n, now) ∷ [];
  steps = read_step 0 n was ∷ write_step 0 n now ∷ read_step 0 n now ∷ [];
  invocations = invocation 0 0 [] (Some now) [] 14 ∷ [];
  reads = (n, was) ∷ [];
  writes = (n, now) ∷ [];
}

-- its receipt
abbrev pub counted : ℕ → Receipt
counted now = Committed now 14 []

-- a watch that caps the counter's bumps
abbrev pub cap : ℕ → ℕ → Watch
cap most count = record { spec = Cap 0 most; count = count }

-- a watch that freezes the counter
abbrev pub freeze : ℕ → ℕ → Watch
freeze last count = record { spec = Freeze 0 last; count = count }

-- at most two bumps, of three
abbrev pub capped : Ledger
capped = record { receipts = counted 1 ∷ counted 2 ∷ Barred 0 14 ∷ []; store = (n, 2) ∷ []; watches = Some (cap 2 2) ∷ [] }

-- the third is barred, and changes nothing
abbrev pub CappedAtTwo : Type 0
CappedAtTwo = watched_serial counter (cap 2 0 ∷ []) [] (bump ∷ bump ∷ bump ∷ []) ≡ capped

-- none after the first, of two
abbrev pub frozen : Ledger
frozen = record { receipts = counted 1 ∷ Barred 0 14 ∷ []; store = (n, 1) ∷ []; watches = Some (freeze 1 1) ∷ Some (cap 9 1) ∷ [] }

-- the second is barred by the first watch, and the second watch isn't shown it
abbrev pub FrozenAfterOne : Type 0
FrozenAfterOne = watched_serial counter (freeze 1 0 ∷ cap 9 0 ∷ []) [] (bump ∷ bump ∷ []) ≡ frozen

-- what these two tell then, and what is told where none is
abbrev pub FrozenTells : Type 0
FrozenTells =
    (told_at frozen.watches 0 ≡ codes "freeze 0 1 at 1") × (told_at frozen.watches 1 ≡ codes "cap 0 9 at 1") × (told_at frozen.watches 2 ≡ codes "none")

-- at most two, but the watch is taken out after the third
abbrev pub let_on : Ledger
let_on = record { receipts = counted 1 ∷ counted 2 ∷ Barred 0 14 ∷ counted 3 ∷ []; store = (n, 3) ∷ []; watches = None ∷ [] }

-- the place of the first watch, taken out after three transactions
abbrev pub first_out : List Off
first_out = record { after = 3; watch = 0 } ∷ []

-- a watch that was taken out sees nothing later
abbrev pub LetOnAfterThree : Type 0
LetOnAfterThree = watched_serial counter (cap 2 0 ∷ []) first_out (bump ∷ bump ∷ bump ∷ bump ∷ []) ≡ let_on
