-- Runs that can be judged.
use Rattle.std.specs.Prelude.{◌≡◌}
use Rattle.ecf_lang.specs.declared.run.Run.{Run}
use Rattle.ecf_lang.specs.declared.tx.Tx.{Tx}
use Rattle.ecf_lang.specs.declared.typed.Typed.{Typed}
use Rattle.ecf_lang.specs.Meaning.{kept_run, run}
use Rattle.ecf_lang.specs.Store.{Store}
use Rattle.ecf_verdicts.specs.SerialLaws.{IsAnswer}

-- the run of a transaction on a store, which answered
pub record HasAnswered (typed : Typed) (store : Store) (tx : Tx) (result : Run) : Type 0 where
  pub is_run : result ≡ kept_run (run typed store tx)
  pub answered : IsAnswer result.outcome
