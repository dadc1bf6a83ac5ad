-- What is told of a run alone, as the program has it and as it is defined.
use Rattle.std.specs.Prelude.{◌≡◌, ℕ, List, map}
use Rattle.ecf_isolate.specs.declared.alone.AloneRun.{AloneRun}
use Rattle.ecf_lang.specs.declared.run.Outcome.{Outcome}
use Rattle.ecf_lang.specs.declared.run.Outcome.TheVariants.{Answer}
use Rattle.ecf_lang.specs.declared.run.Step.{Step}
use Rattle.ecf_lang.specs.Alone.{Lone}
use Rattle.ecf_lang.specs.Store.{Store}
use Rattle.ecf_removed.specs.LoneRuns.{LoneRuns}

-- whose run it was, how it ended, and its steps
pub record RunEnd : Type 0 where
  pub inv : ℕ
  pub outcome : Outcome
  pub steps : List Step

-- of a run that is told with its answer
abbrev pub end_of : AloneRun → RunEnd
end_of run = record { inv = run.inv; outcome = Answer run.answer; steps = run.steps }

-- of a run of the definition, with its invocation's number
abbrev pub end_of_lone : ℕ × Lone → RunEnd
end_of_lone numbered = record { inv = numbered.0; outcome = numbered.1.outcome; steps = numbered.1.steps }

-- these runs, and the fields after the last, are those of the definition
pub record AreLoneRuns (meant : LoneRuns) (runs : List AloneRun) (after : Store) : Type 0 where
  pub ends : map end_of runs ≡ map end_of_lone meant.runs
  pub fields : after ≡ meant.fields
