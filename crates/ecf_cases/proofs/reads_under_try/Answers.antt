use Rattle.ecf_cases.specs.Computation.{run_is, contracts, Objects}
use Rattle.ecf_cases.specs.ReadsUnderTry.{go, reads_under_try, ReadsStay}
use Rattle.ecf_lang.specs.Genesis.{genesis}
use Rattle.ecf_lang.specs.Part.{pay, read_cell, write_cell, attempt_of}
use Rattle.ecf_cases.proofs.reads_under_try.Goals as goal

built : Objects reads_under_try.objects
built = search contracts depth 40 fits 4000

keeps_reads : ReadsStay
unfolding built pay read_cell write_cell attempt_of
keeps_reads = run_is reads_under_try built (genesis reads_under_try) go

pub returns : goal.returns
returns c = record { keeps_reads = keeps_reads }
