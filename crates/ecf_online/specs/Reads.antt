-- The log of reads, and what is kept of a cell.
use Rattle.std.specs.Prelude.{ℕ, zero, suc, ◌+◌, Bool, true, false, ◌&&◌, nat_lt, List, [], ◌∷◌, ◌++◌, length, slice_index_or, Some, None}
use Rattle.ecf_online.specs.declared.watch.Read.{Read}
use Rattle.ecf_online.specs.declared.watch.Watch.{Watch}

-- of a cell without steps
abbrev pub blank : Watch
blank = record { writer = None; readers = 0; last = 0 }

-- the read at a place of the log
abbrev pub read_at : List Read → ℕ → Read
read_at reads place = slice_index_or reads place record { inv = 0; earlier = 0 }

-- the invocations of so many reads, the one at a place first, each followed by the read before it on its cell
unfoldable pub reads_back : List Read → ℕ → ℕ → List ℕ
reads_back reads zero place = []
reads_back reads (suc n) place = (read_at reads place).inv ∷ reads_back reads n (read_at reads place).earlier

-- these reads stand in the log
unfoldable pub stand_in : List Read → ℕ → ℕ → Bool
stand_in reads zero place = true
stand_in reads (suc n) place = nat_lt place (length reads) && stand_in reads n (read_at reads place).earlier

-- the invocations that read a cell since its last write, the newest first
abbrev pub readers_of : List Read → Watch → List ℕ
readers_of reads watch = reads_back reads watch.readers watch.last

-- what is kept of a cell after a step, where the log had so many reads
abbrev pub watch_after : Watch → ℕ → ℕ → Bool → Watch
watch_after watch place inv true = record { writer = Some inv; readers = 0; last = 0 }
watch_after watch place inv false = record { writer = watch.writer; readers = watch.readers + 1; last = place }

-- the log after a step on that cell
abbrev pub reads_after : List Read → Watch → ℕ → Bool → List Read
reads_after reads watch inv true = reads
reads_after reads watch inv false = reads ++ record { inv = inv; earlier = watch.last } ∷ []
