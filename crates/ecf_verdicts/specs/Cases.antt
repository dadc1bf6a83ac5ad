-- Small traces, each with its verdict, that show a rule.
use Rattle.std.specs.Prelude.{◌≡◌, [], ◌∷◌, List}
use Rattle.ecf_lang.specs.declared.cell.Cell.{Cell}
use Rattle.ecf_lang.specs.declared.run.Step.{Step}
use Rattle.ecf_verdicts.specs.Free.{Free}
use Rattle.ecf_verdicts.specs.Traces.{trace}
use Rattle.ecf_verdicts.specs.Verdicts.{Approved, Vetoed, verdict}
use Rattle.ecf_verdicts.specs.Words.{cell, read_step, write_step, order}

-- three fields of an object
abbrev pub x : Cell
x = cell 0 0 0

abbrev pub y : Cell
y = cell 0 1 0

abbrev pub z : Cell
z = cell 0 2 0

-- a field of another object
abbrev pub other : Cell
other = cell 1 0 0

-- two readers and then a writer: both are before it
abbrev pub two_readers : List Step
two_readers = read_step 4 x 0 ∷ read_step 2 x 0 ∷ write_step 0 x 1 ∷ []

abbrev pub TwoReaders : Type 0
TwoReaders = verdict two_readers ≡ Approved (order 0 (2 ∷ 4 ∷ 0 ∷ []) ∷ [])

-- the earlier of the two readers also reads what the writer wrote elsewhere
abbrev pub first_reader_again : List Step
first_reader_again = read_step 0 x 0 ∷ read_step 2 x 0 ∷ write_step 4 x 1 ∷ write_step 4 y 1 ∷ read_step 0 y 1 ∷ []

abbrev pub FirstReaderAgain : Type 0
FirstReaderAgain = (verdict first_reader_again ≡ Vetoed 0 5 (0 ∷ 4 ∷ [])) × (Free (trace first_reader_again 0) → ⊥)

-- two objects whose traces aren't free: the least is named, whichever went wrong first
abbrev pub two_objects : List Step
two_objects =
    write_step 0 other 1 ∷ write_step 2 other 2 ∷ write_step 0 other 3 ∷
    write_step 1 x 1 ∷ write_step 3 x 2 ∷ write_step 1 x 3 ∷ []

abbrev pub TwoObjects : Type 0
TwoObjects = (verdict two_objects ≡ Vetoed 0 3 (1 ∷ 3 ∷ [])) × (Free (trace two_objects 0) → ⊥) × (Free (trace two_objects 1) → ⊥)

-- two cycles that meet: the walk from the least meets the later one first
abbrev pub two_cycles : List Step
two_cycles =
    write_step 6 x 1 ∷ write_step 2 x 1 ∷ write_step 6 x 1 ∷ write_step 4 y 1 ∷ write_step 6 y 1 ∷
    write_step 0 z 1 ∷ write_step 4 z 1 ∷ write_step 0 z 1 ∷ []

abbrev pub TwoCycles : Type 0
TwoCycles = (verdict two_cycles ≡ Vetoed 0 3 (0 ∷ 4 ∷ [])) × (Free (trace two_cycles 0) → ⊥)

-- the least of the rest only waits for a cycle, and is no part of it
abbrev pub start_outside : List Step
start_outside = write_step 2 x 1 ∷ write_step 4 x 1 ∷ write_step 2 x 1 ∷ write_step 4 y 1 ∷ write_step 0 y 1 ∷ []

abbrev pub StartOutside : Type 0
StartOutside = (verdict start_outside ≡ Vetoed 0 3 (2 ∷ 4 ∷ [])) × (Free (trace start_outside 0) → ⊥)
