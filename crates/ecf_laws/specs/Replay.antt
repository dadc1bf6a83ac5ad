-- Steps, gone through again one after the other.
use Rattle.std.specs.Prelude.{⊤, ◌≡◌, false, if◌then◌else◌, unwrap_or, List, [], ◌∷◌}
use Rattle.ecf_lang.specs.declared.run.Step.{Step}
use Rattle.ecf_lang.specs.Store.{Store, Cells, find_cell, read, set}

-- the written cells after one more step
abbrev pub after_step : Cells → Step → Cells
after_step written step = if step.write then set written step.cell step.value else written

-- the written cells after further steps
abbrev pub after_steps : Cells → List Step → Cells
after_steps written [] = written
after_steps written (step ∷ steps) = after_steps (after_step written step) steps

-- a read has the number that was written last, else the store's
abbrev pub IsSeen : Store → Cells → Step → Type 0
IsSeen store written step = step.write ≡ false → step.value ≡ unwrap_or (find_cell written step.cell) (read store step.cell)

-- each read among the steps, the first of which finds these cells written
abbrev pub AreSeen : Store → Cells → List Step → Type 0
AreSeen store written [] = ⊤
AreSeen store written (step ∷ steps) = IsSeen store written step × AreSeen store (after_step written step) steps
