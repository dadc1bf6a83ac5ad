-- What each cell holds, and how steps change it.
use Rattle.std.specs.Prelude.{⊤, ◌≡◌, ℕ, false, ◌&&◌, if◌then◌else◌, List, [], ◌∷◌}
use Rattle.ecf_lang.specs.declared.cell.Cell.{Cell}
use Rattle.ecf_lang.specs.declared.run.Step.{Step}
use Rattle.ecf_verdicts.specs.Blocks.{blocks}
use Rattle.ecf_verdicts.specs.Conflicts.{same_cell}
use Rattle.ecf_verdicts.specs.Placing.{placing}
use Rattle.ecf_verdicts.specs.Traces.{trace}

-- the number in each cell
abbrev pub Contents : Type 0
Contents = Cell → ℕ

-- the contents after a step
abbrev pub contents_after : Step → Contents → Contents
contents_after step contents cell = if step.write && same_cell step.cell cell then step.value else contents cell

-- the contents after steps
abbrev pub contents_after_all : List Step → Contents → Contents
contents_after_all [] contents = contents
contents_after_all (step ∷ steps) contents = contents_after_all steps (contents_after step contents)

-- each read among the steps has the number that its cell holds at that moment
abbrev pub ReadsGive : Contents → List Step → Type 0
ReadsGive contents [] = ⊤
ReadsGive contents (step ∷ steps) = (step.write ≡ false → step.value ≡ contents step.cell) × ReadsGive (contents_after step contents) steps

-- both hold the same in the cells of the object
abbrev pub AgreeOn : ℕ → Contents → Contents → Type 0
AgreeOn object contents other = (cell : Cell) → cell.object ≡ object → contents cell ≡ other cell

-- a trace's steps by blocks, in its named order, read what they read in the trace and end where it ends
pub record BlocksDoAlike (contents : Contents) (t : List Step) : Type 0 where
  pub reads : ReadsGive contents (blocks t (placing t).order)
  pub ends : contents_after_all (blocks t (placing t).order) contents ≡ contents_after_all t contents

-- from other contents the steps on the object read what they read among all steps, leave the object's cells as all
-- steps do, and leave each other cell as it was
pub record TraceSuffices (contents other : Contents) (steps : List Step) (object : ℕ) : Type 0 where
  pub reads : ReadsGive other (trace steps object)
  pub ends : AgreeOn object (contents_after_all steps contents) (contents_after_all (trace steps object) other)
  pub elsewhere : (cell : Cell) → (cell.object ≡ object → ⊥) → contents_after_all (trace steps object) other cell ≡ other cell
