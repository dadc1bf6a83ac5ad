-- What is kept of a trace while it is read.
use Rattle.std.specs.Prelude.{◌≡◌, ◌≤◌, ℕ, Bool, not, ◌&&◌, ◌||◌, ◌==◌, if◌then◌else◌, List, length}
use Rattle.std.specs.List.{list_any}
use Rattle.ecf_conflict.specs.Numbering.{cell_number}
use Rattle.ecf_graph.specs.Rows.{is_member, is_in_row}
use Rattle.ecf_lang.specs.declared.cell.Cell.{Cell}
use Rattle.ecf_lang.specs.declared.run.Step.{Step}
use Rattle.ecf_verdicts.specs.Before.{before}
use Rattle.ecf_verdicts.specs.Conflicts.{same_cell}

-- i has a step on the cell
unfoldable pub touches : List Step → Cell → ℕ → Bool
touches t c i = list_any (λ u. (u.inv == i) && same_cell u.cell c) t

-- i has a write of the cell
unfoldable pub writes : List Step → Cell → ℕ → Bool
writes t c i = list_any (λ u. u.write && ((u.inv == i) && same_cell u.cell c)) t

-- for each cell the invocations that touched it and those that wrote it, and for each invocation those before it
pub record IsSeen (t : List Step) (cells : List Cell) (touched written earlier : List (List ℕ)) : Type 0 where
  pub touched_are : (c : Cell) (i : ℕ) → is_in_row touched (cell_number cells c) i ≡ touches t c i
  pub written_are : (c : Cell) (i : ℕ) → is_in_row written (cell_number cells c) i ≡ writes t c i
  pub touched_few : length touched ≤ length cells
  pub written_few : length written ≤ length cells
  pub earlier_are : (i j : ℕ) → is_in_row earlier j i ≡ before t i j

-- a step of an invocation puts before it those that touched the cell where it writes, else those that wrote it, but
-- not itself, and then the invocation into the cell's rows
pub record PutsStep (inv : ℕ) (write : Bool) (earlier touched written earlier' touched' written' : List ℕ) : Type 0 where
  pub earlier_is : (i : ℕ) → is_member earlier' i ≡ ((is_member earlier i || (if write then is_member touched i else is_member written i)) && not (i == inv))
  pub touched_is : (i : ℕ) → is_member touched' i ≡ (is_member touched i || (i == inv))
  pub written_is : (i : ℕ) → is_member written' i ≡ (is_member written i || (write && (i == inv)))
