-- A trace seen from its end, and the few pairs that keep what "before" reaches. Each list has the newest step first.
use Rattle.std.specs.Prelude.{ℕ, Bool, false, not, ◌&&◌, ◌||◌, ◌==◌, if◌then◌else◌, List, [], ◌∷◌, Option, Some, None}
use Rattle.std.specs.List.{list_any}
use Rattle.ecf_lang.specs.declared.cell.Cell.{Cell}
use Rattle.ecf_lang.specs.declared.run.Step.{Step}
use Rattle.ecf_verdicts.specs.Conflicts.{conflicts, same_cell}

-- an earlier step of i conflicts with s
unfoldable pub adds_pair : List Step → Step → ℕ → Bool
adds_pair earlier s i = list_any (λ u. (u.inv == i) && conflicts u s) earlier

-- the invocation of the newest write of the cell
unfoldable pub last_writer : List Step → Cell → Option ℕ
last_writer [] c = None
last_writer (s ∷ earlier) c = if s.write && same_cell s.cell c then Some s.inv else last_writer earlier c

-- the invocations of the reads of the cell since its newest write
unfoldable pub readers_since : List Step → Cell → List ℕ
readers_since [] c = []
readers_since (s ∷ earlier) c =
    if same_cell s.cell c then (if s.write then [] else s.inv ∷ readers_since earlier c) else readers_since earlier c

-- there is a writer, and it is i
unfoldable pub is_writer : Option ℕ → ℕ → Bool
is_writer None i = false
is_writer (Some w) i = w == i

-- a step adds the pair from its cell's last writer and, where it writes, those from the readers since
unfoldable pub adds_reduced : List Step → Step → ℕ → Bool
adds_reduced earlier s i = not (i == s.inv) &&
    (is_writer (last_writer earlier s.cell) i || (s.write && list_any (λ r. r == i) (readers_since earlier s.cell)))

-- the pairs that the steps added in this way
unfoldable pub reduced : List Step → ℕ → ℕ → Bool
reduced [] i j = false
reduced (s ∷ earlier) i j = ((s.inv == j) && adds_reduced earlier s i) || reduced earlier i j
