-- What is kept of a trace while it is fed. The newest step comes first.
use Rattle.std.specs.Prelude.{◌≡◌, ◌≤◌, ◌<◌, ℕ, Bool, true, ◌==◌, if◌then◌else◌, List, ◌∷◌, ◌++◌, length, slice_index_or, Option, Some, None}
use Rattle.std.specs.List.{list_any}
use Rattle.ecf_conflict.specs.Numbering.{cell_number}
use Rattle.ecf_graph.specs.Pairs.{joins}
use Rattle.ecf_graph.specs.Paths.{Reaches, IsAcyclic}
use Rattle.ecf_graph.specs.Rows.{is_member}
use Rattle.ecf_lang.specs.declared.cell.Cell.{Cell}
use Rattle.ecf_lang.specs.declared.run.Step.{Step}
use Rattle.ecf_precedence.specs.Newest.{last_writer, readers_since, reduced}
use Rattle.ecf_verdicts.specs.Cycles.{is_placed, at}
use Rattle.ecf_online.specs.Closure.{IsClosure}
use Rattle.ecf_online.specs.Reads.{blank, readers_of}
use Rattle.ecf_online.specs.declared.watch.Read.{Read}
use Rattle.ecf_online.specs.declared.watch.Watch.{Watch}

-- the step s closed the first cycle
pub record ClosesFirst (e : List Step) (k : ℕ) (later : List Step) (s : Step) (earlier : List Step) : Type 0 where
  pub parts : e ≡ later ++ s ∷ earlier
  pub size : k ≡ length (s ∷ earlier)
  pub none_before : IsAcyclic (reduced earlier)
  pub closed : Reaches (reduced (s ∷ earlier)) s.inv s.inv

-- no first part has a cycle, or that of k steps is the first that has
abbrev pub IsFirstCycle : List Step → Option ℕ → Type 0
IsFirstCycle e None = IsAcyclic (reduced e)
IsFirstCycle e (Some k) = (later : List Step) × (s : Step) × (earlier : List Step) × ClosesFirst e k later s earlier

-- what is kept of a cell
abbrev pub watch_of : List Cell → List Watch → Cell → Watch
watch_of cells watches c = slice_index_or watches (cell_number cells c) blank

-- for each cell its last writer and the readers since, the pairs that the steps added, the rows of what reaches what, the
-- number of steps, and the first part with a cycle
pub record IsWatched (e : List Step) (cells : List Cell) (watches : List Watch) (reads : List Read) (rows : List (List ℕ)) (pairs : List (ℕ × ℕ)) (count : ℕ) (first : Option ℕ) : Type 0 where
  pub writers_are : (c : Cell) → (watch_of cells watches c).writer ≡ last_writer e c
  pub readers_are : (c : Cell) → readers_of reads (watch_of cells watches c) ≡ readers_since e c
  pub pairs_are : (i j : ℕ) → joins pairs i j ≡ reduced e i j
  pub closure : IsClosure (reduced e) rows
  pub counted : count ≡ length e
  pub first_is : IsFirstCycle e first

-- the first part with a cycle, after a step that closed one or didn't
unfoldable pub first_with : Option ℕ → Bool → ℕ → Option ℕ
first_with (Some k) closes count = Some k
first_with None closes count = if closes then Some count else None

-- the number of steps of the shortest first part that isn't free, where there is one
unfoldable pub first_not_free : List Step → Option ℕ
first_not_free t = if is_placed t then None else Some (at t)

-- the invocations with steps, as a set, and a number above them
pub record HasSeen (e : List Step) (seen : List ℕ) (above : ℕ) : Type 0 where
  pub seen_are : (i : ℕ) → is_member seen i ≡ list_any (λ (s : Step). s.inv == i) e
  pub above_all : (i : ℕ) → list_any (λ (s : Step). s.inv == i) e ≡ true → i < above
  pub above_few : above ≤ 65536
