-- The outside world at a moment, as far as it is told: what the shelf and the source have, what out and note hold, and how
-- often each of them failed.
use Rattle.std.specs.Prelude.{ℕ, List, Option}
use Rattle.ecf_edge.specs.Shelf.{Files}
use Rattle.ecf_edge.specs.declared.shelf.Shelf.{Ghosts as ShelfGhosts}
use Rattle.ecf_edge.specs.declared.source.Source.{Ghosts as SourceGhosts}
use Rattle.ecf_edge.specs.declared.sink.Sink.{Ghosts as SinkGhosts}

-- the files of a shelf, and how many fetches failed, found a content that was too long, or found nothing
pub record ShelfState : Type 0 where
  pub files : Option Files
  pub faults : ℕ
  pub long_answers : ℕ
  pub absences : ℕ

-- what is left of a source, and how many reads failed
pub record SourceState : Type 0 where
  pub left : Option (List ℕ)
  pub faults : ℕ

-- what a sink holds, and how many writes failed
pub record SinkState : Type 0 where
  pub held : Option (List ℕ)
  pub faults : ℕ

-- what a command fetches and reads from
pub record Inputs : Type 0 where
  pub shelf : ShelfState
  pub source : SourceState

-- all that a command has to do with
pub record World : Type 0 where
  pub inputs : Inputs
  pub out : SinkState
  pub note : SinkState

-- the states of objects, from what their traits tell
abbrev pub shelf_state : {F : Type 0} → ShelfGhosts F → F → ShelfState
shelf_state F shelf = record { files = F.contents shelf; faults = F.faults shelf; long_answers = F.long_answers shelf; absences = F.absences shelf }

abbrev pub source_state : {S : Type 0} → SourceGhosts S → S → SourceState
source_state S source = record { left = S.left source; faults = S.faults source }

abbrev pub sink_state : {K : Type 0} → SinkGhosts K → K → SinkState
sink_state K sink = record { held = K.held sink; faults = K.faults sink }

abbrev pub inputs : {F S : Type 0} → ShelfGhosts F → SourceGhosts S → F → S → Inputs
inputs F S shelf source = record { shelf = shelf_state F shelf; source = source_state S source }

abbrev pub world : {F S K N : Type 0} → ShelfGhosts F → SourceGhosts S → SinkGhosts K → SinkGhosts N → F → S → K → N → World
world F S K N shelf source out note = record {
  inputs = inputs F S shelf source;
  out = sink_state K out;
  note = sink_state N note;
}
