-- The text of a journal, of version 1 or 2: from version 2 on a first line that tells it, a line for each entry, the stop if there was
-- one, `end`, a line for each cell.
use Rattle.std.specs.Prelude.{ℕ, ◌==◌, List, [], ◌++◌, Option, codes, if◌then◌else◌}
use Rattle.std.specs.List.{flat_map}
use Rattle.ecf_lang.specs.declared.typed.Typed.{Typed}
use Rattle.ecf_lang.specs.declared.tx.Tx.{Tx}
use Rattle.ecf_lang.specs.declared.receipt.Entry.{Entry}
use Rattle.ecf_lang.specs.declared.receipt.Stop.{Stop}
use Rattle.ecf_lang.specs.Store.{Cells}
use Rattle.ecf_texts.specs.Entries.{text_of_entries}
use Rattle.ecf_texts.specs.Stops.{stop_line}
use Rattle.ecf_texts.specs.Cells.{cell_line}

-- what stands after the entries: the stop, `end`, and the cells
abbrev pub tail_text : Typed → Option Stop → Cells → List ℕ
tail_text typed stop cells = stop_line stop ++ codes "end\n" ++ flat_map (λ p. cell_line typed p.0 p.1) cells

-- the first line, which tells the version; version 1 has none
abbrev pub head_text : ℕ → List ℕ
head_text version = if version == 2 then codes "journal 2\n" else []

-- the whole journal of a version
abbrev pub journal_text : ℕ → Typed → List Tx → List Entry → Option Stop → Cells → List ℕ
journal_text version typed txs entries stop cells = head_text version ++ text_of_entries typed txs entries 0 ++ tail_text typed stop cells
