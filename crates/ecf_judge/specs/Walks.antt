-- Rows of bits in place of "before".
use Rattle.std.specs.Prelude.{◌≡◌, ℕ, List}
use Rattle.ecf_graph.specs.Rows.{is_in_row}
use Rattle.ecf_lang.specs.declared.run.Step.{Step}
use Rattle.ecf_verdicts.specs.Before.{before}

-- i is in the row of j exactly where it is before j
abbrev pub RowsTell : List Step → List (List ℕ) → Type 0
RowsTell t rows = (i j : ℕ) → is_in_row rows j i ≡ before t i j
