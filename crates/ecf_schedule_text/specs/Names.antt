-- What names a row: its submitter, and its number among the submitter's rows.
use Rattle.std.specs.Prelude.{ℕ, ◌+◌, ◌==◌, Bool, List, [], ◌∷◌, ◌++◌, count_by}
use Rattle.ecf_lang.specs.declared.tx.Tx.{Tx}
use Rattle.ecf_schedule_text.specs.declared.names.RowName.{RowName}

-- a transaction is of that submitter
abbrev pub is_from : ℕ → Tx → Bool
is_from submitter tx = tx.submitter == submitter

-- the name of a row behind those before it
abbrev pub name_behind : List Tx → Tx → RowName
name_behind earlier tx = record { submitter = tx.submitter; number = count_by (is_from tx.submitter) earlier + 1 }

-- the names of rows behind those before them
abbrev pub names_behind : List Tx → List Tx → List RowName
names_behind earlier [] = []
names_behind earlier (tx ∷ later) = name_behind earlier tx ∷ names_behind (earlier ++ tx ∷ []) later

-- the names of all rows
abbrev pub row_names : List Tx → List RowName
row_names txs = names_behind [] txs
