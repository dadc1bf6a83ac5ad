-- The lines of a journal's entries.
use Rattle.std.specs.Prelude.{◌==◌, ℕ, ◌+◌, Bool, false, List, [], ◌∷◌, ◌++◌, length, take, drop, count_by, slice_get, Option, codes, decimal}
use Rattle.std.specs.List.{flat_map}
use Rattle.std.specs.Option.{option_map_or}
use Rattle.ecf_lang.specs.declared.typed.Typed.{Typed}
use Rattle.ecf_lang.specs.declared.tx.Tx.{Tx}
use Rattle.ecf_lang.specs.declared.tx.TxCall.{TxCall}
use Rattle.ecf_lang.specs.declared.receipt.Entry.{Entry}
use Rattle.ecf_lang.specs.declared.receipt.Receipt.{Receipt}
use Rattle.ecf_lang.specs.Signatures.{params_of}
use Rattle.ecf_texts.specs.Words.{object_name, method_name, arguments_text}
use Rattle.ecf_texts.specs.Receipts.{receipt_text}

-- the object and the method that a call names
abbrev pub callee_text : Typed → TxCall → List ℕ
callee_text typed call = object_name typed call.object ++ codes " " ++ method_name typed call.method

-- a call's arguments, each after a space
abbrev pub call_arguments_text : Typed → TxCall → List ℕ
call_arguments_text typed call = arguments_text typed (params_of typed call.method) call.args

-- the first call of a transaction, with the transaction's fuel limit
abbrev pub first_call_text : Typed → ℕ → TxCall → List ℕ
first_call_text typed limit call = callee_text typed call ++ codes " " ++ decimal limit ++ call_arguments_text typed call

-- a further call
abbrev pub further_call_text : Typed → TxCall → List ℕ
further_call_text typed call = codes " ; " ++ callee_text typed call ++ call_arguments_text typed call

-- what a transaction asks for: its calls, in their order
abbrev pub request_text : Typed → ℕ → List TxCall → List ℕ
request_text typed limit [] = []
request_text typed limit (call ∷ further) = first_call_text typed limit call ++ flat_map (further_call_text typed) further

-- a line of the journal, for the entry at this place and the submitter's entry of this number, both from 1
abbrev pub line_text : Typed → ℕ → ℕ → Tx → Receipt → List ℕ
line_text typed place number tx receipt =
    decimal place ++ codes " " ++ decimal tx.submitter ++ codes "." ++ decimal number ++ codes " "
    ++ request_text typed tx.fuel tx.calls ++ codes " -> " ++ receipt_text typed receipt ++ codes "\n"

-- the transaction of an entry
abbrev pub tx_of : List Tx → Entry → Option Tx
tx_of txs entry = slice_get txs entry.row

-- whether an entry is of that submitter
abbrev pub is_of : List Tx → ℕ → Entry → Bool
is_of txs submitter entry = option_map_or (λ (tx : Tx). tx.submitter == submitter) (tx_of txs entry) false

-- the line of an entry after the entries that stand before it; none where its transaction is missing
abbrev pub entry_line : Typed → List Tx → List Entry → Entry → List ℕ
entry_line typed txs earlier entry =
    option_map_or
    (λ (tx : Tx). line_text typed (length earlier + 1) (count_by (is_of txs tx.submitter) earlier + 1) tx entry.receipt)
    (tx_of txs entry) []

-- the lines of entries after the entries that stand before them
abbrev pub lines_after : Typed → List Tx → List Entry → List Entry → List ℕ
lines_after typed txs earlier [] = []
lines_after typed txs earlier (entry ∷ later) =
    entry_line typed txs earlier entry ++ lines_after typed txs (earlier ++ entry ∷ []) later

-- the lines of a journal's entries from a place on
abbrev pub text_of_entries : Typed → List Tx → List Entry → ℕ → List ℕ
text_of_entries typed txs entries from = lines_after typed txs (take from entries) (drop from entries)
