-- What running transactions one after the other comes to.
use Rattle.std.specs.Prelude.{List}
use Rattle.ecf_journals.specs.Journals.{entries_of}
use Rattle.ecf_lang.specs.declared.receipt.Entry.{Entry}
use Rattle.ecf_lang.specs.declared.tx.Tx.{Tx}
use Rattle.ecf_lang.specs.declared.typed.Typed.{Typed}
use Rattle.ecf_verdicts.specs.Journals.{places}
use Rattle.ecf_verdicts.specs.Receipts.{serial}

-- the journal's entries of transactions that run in their order
abbrev pub entries_in_order : Typed → List Tx → List Entry
entries_in_order typed txs = entries_of (places txs) (serial typed txs).receipts
