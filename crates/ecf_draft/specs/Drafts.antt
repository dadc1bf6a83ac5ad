-- What drafts and judged drafts are to a contract, what comes of what, and when they are drafted under a contract.
use Rattle.std.specs.Prelude.{ℕ}
use Rattle.std.specs.Arc.{arc_value}
use Rattle.std.specs.declared.alloc.Global.{Global}
use Rattle.std.specs.declared.sync.Arc.{Arc}
use Rattle.ecf_core.specs.Drafted.{IsDrafted, IsJudged, Judgement, committed_writes}
use Rattle.ecf_draft.specs.declared.drafts.Work.{Work}
use Rattle.ecf_draft.specs.declared.judging.Decision.{Decision}
use Rattle.ecf_lang.specs.declared.receipt.Receipt.{Receipt}
use Rattle.ecf_lang.specs.declared.run.Run.{Run}
use Rattle.ecf_lang.specs.declared.tx.Tx.{Tx}
use Rattle.ecf_lang.specs.declared.typed.Typed.{Typed}
use Rattle.ecf_lang.specs.Meaning.{run, kept_run}
use Rattle.ecf_lang.specs.Store.{Cells}
use Rattle.ecf_verdicts.specs.Receipts.{receipt_of}

-- a draft: a work and the run that was kept of it
pub record DraftedWork : Type 0 where
  pub work : Work
  pub run : Run

-- the draft of a work under a contract: its transaction's run on its snapshot
abbrev pub drafted : Typed → Work → DraftedWork
drafted typed work = record { work = work; run = kept_run (run typed work.snapshot (arc_value work.tx)) }

-- a draft is drafted under a contract
abbrev pub IsDraftedUnder : Typed → DraftedWork → Type 0
IsDraftedUnder typed d = IsDrafted typed (arc_value d.work.tx) d.run

-- what is decided on a run: its receipt, what it read, and what it writes where it is committed
abbrev pub decision_of : Run → Decision
decision_of kept =
    let receipt = receipt_of kept.outcome kept.fuel kept.steps in
    record { receipt = receipt; reads = kept.reads; writes = committed_writes receipt kept.writes }

-- a decision as the judgement of its transaction
abbrev pub judgement_in : Tx → Decision → Judgement
judgement_in tx d = record { tx = tx; receipt = d.receipt; reads = d.reads; writes = d.writes }

-- what was judged of a draft, for a book to commit
pub record JudgedWork : Type 0 where
  pub row : ℕ
  pub ticket : ℕ
  pub tries : ℕ
  pub tx : Arc Tx Global
  pub receipt : Receipt
  pub reads : Cells
  pub writes : Cells

-- what is judged of a draft
abbrev pub judged : DraftedWork → JudgedWork
judged d =
    let decision = decision_of d.run in
    record {
      row = d.work.row;
      ticket = d.work.ticket;
      tries = d.work.tries;
      tx = d.work.tx;
      receipt = decision.receipt;
      reads = decision.reads;
      writes = decision.writes;
    }

-- it as the judgement of its transaction
abbrev pub judgement : JudgedWork → Judgement
judgement j = record { tx = arc_value j.tx; receipt = j.receipt; reads = j.reads; writes = j.writes }

-- it is drafted under a contract
abbrev pub IsJudgedUnder : Typed → JudgedWork → Type 0
IsJudgedUnder typed j = IsJudged typed (judgement j)
