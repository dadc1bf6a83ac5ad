-- When works, drafts and what was judged are of a contract and transactions.
use Rattle.std.specs.Prelude.{◌≡◌, slice_get, Some, ⊤}
use Rattle.std.specs.Arc.{arc_value}
use Rattle.ecf_book.specs.declared.replies.Claim.{Claim}
use Rattle.ecf_book.specs.declared.replies.Claim.TheVariants as claim
use Rattle.ecf_book.specs.declared.replies.Commit.{Commit}
use Rattle.ecf_book.specs.declared.replies.Commit.TheVariants as commit
use Rattle.ecf_book.specs.declared.setup.Setup.{Setup}
use Rattle.ecf_draft.specs.declared.drafts.Work.{Work}
use Rattle.ecf_lang.specs.Fits.{Fits}
use Rattle.ecf_draft.specs.Drafts.{DraftedWork, JudgedWork, IsDraftedUnder, IsJudgedUnder}

-- a work is of this contract and these transactions: its own is the one at its row, and fits the contract
pub record IsWorkFor (s : Setup) (work : Work) : Type 0 where
  pub tx : slice_get s.txs work.row ≡ Some (arc_value work.tx)
  pub fits : Fits s.typed (arc_value work.tx)

-- a draft is of this contract and these transactions: it was drafted under the contract, and its transaction is the one at its row
pub record IsDraftOf (s : Setup) (d : DraftedWork) : Type 0 where
  pub tx : slice_get s.txs d.work.row ≡ Some (arc_value d.work.tx)
  pub under_contract : IsDraftedUnder s.typed d

-- so is what was judged of a draft
pub record IsJudgedOf (s : Setup) (j : JudgedWork) : Type 0 where
  pub tx : slice_get s.txs j.row ≡ Some (arc_value j.tx)
  pub under_contract : IsJudgedUnder s.typed j

-- the work that a claim gives, if it gives any, is of these transactions
abbrev pub IsClaimFor : Setup → Claim → Type 0
IsClaimFor s (claim.Work work) = IsWorkFor s work
IsClaimFor s claim.Later = ⊤
IsClaimFor s claim.Over = ⊤
IsClaimFor s claim.NoMemory = ⊤

-- a stale commit gives a work of these transactions, or the row that was judged; one that memory was wanting for gives back what it took
abbrev pub IsCommitFor : Setup → JudgedWork → Commit → Type 0
IsCommitFor s judged (commit.Placed seq) = ⊤
IsCommitFor s judged (commit.Stale cell was now work) = IsWorkFor s work
IsCommitFor s judged (commit.LastStale cell was now row ticket) = row ≡ judged.row
IsCommitFor s judged (commit.Gone kept) = ⊤
IsCommitFor s judged (commit.NoMemory back) = back ≡ judged
