-- What a book gives is of its contract and its transactions.
use Rattle.std.proofs.Common.{◌≡◌, ◌<◌, length, ℕ, List, Option, Some, None, slice_get, ap, sym, ◌∙◌, subst}
use Rattle.std.specs.Prelude.{All}
use Rattle.std.specs.Arc.{arc_value}
use Rattle.std.proofs.lemmas.Option.{slice_get_within, get_or_from_slice_get}
use Rattle.std.proofs.lemmas.List.Elements.{All-get_or}
use Rattle.ecf_book.specs.declared.replies.Claim.{Claim}
use Rattle.ecf_book.specs.declared.replies.Claim.TheVariants as claim
use Rattle.ecf_book.specs.declared.replies.Commit.{Commit}
use Rattle.ecf_book.specs.declared.replies.Commit.TheVariants as commit
use Rattle.ecf_book.specs.declared.setup.Setup.{Setup}
use Rattle.ecf_book.specs.Recorded.{Recorded}
use Rattle.ecf_book.specs.Works.{GivesWork, GivesBack}
use Rattle.ecf_draft.specs.declared.drafts.Work.{Work}
use Rattle.ecf_draft.specs.Drafts.{DraftedWork, JudgedWork, IsDraftedUnder, IsJudgedUnder, drafted, judged}
use Rattle.ecf_lang.specs.declared.typed.Typed.{Typed}
use Rattle.ecf_lang.specs.declared.tx.Tx.{Tx}
use Rattle.ecf_lang.specs.Fits.{Fits}
use Rattle.ecf_pool.specs.Works.{IsWorkFor, IsDraftOf, IsJudgedOf, IsClaimFor, IsCommitFor}

-- what holds of all holds of the one that is found
pub all_at : {X : Type 0} (P : X → Type 0) (xs : List X) (i : ℕ) (x : X) → All P xs → slice_get xs i ≡ Some x → P x
all_at {X} P xs i x all at = subst P (get_or_from_slice_get xs i x x at) (All-get_or P xs i x (slice_get_within xs i x at) all)

some_same : {X : Type 0} (x y : X) → Some x ≡ Some y → x ≡ y
some_same {X} x y e = ap (un x) e
  where
    un : X → Option X → X
    un d None = d
    un d (Some y) = y

-- the work of a claim
pub claim_is_for : (b : Recorded) (c : Claim) → All (Fits b.setup.typed) b.setup.txs → GivesWork b c → IsClaimFor b.setup c
claim_is_for b (claim.Work work) fit gives = record { tx = gives.0.tx; fits = all_at (Fits b.setup.typed) b.setup.txs work.row (arc_value work.tx) fit gives.0.tx }
claim_is_for b claim.Later fit gives = gives
claim_is_for b claim.Over fit gives = gives
claim_is_for b claim.NoMemory fit gives = gives

-- the work, or the row, of a commit
pub commit_is_for : (b : Recorded) (j : JudgedWork) (c : Commit) → slice_get b.setup.txs j.row ≡ Some (arc_value j.tx) → IsJudgedUnder b.setup.typed j → GivesBack b j c → IsCommitFor b.setup j c
commit_is_for b j (commit.Placed seq) tx under gives = gives
commit_is_for b j (commit.Stale cell was now work) tx under gives =
    let same : arc_value j.tx ≡ arc_value work.tx = some_same (arc_value j.tx) (arc_value work.tx) (sym tx ∙ (ap (λ (r : ℕ). slice_get b.setup.txs r) (sym gives.1) ∙ gives.0.tx)) in
    record { tx = gives.0.tx; fits = subst (λ (t : Tx). Fits b.setup.typed t) same under.fits }
commit_is_for b j (commit.LastStale cell was now row ticket) tx under gives = gives.0
commit_is_for b j (commit.Gone kept) tx under gives = gives
commit_is_for b j (commit.NoMemory back) tx under gives = gives

-- the draft of a work
pub draft_is_of : (s : Setup) (typed : Typed) (work : Work) (d : DraftedWork) → s.typed ≡ typed → IsWorkFor s work → d ≡ drafted typed work → IsDraftedUnder typed d → IsDraftOf s d
draft_is_of s typed work d same for is under = record {
  tx = subst (λ (x : DraftedWork). slice_get s.txs x.work.row ≡ Some (arc_value x.work.tx)) (sym is) for.tx;
  under_contract = subst (λ (t : Typed). IsDraftedUnder t d) (sym same) under;
}

-- what was judged of a draft
pub judged_is_of : (s : Setup) (d : DraftedWork) (j : JudgedWork) → IsDraftOf s d → j ≡ judged d → ((typed : Typed) → IsDraftedUnder typed d → IsJudgedUnder typed j) → IsJudgedOf s j
judged_is_of s d j of is under = record {
  tx = subst (λ (x : JudgedWork). slice_get s.txs x.row ≡ Some (arc_value x.tx)) (sym is) of.tx;
  under_contract = under s.typed of.under_contract;
}

-- the row of a work, and of a draft, is one of these
pub work_row : (s : Setup) (work : Work) → IsWorkFor s work → work.row < length s.txs
work_row s work for = slice_get_within s.txs work.row (arc_value work.tx) for.tx

pub draft_row : (s : Setup) (d : DraftedWork) (work : Work) → IsDraftOf s d → work ≡ d.work → work.row < length s.txs
draft_row s d work of is = subst (λ (w : Work). w.row < length s.txs) (sym is) (slice_get_within s.txs d.work.row (arc_value d.work.tx) of.tx)
