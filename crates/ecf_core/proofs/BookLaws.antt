-- The laws, from what holds of each book that entries lead to.
use Rattle.std.proofs.Common.{◌≡◌, ℕ, ◌<◌, ◌≤◌, ◌≢◌, ◌==◌, true, false, [], inl, inr, refl, sym, arith, subst, ap, ◌∙◌}
use Rattle.std.specs.List.{range_with_len}
use Rattle.ecf_core.specs.Counts.{entries_of}
use Rattle.ecf_lang.specs.declared.limits.TheConstants.{MAX_CLAIMS}
use Rattle.std.proofs.lemmas.Bool.{cases_eq, eq-eqb}
use Rattle.ecf_lang.specs.Genesis.{genesis}
use Rattle.ecf_verdicts.specs.Journals.{submitter_at}
use Rattle.ecf_verdicts.specs.SerialLaws.{LegalWhenWhole}
use Rattle.ecf_verdicts.specs.ListLemmas.{Each, Each_at, In_filter_from, All_from_Each}
use Rattle.ecf_core.specs.declared.book.RowState.{RowState}
use Rattle.ecf_core.specs.declared.book.RowState.TheVariants as row
use Rattle.ecf_core.specs.Book.{Opening, Book, row_at, is_claimed, is_done, earlier_rows, after}
use Rattle.ecf_core.proofs.GrowthLaws.{waiting_row}
use Rattle.ecf_core.specs.Laws.{OverOnlyWhere, NoWatchIsSerial, JournalIsLegal, LedgerIsSerial, RowsAgree, OneClaimed, TicketsRise, ThreeStales, FewEntries, EachCallIsLegal, FinishEnds}
use Rattle.ecf_core.proofs.ListLaws.{false_not_true, in_range}
use Rattle.ecf_core.proofs.RowLaws.{Done, so_far}
use Rattle.ecf_core.proofs.LedgerLaws.{plain}
use Rattle.ecf_core.proofs.ReachLaws.{sound}
use Rattle.ecf_core.proofs.CallLaws.{claim_legal, commit_legal, here_legal, release_legal, reclaim_legal, take_legal, finished}
use Rattle.ecf_core.proofs.CountLaws.{Within, within_most, numbered}

pub no_watch_is_serial : NoWatchIsSerial
no_watch_is_serial typed txs = plain typed [] (genesis typed) txs

pub journal_is_legal : JournalIsLegal
journal_is_legal o es h = so_far o.txs _ _ (sound o es h).agree

pub ledger_is_serial : LedgerIsSerial
ledger_is_serial o es h = (sound o es h).kept.ledger

pub rows_agree : RowsAgree
rows_agree o es h = let a = (sound o es h).agree in record { listed = All_from_Each _ (after o es).journal a.dones; at_number = a.numbers; receipts = (sound o es h).kept.receipts }

claimed_open : (x : RowState) → is_claimed x ≡ true → is_done x ≡ false
claimed_open (row.Free c) e = refl
claimed_open (row.Claimed t c s) e = refl
claimed_open (row.Done n) e = sym e

apart : (o : Opening) (b : Book) (p q : ℕ) → is_claimed (row_at b p) ≡ true → Each (Done b.rows) (earlier_rows o.txs q) → submitter_at o.txs p ≡ submitter_at o.txs q → p < q → ⊥
apart o b p q e turn same less = false_not_true (claimed_open (row_at b p) e) (Each_at (Done b.rows) (earlier_rows o.txs q) p turn (In_filter_from (λ z. submitter_at o.txs z == submitter_at o.txs q) (range_with_len 0 q) p (in_range 0 q p (omega arith) (omega (arith, less))) (eq-eqb _ _ same)))

pub one_claimed : OneClaimed
one_claimed o es h p q e f same =
    let a = (sound o es h).agree in
    elim (cases_eq p q) [
      | inl i ↦ i
      | inr d ↦ absurd (either (apart o (after o es) p q e (a.turns q f) same) (apart o (after o es) q p f (a.turns p e) (sym same)) d)
    ]
  where
    either : (p < q → ⊥) → (q < p → ⊥) → p ≢ q → ⊥
    either g k d = d (omega (arith, g, k))

pub tickets_rise : TicketsRise
tickets_rise o es h = (numbered o es h).ticketed.given

pub three_stales : ThreeStales
three_stales o es h t = (numbered o es h).ticketed.few t

pub few_entries : FewEntries
few_entries o es h r = within_most _ (row_at (after o es) r) ((numbered o es h).rowed r)

-- a row that was claimed too often was claimed as often as it may be
exactly_spent : (n c : ℕ) (x : RowState) → Within n x → x ≡ row.Free c → MAX_CLAIMS ≤ c → c ≡ MAX_CLAIMS
exactly_spent n c x w is l = omega (arith, l, (subst (Within n) is w).1)

pub over_only_where : OverOnlyWhere
over_only_where o es h over r inside open_ =
    let w = waiting_row o (after o es) over r inside open_ in
    let c = w.3 in
    (w.0, w.1, w.2, c.1 ∙ ap row.Free (exactly_spent (entries_of w.0 es) c.0 (row_at (after o es) w.0) ((numbered o es h).rowed w.0) c.1 c.2))

pub each_call_is_legal : EachCallIsLegal
each_call_is_legal o b = record {
  claims = claim_legal o b;
  commits = commit_legal o b;
  runs_here = here_legal o b;
  releases = release_legal o b;
  reclaims = reclaim_legal o b;
  takes_watch = take_legal o b;
}

pub finish_ends : LegalWhenWhole → FinishEnds
finish_ends whole o es h = let f = finished whole o (after o es) (sound o es h) in record { legal = f.legal; done = All_from_Each _ _ f.done; whole = f.whole }
