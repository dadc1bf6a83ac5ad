-- What holds of each book that legal entries lead to.
use Rattle.std.proofs.Common.{◌≡◌, ℕ, ◌<◌, not, Some, List, [], ◌∷◌, ◌++◌, length, sym, subst, arith}
use Rattle.ecf_verdicts.specs.Journals.{places}
use Rattle.std.proofs.lemmas.List.{append_assoc, append-nil}
use Rattle.ecf_core.specs.declared.book.LogEntry.{LogEntry}
use Rattle.ecf_core.specs.declared.book.LogWhat.{LogWhat}
use Rattle.ecf_core.specs.declared.book.LogWhat.TheVariants as log
use Rattle.ecf_core.specs.Book.{Opening, Book, new_book, row_at, is_done, stales_under, after_change, after_entry, after_entries, after}
use Rattle.ecf_core.specs.Legal.{IsLegalChange, IsLegalEntry, AreLegal, IsHistory}
use Rattle.ecf_core.proofs.ListLaws.{range_high, found_in}
use Rattle.ecf_core.proofs.RowLaws.{Agree, agree_step, at_first, held_claimed, claimed_inside}
use Rattle.ecf_core.proofs.LedgerLaws.{Kept, kept_first, kept_placed, kept_off}

-- by induction on the entries, of which those so far are known
pub goes : (o : Opening) (P : List LogEntry → Book → Type 0) → ((es : List LogEntry) (b : Book) (e : LogEntry) → P es b → IsLegalEntry o b e → P (es ++ e ∷ []) (after_entry o b e)) → (es : List LogEntry) (b : Book) → P es b → (more : List LogEntry) → AreLegal o b more → P (es ++ more) (after_entries o b more)
unfolding after_entries
goes o P step es b p [] h = subst (λ l. P l b) (sym (append-nil es)) p
goes o P step es b p (e ∷ more) h = subst (λ l. P l (after_entries o (after_entry o b e) more)) (append_assoc es (e ∷ []) more) (goes o P step (es ++ e ∷ []) (after_entry o b e) (step es b e p h.0) more h.1)

-- what stands from the opening on
pub record Sound (o : Opening) (b : Book) : Type 0 where
  pub agree : Agree o.txs b.rows b.journal
  pub kept : Kept o.typed o.watches o.txs b.journal b.offs b.ledger

pub sound_first : (o : Opening) → Sound o (new_book o)
sound_first o = record { agree = at_first o.txs; kept = kept_first o.typed o.watches o.txs }

held_known : (o : Opening) (b : Book) (r ticket n : ℕ) → Agree o.txs b.rows b.journal → stales_under ticket (row_at b r) ≡ Some n → r < length o.txs
held_known o b r ticket n agree held = omega (arith, agree.as_many, claimed_inside b.rows r (held_claimed ticket (row_at b r) n held))

kept_step : (o : Opening) (b : Book) (r ticket : ℕ) (what : LogWhat) → Sound o b → IsLegalChange o b r ticket what → (let c = after_change o b r ticket what in Kept o.typed o.watches o.txs c.journal c.offs c.ledger)
kept_step o b r ticket log.Claimed s legal = s.kept
kept_step o b r ticket (log.Placed seq) s legal = kept_placed o.typed o.watches o.txs b.journal b.offs b.ledger r s.kept (held_known o b r ticket legal.0.0 s.agree legal.0.1)
kept_step o b r ticket (log.Stale cell was now) s legal = s.kept
kept_step o b r ticket (log.LastStale cell was now) s legal = s.kept
kept_step o b r ticket (log.Here seq) s legal = kept_placed o.typed o.watches o.txs b.journal b.offs b.ledger r s.kept (held_known o b r ticket legal.0.0 s.agree legal.0.1)
kept_step o b r ticket log.Freed s legal = s.kept
kept_step o b r ticket (log.Finished seq) s legal = kept_placed o.typed o.watches o.txs b.journal b.offs b.ledger r s.kept (omega (arith, range_high 0 (length o.txs) r (found_in (λ q. not (is_done (row_at b q))) (places o.txs) r legal.1).0))
kept_step o b r ticket (log.Off k) s legal = kept_off o.typed o.watches o.txs b.journal b.offs b.ledger k s.kept

pub sound_step : (o : Opening) (b : Book) (e : LogEntry) → Sound o b → IsLegalEntry o b e → Sound o (after_entry o b e)
sound_step o b e s legal = record { agree = agree_step o b e.row e.ticket e.what s.agree legal; kept = kept_step o b e.row e.ticket e.what s legal }

pub sound_from : (o : Opening) (b : Book) → Sound o b → (es : List LogEntry) → AreLegal o b es → Sound o (after_entries o b es)
sound_from o b s es h = goes o (λ _ c. Sound o c) (λ _ c e t legal. sound_step o c e t legal) [] b s es h

pub sound : (o : Opening) (es : List LogEntry) → IsHistory o es → Sound o (after o es)
sound o es h = sound_from o (new_book o) (sound_first o) es h
