-- A row is run on the present store only after its last stale commit.
use Rattle.std.proofs.Common.{◌≡◌, ℕ, suc, ◌<◌, ◌≤◌, List, [], ◌∷◌, ◌++◌, length, Some, inl, inr, refl, sym, ap, ◌∙◌, subst, arith}
use Rattle.std.specs.Prelude.{slice_set}
use Rattle.std.proofs.lemmas.Bool.{cases_eq}
use Rattle.std.proofs.lemmas.List.{get_or-set_same, get_or-set_other}
use Rattle.ecf_lang.specs.declared.limits.TheConstants.{MAX_STALES}
use Rattle.ecf_verdicts.specs.ListLemmas.{Has, Any_from_Has}
use Rattle.ecf_verdicts.specs.Journals.{places}
use Rattle.ecf_core.specs.declared.book.RowState.{RowState}
use Rattle.ecf_core.specs.declared.book.RowState.TheVariants as row
use Rattle.ecf_core.specs.declared.book.LogEntry.{LogEntry}
use Rattle.ecf_core.specs.declared.book.LogWhat.{LogWhat}
use Rattle.ecf_core.specs.declared.book.LogWhat.TheVariants as log
use Rattle.ecf_core.specs.Book.{Opening, Book, new_book, row_at, stales_under, has_claim_left, may_be_claimed, as_claimed, as_stale, as_freed, after_change, after}
use Rattle.ecf_core.specs.Legal.{IsLegalChange, IsHistory}
use Rattle.ecf_core.specs.Rounds.{IsLastStale, LastStaleIsLogged}
use Rattle.ecf_core.proofs.ListLaws.{none_not_some, and_left, found_in, range_high}
use Rattle.ecf_core.proofs.RowLaws.{state, state_map, held_claimed, claimed_inside}
use Rattle.ecf_core.proofs.ReachLaws.{Sound, sound_first, sound_step, goes}
use Rattle.ecf_core.proofs.CountLaws.{held_is, claimed_is, staler_is, unheld, freed_out}

-- the last stale commit of a row under a ticket, by recursion on the entries
abbrev pub Logged : List LogEntry → ℕ → ℕ → Type 0
Logged es r t = Has (λ (e : LogEntry). (e.row ≡ r) × (e.ticket ≡ t) × IsLastStale e.what) es

pub more_logged : (es fs : List LogEntry) (r t : ℕ) → Logged es r t → Logged (es ++ fs) r t
more_logged [] fs r t h = absurd h
more_logged (e ∷ es) fs r t (inl h) = inl h
more_logged (e ∷ es) fs r t (inr h) = inr (more_logged es fs r t h)

pub last_logged : (es : List LogEntry) (e : LogEntry) (r t : ℕ) → (e.row ≡ r) × (e.ticket ≡ t) × IsLastStale e.what → Logged (es ++ e ∷ []) r t
last_logged [] e r t h = inl h
last_logged (f ∷ es) e r t h = inr (last_logged es e r t h)

-- rows with as many stale commits as there may be
abbrev pub AllLogged : List LogEntry → List RowState → Type 0
AllLogged es rows = (r t n : ℕ) → stales_under t (state rows r) ≡ Some n → MAX_STALES ≤ n → Logged es r t

logged_set : (es : List LogEntry) (e : LogEntry) (rows : List RowState) (r : ℕ) (x : RowState) → r < length rows →
    ((t n : ℕ) → stales_under t x ≡ Some n → MAX_STALES ≤ n → Logged (es ++ e ∷ []) r t) → AllLogged es rows → AllLogged (es ++ e ∷ []) (slice_set rows r x)
logged_set es e rows r x inside new old = λ q t n h l. elim (cases_eq q r) [
  | inl f ↦ subst (λ z. Logged (es ++ e ∷ []) z t) (sym f) (new t n (ap (stales_under t) (sym (ap (λ z. state (slice_set rows r x) z) f ∙ get_or-set_same rows r x (row.Free 0) inside)) ∙ h) l)
  | inr f ↦ more_logged es (e ∷ []) q t (old q t n (ap (stales_under t) (sym (get_or-set_other rows r q x (row.Free 0) f)) ∙ h) l)
]

logged_step : (o : Opening) (es : List LogEntry) (b : Book) (r ticket : ℕ) (what : LogWhat) → Sound o b → AllLogged es b.rows → IsLegalChange o b r ticket what → AllLogged (es ++ record { row = r; ticket = ticket; what = what } ∷ []) (after_change o b r ticket what).rows
logged_step o es b r ticket log.Claimed s old legal =
    let is_in = found_in (may_be_claimed o b) (places o.txs) r legal.0 in
    let c = claimed_is ticket (row_at b r) (and_left (has_claim_left (row_at b r)) _ is_in.1) in
    logged_set es _ b.rows r (as_claimed ticket (row_at b r)) (omega (arith, s.agree.as_many, range_high 0 (length o.txs) r is_in.0))
    (λ t n h l. absurd (omega (arith, l, (held_is ticket c.0 0 t n (ap (stales_under t) (sym c.1) ∙ h)).1))) old
logged_step o es b r ticket (log.Placed seq) s old legal =
    logged_set es _ b.rows r _ (claimed_inside b.rows r (held_claimed ticket (row_at b r) legal.0.0 legal.0.1)) (λ t n h l. none_not_some h) old
logged_step o es b r ticket (log.Stale cell was now) s old legal =
    let c = staler_is ticket legal.0.0 (row_at b r) legal.0.1 in
    logged_set es _ b.rows r (as_stale (row_at b r)) (claimed_inside b.rows r (held_claimed ticket (row_at b r) legal.0.0 legal.0.1))
    (λ t n h l. absurd (omega (arith, l, legal.0.2, (held_is ticket c.0 (suc legal.0.0) t n (ap (stales_under t) (sym c.1) ∙ h)).1))) old
logged_step o es b r ticket (log.LastStale cell was now) s old legal =
    let c = staler_is ticket legal.0.0 (row_at b r) legal.0.1 in
    logged_set es _ b.rows r (as_stale (row_at b r)) (claimed_inside b.rows r (held_claimed ticket (row_at b r) legal.0.0 legal.0.1))
    (λ t n h l. last_logged es (record { row = r; ticket = ticket; what = log.LastStale cell was now }) r t (refl, (held_is ticket c.0 (suc legal.0.0) t n (ap (stales_under t) (sym c.1) ∙ h)).0, tt)) old
logged_step o es b r ticket (log.Here seq) s old legal =
    logged_set es _ b.rows r _ (claimed_inside b.rows r (held_claimed ticket (row_at b r) legal.0.0 legal.0.1)) (λ t n h l. none_not_some h) old
logged_step o es b r ticket log.Freed s old legal =
    logged_set es _ b.rows r (as_freed (row_at b r)) (claimed_inside b.rows r (held_claimed ticket (row_at b r) legal.0 legal.1)) (λ t n h l. absurd (unheld t (as_freed (row_at b r)) n (freed_out (row_at b r)) h)) old
logged_step o es b r ticket (log.Finished seq) s old legal =
    logged_set es _ b.rows r _ (omega (arith, s.agree.as_many, range_high 0 (length o.txs) r (found_in _ (places o.txs) r legal.1).0)) (λ t n h l. none_not_some h) old
logged_step o es b r ticket (log.Off k) s old legal = λ q t n h l. more_logged es _ q t (old q t n h l)

record Traced (o : Opening) (es : List LogEntry) (b : Book) : Type 0 where
  sound : Sound o b
  logged : AllLogged es b.rows

first_logged : (o : Opening) → AllLogged [] (new_book o).rows
first_logged o r t n h l = none_not_some (ap (stales_under t) (sym (state_map o.txs r)) ∙ h)

pub all_logged : (o : Opening) (es : List LogEntry) → IsHistory o es → AllLogged es (after o es).rows
all_logged o es h = (goes o (Traced o)
    (λ es b e n legal. record { sound = sound_step o b e n.sound legal; logged = logged_step o es b e.row e.ticket e.what n.sound n.logged legal })
    [] (new_book o) (record { sound = sound_first o; logged = first_logged o }) es h).logged

pub last_stale_is_logged : LastStaleIsLogged
last_stale_is_logged o es h r t n held l = Any_from_Has _ es (all_logged o es h r t n held l)
