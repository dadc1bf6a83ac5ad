-- Rounds, entry by entry; and rows, as many as there are transactions.
use Rattle.std.proofs.Common.{◌≡◌, ℕ, suc, ◌+◌, ◌<◌, Bool, true, false, if◌then◌else◌, List, [], ◌∷◌, ◌++◌, length, slice_index_or, Result, Ok, Err, IfOk, IfErr, refl, sym, ap, ◌∙◌, subst, arith}
use Rattle.std.specs.Prelude.{take, count_by, All}
use Rattle.std.proofs.lemmas.List.{append-nil, append_assoc, length-set, length-map}
use Rattle.std.proofs.Math.Seq.{take-append_seam, take-suc}
use Rattle.std.proofs.lemmas.List.Sums.{count_by_more_no, count_by_more_yes}
use Rattle.std.proofs.lemmas.List.Elements.{All-from_get_or, All-nil, All-push, All-weaker}
use Rattle.ecf_book.specs.Recorded.{Recorded, opening_of, state_of}
use Rattle.ecf_core.specs.declared.book.LogEntry.{LogEntry}
use Rattle.ecf_core.specs.declared.book.LogWhat.{LogWhat}
use Rattle.ecf_core.specs.declared.book.LogWhat.TheVariants as log
use Rattle.ecf_core.specs.declared.book.RowState.{RowState}
use Rattle.ecf_core.specs.declared.book.RowState.TheVariants as row
use Rattle.ecf_core.specs.Book.{Opening, Book, after, after_change, after_entries, after_entry, as_claimed, as_freed, as_stale, is_done, new_book, next_seq, row_at}
use Rattle.ecf_lang.specs.declared.tx.Tx.{Tx}
use Rattle.ecf_core.specs.RoundLemmas.{chain}
use Rattle.ecf_core.specs.Rounds.{IsDue, IsRound, MayAdd}
use Rattle.ecf_pool.specs.AfterRounds.{AllDone, HasBegun, IsAfterRound, IsRoundFrom}

-- nothing is added
pub none : (may : Type 0) (entries : List LogEntry) → IsRound may entries entries
none may entries = record { added = []; begins = sym (append-nil entries); allowed = All-nil (λ (e : LogEntry). MayAdd may e.what); due = tt }

-- one entry is added
pub one : (may : Type 0) (entries : List LogEntry) (e : LogEntry) → MayAdd may e.what → IsDue entries e e.what → IsRound may entries (entries ++ e ∷ [])
one may entries e may_add due = record {
  added = e ∷ [];
  begins = refl;
  allowed = All-push (λ (e : LogEntry). MayAdd may e.what) [] e (All-nil (λ (e : LogEntry). MayAdd may e.what)) may_add;
  due = (due, tt);
}

-- what may be added for a cause may be added for what the cause stands for
may_more : (may later : Type 0) → (may → later) → (what : LogWhat) → MayAdd may what → MayAdd later what
may_more may later more log.Claimed h = tt
may_more may later more (log.Placed seq) h = tt
may_more may later more (log.Stale cell was now) h = tt
may_more may later more (log.LastStale cell was now) h = tt
may_more may later more (log.Here seq) h = tt
may_more may later more log.Freed h = more h
may_more may later more (log.Finished seq) h = more h
may_more may later more (log.Off k) h = absurd h

pub more : (may later : Type 0) → (may → later) → (first second : List LogEntry) → IsRound may first second → IsRound later first second
more may later wide first second h = record {
  added = h.added;
  begins = h.begins;
  allowed = All-weaker (λ (e : LogEntry). MayAdd may e.what) (λ (e : LogEntry). MayAdd later e.what) (λ e. may_more may later wide e.what) h.added h.allowed;
  due = h.due;
}

-- one entry further
pub further : (may : Type 0) (first entries : List LogEntry) (n : ℕ) (d : LogEntry) → n < length entries → IsRound may first (take n entries) →
    MayAdd may (slice_index_or entries n d).what → IsDue (take n entries) (slice_index_or entries n d) (slice_index_or entries n d).what → IsRound may first (take (n + 1) entries)
further may first entries n d within so_far may_add due =
    let x : LogEntry = slice_index_or entries n d in
    let next : n + 1 ≡ suc n = omega arith in
    subst (λ (k : ℕ). IsRound may first (take k entries)) (sym next) (subst (λ (l : List LogEntry). IsRound may first l) (sym (take-suc entries n d within))
    (chain may first (take n entries) (take n entries ++ x ∷ []) so_far (one may (take n entries) x may_add due)))

-- a book has as many rows as its opening has transactions
rows_kept : (o : Opening) (b : Book) (r ticket : ℕ) (what : LogWhat) → length (after_change o b r ticket what).rows ≡ length b.rows
rows_kept o b r ticket log.Claimed = length-set b.rows r (as_claimed ticket (row_at b r))
rows_kept o b r ticket (log.Placed seq) = length-set b.rows r (row.Done (next_seq b))
rows_kept o b r ticket (log.Stale cell was now) = length-set b.rows r (as_stale (row_at b r))
rows_kept o b r ticket (log.LastStale cell was now) = length-set b.rows r (as_stale (row_at b r))
rows_kept o b r ticket (log.Here seq) = length-set b.rows r (row.Done (next_seq b))
rows_kept o b r ticket log.Freed = length-set b.rows r (as_freed (row_at b r))
rows_kept o b r ticket (log.Finished seq) = length-set b.rows r (row.Done (next_seq b))
rows_kept o b r ticket (log.Off k) = refl

rows_after : (o : Opening) (b : Book) (es : List LogEntry) → length (after_entries o b es).rows ≡ length b.rows
unfolding after_entries
rows_after o b [] = refl
rows_after o b (e ∷ es) = rows_after o (after_entry o b e) es ∙ rows_kept o b e.row e.ticket e.what

pub as_many_rows : (o : Opening) (es : List LogEntry) → length (after o es).rows ≡ length o.txs
as_many_rows o es = rows_after o (new_book o) es ∙ length-map o.txs (λ (t : Tx). row.Free 0)

-- all rows are Done where each is
pub all_rows : (b : Recorded) → ((r : ℕ) → r < length b.setup.txs → is_done (row_at (state_of b) r) ≡ true) → All (λ row. is_done row ≡ true) (state_of b).rows
all_rows b each = All-from_get_or (λ (x : RowState). is_done x ≡ true) (state_of b).rows (row.Free 0)
    (λ i below. each i (subst (λ (n : ℕ). i < n) (as_many_rows (opening_of b.setup) b.entries) below))

-- what was begun and went on was begun
pub begun_chain : (first second third : Recorded) → HasBegun first second → HasBegun second third → HasBegun first third
begun_chain first second third h k = record {
  setup = k.setup ∙ h.setup;
  begins = (h.begins.0 ++ k.begins.0, k.begins.1 ∙ ap (λ (l : List LogEntry). l ++ k.begins.0) h.begins.1 ∙ append_assoc first.entries h.begins.0 k.begins.0);
}

-- the first part of a history that has begun so
first_part : (n : ℕ) (before later : Recorded) → n ≡ length before.entries → HasBegun before later → take n later.entries ≡ before.entries
first_part n before later is h = ap (λ (k : ℕ). take k later.entries) is ∙ (ap (λ (l : List LogEntry). take (length before.entries) l) h.begins.1 ∙ take-append_seam before.entries h.begins.0)

-- what was looked through is what a round leaves
after_round : (may : Type 0) (gave_up : Bool) → (gave_up ≡ true → may) → (n : ℕ) (book worked later : Recorded) → n ≡ length book.entries → HasBegun book worked →
    later.setup ≡ worked.setup → take n later.entries ≡ take n worked.entries → IsRoundFrom (gave_up ≡ true) n later.entries → AllDone later → IsAfterRound may book later
after_round may gave_up cause n book worked later is h setup same round done = record {
  setup = setup ∙ h.setup;
  round = more (gave_up ≡ true) may cause book.entries later.entries
      (subst (λ (l : List LogEntry). IsRound (gave_up ≡ true) l later.entries) (same ∙ first_part n book worked is h) round);
  done = done;
}

module _ {E : Type 0} (book worked : Recorded) (h : HasBegun book worked) where
  pub round_ok : (may : Type 0) (gave_up : Bool) → (gave_up ≡ true → may) → (n : ℕ) → n ≡ length book.entries → (r : Result Recorded (Recorded × E)) →
      IfOk r (λ b. b.setup ≡ worked.setup) → IfOk r (λ b. take n b.entries ≡ take n worked.entries) → IfOk r (λ b. IsRoundFrom (gave_up ≡ true) n b.entries) → IfOk r AllDone →
      IfOk r (IsAfterRound may book)
  round_ok may gave_up cause n is (Ok b) setup same round done = after_round may gave_up cause n book worked b is h setup same round done
  round_ok may gave_up cause n is (Err e) setup same round done = done

  pub round_err : (r : Result Recorded (Recorded × E)) → IfErr r (λ refused. HasBegun worked refused.0) → IfErr r (λ refused. HasBegun book refused.0)
  round_err (Ok b) k = k
  round_err (Err e) k = begun_chain book worked e.0 h k

-- one row further, one more is counted or none
count_at : {X : Type 0} (p : X → Bool) (xs : List X) (i : ℕ) (d : X) → i < length xs → (b : Bool) → p (slice_index_or xs i d) ≡ b → count_by p (take (i + 1) xs) ≡ count_by p (take i xs) + (if b then 1 else 0)
count_at p xs i d within true e = count_by_more_yes p xs i d within e
count_at p xs i d within false e = count_by_more_no p xs i d within e ∙ sym (add_zero (count_by p (take i xs)))
  where
    add_zero : (n : ℕ) → n + 0 ≡ n
    add_zero n = omega arith

pub count_more : {X : Type 0} (p : X → Bool) (xs : List X) (i : ℕ) (d : X) → i < length xs → count_by p (take (i + 1) xs) ≡ count_by p (take i xs) + (if p (slice_index_or xs i d) then 1 else 0)
count_more p xs i d within = count_at p xs i d within (p (slice_index_or xs i d)) refl
