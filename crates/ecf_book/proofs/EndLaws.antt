-- Rows given back and placed one after the other: what there is to do doesn't change.
use Rattle.std.proofs.Common.{◌≡◌, ℕ, suc, zero, ◌+◌, ◌<◌, ◌≤◌, false, List, [], ◌∷◌, ◌++◌, length, take, drop, true, map, refl, sym, ap, ◌∙◌, subst, arith}
use Rattle.std.specs.Prelude.{slice_index_or}
use Rattle.std.proofs.lemmas.List.{append_assoc, append-nil, length-set, length-append, drop-set-lt, take_at}
use Rattle.ecf_book.specs.Answering.{WasGiven, LeftOff}
use Rattle.ecf_book.specs.Recorded.{Recorded, opening_of, state_of, with_entries}
use Rattle.ecf_book.specs.Steps.{MayCome, entry, freeing_row, finishing_row, standing}
use Rattle.ecf_rows.specs.Standing.{AreDoneBefore}
use Rattle.ecf_book.proofs.FindLaws.{false_not_true}
use Rattle.ecf_book.proofs.HistoryLaws.{more_twice, state_more, state_one, legal_rest}
use Rattle.ecf_core.specs.declared.book.LogEntry.{LogEntry}
use Rattle.ecf_core.specs.declared.book.LogWhat.TheVariants as log
use Rattle.ecf_core.specs.declared.book.RowState.{RowState}
use Rattle.ecf_core.specs.declared.book.RowState.TheVariants as row
use Rattle.ecf_core.specs.declared.event.Reply.TheVariants as reply
use Rattle.ecf_core.specs.Book.{Opening, Book, row_at, next_seq, is_done, as_freed, after_entries}
use Rattle.ecf_core.specs.Calls.{freeing_entries, finishing_entry, finishing_entries, finish, reclaim}
use Rattle.ecf_core.specs.Laws.{FinishEnds}
use Rattle.ecf_core.specs.Legal.{AreLegal, IsHistory, IsLegalEntry}
use Rattle.ecf_core.specs.Replies.{ReclaimFreesAll}

-- rows given back up to a place: the entries so far, and that those left are the rest
pub record IsReclaimed (start now : Recorded) (row count : ℕ) : Type 0 where
  pub done : List LogEntry
  pub added : now ≡ with_entries start done
  pub left : done ++ freeing_entries row (drop row (state_of now).rows) ≡ freeing_entries 0 (state_of start).rows
  pub counted : count ≡ length done
  pub few : count ≤ row
  pub as_many : length (state_of now).rows ≡ length (state_of start).rows

drop_nil : {X : Type 0} (n : ℕ) → drop {A = X} n [] ≡ []
drop_nil zero = refl
drop_nil (suc n) = refl

one_more : (r : ℕ) → suc r ≡ r + 1
one_more r = omega arith

no_more : (r : ℕ) → r + 0 ≡ r
no_more r = omega arith

from_none : (n : ℕ) → n ≡ 0 + n
from_none n = omega arith

next_place : (at n : ℕ) → at + suc n ≡ suc at + n
next_place at n = omega arith

-- the next row's entry, and the rest
freeing_next : (rows : List RowState) (r at : ℕ) → freeing_entries at (drop r rows) ≡ freeing_row at (slice_index_or rows r (row.Free 0)) ++ freeing_entries (suc at) (drop (suc r) rows)
unfolding freeing_entries
freeing_next [] r at = ap (freeing_entries at) (drop_nil r)
freeing_next (row.Free c ∷ rows) zero at = refl
freeing_next (row.Claimed t c s ∷ rows) zero at = refl
freeing_next (row.Done n ∷ rows) zero at = refl
freeing_next (x ∷ rows) (suc r) at = freeing_next rows r at

-- the rows behind a row stay when it is given back
freed_behind : (b : Recorded) (r : ℕ) (x : RowState) → drop (suc r) (state_of (with_entries b (freeing_row r x))).rows ≡ drop (suc r) (state_of b).rows
unfolding after_entries
freed_behind b r (row.Free c) = ap (drop (suc r)) (ap (λ (s : Book). s.rows) (state_more b []))
freed_behind b r (row.Claimed t c s) = ap (λ (z : Book). drop (suc r) z.rows) (state_one b (entry r t log.Freed)) ∙ drop-set-lt (suc r) (state_of b).rows r (as_freed (row_at (state_of b) r)) (omega arith)
freed_behind b r (row.Done n) = ap (drop (suc r)) (ap (λ (s : Book). s.rows) (state_more b []))

freed_many : (b : Recorded) (r : ℕ) (x : RowState) → length (state_of (with_entries b (freeing_row r x))).rows ≡ length (state_of b).rows
unfolding after_entries
freed_many b r (row.Free c) = ap (λ (s : Book). length s.rows) (state_more b [])
freed_many b r (row.Claimed t c s) = ap (λ (z : Book). length z.rows) (state_one b (entry r t log.Freed)) ∙ length-set (state_of b).rows r (as_freed (row_at (state_of b) r))
freed_many b r (row.Done n) = ap (λ (s : Book). length s.rows) (state_more b [])

one_at_most : (r : ℕ) (x : RowState) → length (freeing_row r x) ≤ 1
one_at_most r (row.Free c) = omega arith
one_at_most r (row.Claimed t c s) = omega arith
one_at_most r (row.Done n) = omega arith

-- Done rows are passed over
none_freed : (rows : List RowState) (n at : ℕ) → ((r : ℕ) → r < n → is_done (slice_index_or rows r (row.Free 0)) ≡ true) → freeing_entries (at + n) (drop n rows) ≡ freeing_entries at rows
unfolding freeing_entries
none_freed rows zero at done = ap (λ k. freeing_entries k rows) (no_more at)
none_freed [] (suc n) at done = refl
none_freed (row.Free c ∷ rows) (suc n) at done = false_not_true refl (done 0 (omega arith))
none_freed (row.Claimed t c s ∷ rows) (suc n) at done = false_not_true refl (done 0 (omega arith))
none_freed (row.Done m ∷ rows) (suc n) at done = ap (λ k. freeing_entries k (drop n rows)) (next_place at n) ∙ none_freed rows n (suc at) (λ r l. done (suc r) (omega (arith, l)))

pub reclaimed_first : (b : Recorded) (n : ℕ) → AreDoneBefore (standing b) n → IsReclaimed b b n 0
reclaimed_first b n done = record {
  done = [];
  added = ap (λ l. record { setup = b.setup; entries = l }) (sym (append-nil b.entries));
  left = ap (λ k. freeing_entries k (drop n (state_of b).rows)) (from_none n) ∙ none_freed (state_of b).rows n 0 done;
  counted = refl;
  few = omega arith;
  as_many = refl;
}

pub reclaimed_next : (start now later : Recorded) (r count more : ℕ) → IsReclaimed start now r count → later ≡ with_entries now (freeing_row r (row_at (state_of now) r))
    → more ≡ length (freeing_row r (row_at (state_of now) r)) → IsReclaimed start later (r + 1) (count + more)
reclaimed_next start now later r count more h added is =
    let x : RowState = row_at (state_of now) r in
    let es : List LogEntry = freeing_row r x in
    subst (λ (z : Recorded). IsReclaimed start z (r + 1) (count + more)) (sym added) (subst (λ (k : ℕ). IsReclaimed start (with_entries now es) k (count + more)) (one_more r) (record {
      done = h.done ++ es;
      added = ap (λ (z : Recorded). with_entries z es) h.added ∙ more_twice start h.done es;
      left = ap (λ l. (h.done ++ es) ++ freeing_entries (suc r) l) (freed_behind now r x) ∙ append_assoc h.done es (freeing_entries (suc r) (drop (suc r) (state_of now).rows))
          ∙ ap (λ l. h.done ++ l) (sym (freeing_next (state_of now).rows r r)) ∙ h.left;
      counted = (let a = h.counted in omega (arith, a, is, length-append h.done es));
      few = (let a = h.few in omega (arith, a, is, one_at_most r x));
      as_many = freed_many now r x ∙ h.as_many;
    }))

past_end : (rows : List RowState) (n : ℕ) → length rows ≤ n → drop n rows ≡ []
past_end [] n l = drop_nil n
past_end (x ∷ rows) zero l = absurd (omega (arith, l))
past_end (x ∷ rows) (suc n) l = past_end rows n (omega (arith, l))

pub reclaimed_all : (start now : Recorded) (n count : ℕ) → IsReclaimed start now n count → n ≡ length (state_of start).rows → WasGiven (reclaim (state_of start)) (reply.Reclaimed count) start now
unfolding reclaim freeing_entries
reclaimed_all start now n count h all =
    let many = h.as_many in
    let whole : h.done ≡ freeing_entries 0 (state_of start).rows = sym (append-nil h.done) ∙ ap (λ l. h.done ++ freeing_entries n l) (sym (past_end (state_of now).rows n (omega (arith, all, many)))) ∙ h.left in
    record { reply = ap (λ k. reply.Reclaimed k) (h.counted ∙ ap (λ l. length l) whole); added = h.added ∙ ap (with_entries start) whole }

-- rows placed up to a place, when all work ends
pub record IsPlacedTo (start now : Recorded) (row : ℕ) : Type 0 where
  pub done : List LogEntry
  pub added : now ≡ with_entries start done
  pub left : done ++ finishing_entries row (next_seq (state_of now)) (drop row (state_of now).rows) ≡ finishing_entries 0 (next_seq (state_of start)) (state_of start).rows
  pub as_many : length (state_of now).rows ≡ length (state_of start).rows

-- the next row's entry, and the rest, by the number after it
number_after : ℕ → RowState → ℕ
number_after seq (row.Free c) = suc seq
number_after seq (row.Claimed t c s) = suc seq
number_after seq (row.Done n) = seq

finishing_next : (rows : List RowState) (r at seq : ℕ) → r < length rows
    → finishing_entries at seq (drop r rows) ≡ finishing_row at seq (slice_index_or rows r (row.Free 0)) ++ finishing_entries (suc at) (number_after seq (slice_index_or rows r (row.Free 0))) (drop (suc r) rows)
unfolding finishing_entries number_after
finishing_next [] r at seq l = absurd (omega (arith, l))
finishing_next (row.Free c ∷ rows) zero at seq l = refl
finishing_next (row.Claimed t c s ∷ rows) zero at seq l = refl
finishing_next (row.Done n ∷ rows) zero at seq l = refl
finishing_next (x ∷ rows) (suc r) at seq l = finishing_next rows r at seq (omega (arith, l))

-- what is placed of a row leaves the rows behind it, their number, and the next number
record PlacedRow (b later : Recorded) (r : ℕ) (x : RowState) : Type 0 where
  pub behind : drop (suc r) (state_of later).rows ≡ drop (suc r) (state_of b).rows
  pub many : length (state_of later).rows ≡ length (state_of b).rows
  pub number : next_seq (state_of later) ≡ number_after (next_seq (state_of b)) x

placed_one : (b : Recorded) (r : ℕ) → let later = with_entries b (finishing_entry r (next_seq (state_of b)) ∷ []) in
    (drop (suc r) (state_of later).rows ≡ drop (suc r) (state_of b).rows) × (length (state_of later).rows ≡ length (state_of b).rows) × (next_seq (state_of later) ≡ suc (next_seq (state_of b)))
placed_one b r =
    let seq = next_seq (state_of b) in
    let now = state_one b (finishing_entry r seq) in (
      ap (λ (z : Book). drop (suc r) z.rows) now ∙ drop-set-lt (suc r) (state_of b).rows r (row.Done seq) (omega arith),
      ap (λ (z : Book). length z.rows) now ∙ length-set (state_of b).rows r (row.Done seq),
      ap (λ (z : Book). next_seq z) now ∙ ap suc (length-append (state_of b).journal (r ∷ []) ∙ omega arith),
    )

placed_row : (b : Recorded) (r : ℕ) (x : RowState) → PlacedRow b (with_entries b (finishing_row r (next_seq (state_of b)) x)) r x
unfolding number_after after_entries
placed_row b r (row.Free c) = (let p = placed_one b r in record { behind = p.0; many = p.1; number = p.2 })
placed_row b r (row.Claimed t c s) = (let p = placed_one b r in record { behind = p.0; many = p.1; number = p.2 })
placed_row b r (row.Done n) = (let now = state_more b [] in record { behind = ap (λ (z : Book). drop (suc r) z.rows) now; many = ap (λ (z : Book). length z.rows) now; number = ap (λ (z : Book). next_seq z) now })

none_placed : (rows : List RowState) (n at seq : ℕ) → ((r : ℕ) → r < n → is_done (slice_index_or rows r (row.Free 0)) ≡ true) → finishing_entries (at + n) seq (drop n rows) ≡ finishing_entries at seq rows
unfolding finishing_entries
none_placed rows zero at seq done = ap (λ k. finishing_entries k seq rows) (no_more at)
none_placed [] (suc n) at seq done = refl
none_placed (row.Free c ∷ rows) (suc n) at seq done = false_not_true refl (done 0 (omega arith))
none_placed (row.Claimed t c s ∷ rows) (suc n) at seq done = false_not_true refl (done 0 (omega arith))
none_placed (row.Done m ∷ rows) (suc n) at seq done = ap (λ k. finishing_entries k seq (drop n rows)) (next_place at n) ∙ none_placed rows n (suc at) seq (λ r l. done (suc r) (omega (arith, l)))

pub placed_first : (b : Recorded) (n : ℕ) → AreDoneBefore (standing b) n → IsPlacedTo b b n
placed_first b n done = record {
  done = [];
  added = ap (λ l. record { setup = b.setup; entries = l }) (sym (append-nil b.entries));
  left = ap (λ k. finishing_entries k (next_seq (state_of b)) (drop n (state_of b).rows)) (from_none n) ∙ none_placed (state_of b).rows n 0 (next_seq (state_of b)) done;
  as_many = refl;
}

-- what is left, by the next row
left_next : (start now : Recorded) (r : ℕ) (h : IsPlacedTo start now r) → r < length (state_of start).rows → let x = row_at (state_of now) r in let seq = next_seq (state_of now) in
    h.done ++ (finishing_row r seq x ++ finishing_entries (suc r) (number_after seq x) (drop (suc r) (state_of now).rows)) ≡ finishing_entries 0 (next_seq (state_of start)) (state_of start).rows
left_next start now r h l = ap (λ es. h.done ++ es) (sym (finishing_next (state_of now).rows r r (next_seq (state_of now)) (let many = h.as_many in omega (arith, many, l)))) ∙ h.left

pub placed_next : (start now later : Recorded) (r : ℕ) → IsPlacedTo start now r → r < length (state_of start).rows
    → later ≡ with_entries now (finishing_row r (next_seq (state_of now)) (row_at (state_of now) r)) → IsPlacedTo start later (r + 1)
placed_next start now later r h l added =
    let x : RowState = row_at (state_of now) r in
    let seq : ℕ = next_seq (state_of now) in
    let es : List LogEntry = finishing_row r seq x in
    let p = placed_row now r x in
    subst (λ (z : Recorded). IsPlacedTo start z (r + 1)) (sym added) (subst (λ (k : ℕ). IsPlacedTo start (with_entries now es) k) (one_more r) (record {
      done = h.done ++ es;
      added = ap (λ (z : Recorded). with_entries z es) h.added ∙ more_twice start h.done es;
      left = ap (λ n. (h.done ++ es) ++ finishing_entries (suc r) n (drop (suc r) (state_of (with_entries now es)).rows)) p.number
          ∙ ap (λ rows. (h.done ++ es) ++ finishing_entries (suc r) (number_after seq x) rows) p.behind
          ∙ append_assoc h.done es (finishing_entries (suc r) (number_after seq x) (drop (suc r) (state_of now).rows)) ∙ left_next start now r h l;
      as_many = p.many ∙ h.as_many;
    }))

-- a row's entry is legal where all are
head_legal : (o : Opening) (s : Book) (r seq : ℕ) (x : RowState) (rest : List LogEntry) → is_done x ≡ false → AreLegal o s (finishing_row r seq x ++ rest) → AreLegal o s (finishing_entry r seq ∷ rest)
head_legal o s r seq (row.Free c) rest e h = h
head_legal o s r seq (row.Claimed t c n) rest e h = h
head_legal o s r seq (row.Done n) rest e h = false_not_true e refl

-- a row that isn't Done may be placed next
pub placing_may : (start now : Recorded) (r : ℕ) → IsPlacedTo start now r → r < length (state_of start).rows
    → AreLegal (opening_of start.setup) (state_of start) (finishing_entries 0 (next_seq (state_of start)) (state_of start).rows)
    → is_done (row_at (state_of now) r) ≡ false → MayCome now (finishing_entry r (next_seq (state_of now)))
placing_may start now r h l legal open_ =
    let o : Opening = opening_of start.setup in
    let x : RowState = row_at (state_of now) r in
    let seq : ℕ = next_seq (state_of now) in
    let rest : List LogEntry = finishing_entries (suc r) (number_after seq x) (drop (suc r) (state_of now).rows) in
    let all = subst (λ (es : List LogEntry). AreLegal o (state_of start) es) (sym (left_next start now r h l)) legal in
    let later = legal_rest o (state_of start) h.done (finishing_row r seq x ++ rest) all in
    let here = subst (λ (s : Book). AreLegal o s (finishing_row r seq x ++ rest)) (sym (ap (λ (z : Recorded). state_of z) h.added ∙ state_more start h.done)) later in
    let legal_now = (head_legal o (state_of now) r seq x rest open_ here).0 in
    subst (λ (z : Recorded). IsLegalEntry (opening_of z.setup) (state_of now) (finishing_entry r seq)) (sym h.added) legal_now

pub placed_all : (start now : Recorded) (n : ℕ) → IsPlacedTo start now n → n ≡ length (state_of start).rows → now ≡ with_entries start (finishing_entries 0 (next_seq (state_of start)) (state_of start).rows)
unfolding finishing_entries
placed_all start now n h all =
    let many = h.as_many in
    h.added ∙ ap (with_entries start) (sym (append-nil h.done) ∙ ap (λ l. h.done ++ finishing_entries n (next_seq (state_of now)) l) (sym (past_end (state_of now).rows n (omega (arith, all, many)))) ∙ h.left)

-- a row that isn't Done has an entry
one_left : (r seq : ℕ) (x : RowState) → is_done x ≡ false → length (finishing_row r seq x) ≡ 1
one_left r seq (row.Free c) e = refl
one_left r seq (row.Claimed t c n) e = refl
one_left r seq (row.Done n) e = false_not_true e refl

-- so there is more to place than was placed before it
more_left : (start now : Recorded) (r : ℕ) (h : IsPlacedTo start now r) → r < length (state_of start).rows → is_done (row_at (state_of now) r) ≡ false
    → length h.done < length (finishing_entries 0 (next_seq (state_of start)) (state_of start).rows)
more_left start now r h l open_ =
    let x : RowState = row_at (state_of now) r in
    let seq : ℕ = next_seq (state_of now) in
    let es : List LogEntry = finishing_row r seq x in
    let rest : List LogEntry = finishing_entries (suc r) (number_after seq x) (drop (suc r) (state_of now).rows) in
    let whole : length (h.done ++ (es ++ rest)) ≡ length (finishing_entries 0 (next_seq (state_of start)) (state_of start).rows) = ap (λ es. length es) (left_next start now r h l) in
    omega (arith, whole, length-append h.done (es ++ rest), length-append es rest, one_left r seq x open_)

-- what was placed before a row that isn't Done is a first part, and not all
pub placed_part : (start now later : Recorded) (r : ℕ) → IsPlacedTo start now r → r < length (state_of start).rows → is_done (row_at (state_of now) r) ≡ false → later ≡ now
    → LeftOff [] (finishing_entries 0 (next_seq (state_of start)) (state_of start).rows) start later
placed_part start now later r h l open_ same = record {
  count = length h.done;
  not_all = more_left start now r h l open_;
  added = same ∙ h.added ∙ ap (with_entries start) (sym (take_at h.done _ (length h.done) refl) ∙ ap (take (length h.done)) h.left);
}

-- rows given back are to be placed as they were
freed_same : (rows : List RowState) (at seq : ℕ) → finishing_entries at seq (map as_freed rows) ≡ finishing_entries at seq rows
unfolding finishing_entries
freed_same [] at seq = refl
freed_same (row.Free c ∷ rows) at seq = ap (λ l. finishing_entry at seq ∷ l) (freed_same rows (suc at) (suc seq))
freed_same (row.Claimed t c s ∷ rows) at seq = ap (λ l. finishing_entry at seq ∷ l) (freed_same rows (suc at) (suc seq))
freed_same (row.Done n ∷ rows) at seq = freed_same rows (suc at) seq

-- the state once all rows were given back, and what there is to place then
pub record IsFreed (b now : Recorded) : Type 0 where
  pub same : finishing_entries 0 (next_seq (state_of now)) (state_of now).rows ≡ finishing_entries 0 (next_seq (state_of b)) (state_of b).rows
  pub legal : AreLegal (opening_of now.setup) (state_of now) (finishing_entries 0 (next_seq (state_of now)) (state_of now).rows)

pub freed_all : FinishEnds → ReclaimFreesAll → (b now : Recorded) (count : ℕ) → IsHistory (opening_of b.setup) b.entries → WasGiven (reclaim (state_of b)) (reply.Reclaimed count) b now → IsFreed b now
unfolding reclaim finish
freed_all ends frees b now count history given =
    let o : Opening = opening_of b.setup in
    let s : Book = state_of b in
    let es : List LogEntry = freeing_entries 0 s.rows in
    let is : state_of now ≡ after_entries o s es = ap (λ (z : Recorded). state_of z) given.added ∙ state_more b es in
    let left : state_of now ≡ record s { rows = map as_freed s.rows } = is ∙ (frees o s).left in
    let same = ap (λ (z : Book). finishing_entries 0 (next_seq z) z.rows) left ∙ freed_same s.rows 0 (next_seq s) in
    let legal = legal_rest o s es (finishing_entries 0 (next_seq s) s.rows) (ends o b.entries history).legal in
    let here = subst (λ (z : Book). AreLegal o z (finishing_entries 0 (next_seq s) s.rows)) (sym is) legal in
    record {
      same = same;
      legal = subst (λ (z : Recorded). AreLegal (opening_of z.setup) (state_of now) (finishing_entries 0 (next_seq (state_of now)) (state_of now).rows)) (sym given.added)
          (subst (λ (l : List LogEntry). AreLegal o (state_of now) l) (sym same) here);
    }

-- all work ended
pub finished : (b now later : Recorded) (count : ℕ) → WasGiven (reclaim (state_of b)) (reply.Reclaimed count) b now → IsFreed b now
    → later ≡ with_entries now (finishing_entries 0 (next_seq (state_of now)) (state_of now).rows) → later ≡ with_entries b (finish (state_of b))
unfolding reclaim finish
finished b now later count given freed added =
    let s : Book = state_of b in
    added ∙ ap (with_entries now) freed.same ∙ ap (λ (z : Recorded). with_entries z (finishing_entries 0 (next_seq s) s.rows)) given.added ∙ more_twice b (freeing_entries 0 s.rows) (finishing_entries 0 (next_seq s) s.rows)

-- or was left off
pub left_off : (b now later : Recorded) (count : ℕ) → WasGiven (reclaim (state_of b)) (reply.Reclaimed count) b now → IsFreed b now
    → LeftOff [] (finishing_entries 0 (next_seq (state_of now)) (state_of now).rows) now later
    → LeftOff (freeing_entries 0 (state_of b).rows) (finishing_entries 0 (next_seq (state_of b)) (state_of b).rows) b later
unfolding reclaim
left_off b now later count given freed part =
    let s : Book = state_of b in
    let es : List LogEntry = freeing_entries 0 s.rows in
    let fs : List LogEntry = finishing_entries 0 (next_seq s) s.rows in
    record {
      count = part.count;
      not_all = subst (λ (l : List LogEntry). part.count < length l) freed.same part.not_all;
      added = part.added ∙ ap (λ l. with_entries now (take part.count l)) freed.same ∙ ap (λ (z : Recorded). with_entries z (take part.count fs)) given.added
          ∙ more_twice b es (take part.count fs);
    }

-- a row of the setup is one later too
pub known_later : (start now : Recorded) (done : List LogEntry) (r : ℕ) → now ≡ with_entries start done → r < length start.setup.txs → r < length now.setup.txs
known_later start now done r added l = subst (λ (z : Recorded). r < length z.setup.txs) (sym added) l
