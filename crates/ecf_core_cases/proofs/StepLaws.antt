-- How the steps of a schedule are computed, where what a run came to is known.
use Rattle.std.proofs.Common.{◌≡◌, ℕ, List, [], ◌∷◌, ◌++◌, map, refl, ap, ◌∙◌}
use Rattle.std.specs.Prelude.{slice_set, replicate, ⊤}
use Rattle.std.specs.List.{flat_map}
use Rattle.ecf_lang.specs.declared.tx.Tx.{Tx}
use Rattle.ecf_lang.specs.declared.typed.Typed.{Typed}
use Rattle.ecf_lang.specs.Meaning.{run, RunResult}
use Rattle.ecf_cases.specs.Computation.{Objects, contracts}
use Rattle.ecf_cases.specs.OutcomeLemmas.{receipt_from_run, store_from_run}
use Rattle.ecf_verdicts.specs.Receipts.{receipt_of, store_after}
use Rattle.ecf_core.specs.declared.book.RowState.{RowState}
use Rattle.ecf_core.specs.declared.book.LogEntry.{LogEntry}
use Rattle.ecf_core.specs.declared.event.Event.{Event}
use Rattle.ecf_core.specs.declared.event.Reply.{Reply}
use Rattle.ecf_core.specs.declared.event.Reply.TheVariants as reply
use Rattle.ecf_core.specs.Ledgers.{Ledger, with_result, ledger_after}
use Rattle.ecf_core.specs.Watches.{turn, show_all}
use Rattle.ecf_core.specs.Book.{Opening, Book, new_book, after_entries}
use Rattle.ecf_core.specs.Calls.{claim, stale_answer, commit, commit_here, release, freeing_entries, reclaim, finishing_entries, finish, take_watch}
use Rattle.ecf_core.specs.Core.{RowReads, Hand, Nothing, Draft, Core, Happening, on_claim, on_run, on_hand, on_take, on_judge, on_commit, on_here, on_release, on_lose, happening, replies, entries_added, core_after, initial_core}
use Rattle.ecf_core_cases.specs.Adder.{adder, x}
use Rattle.ecf_core_cases.specs.Schedules.{Line, line, line_with, book, Goes}

-- all that a step computes with
unfoldable pub stepping : ℕ
unfolding turn show_all after_entries claim stale_answer commit commit_here release freeing_entries reclaim finishing_entries finish take_watch on_claim on_run on_hand on_take on_judge on_commit on_here on_release on_lose happening
stepping = 0

-- how the adder is built
unfoldable pub built : Objects adder.objects
built = search contracts depth 40 fits 4000

-- the ledger after a transaction, from what its run came to
pub ledger_from_run : (typed : Typed) (tx : Tx) (l : Ledger) (r : RunResult) → run typed l.store tx ≡ r →
    (let receipt = receipt_of r.outcome r.fuel r.steps in ledger_after typed tx l ≡ with_result tx receipt r.writes (store_after receipt l.store r.store) l)
unfolding ledger_after
ledger_from_run typed tx l r is =
    λ i. with_result tx (receipt_from_run typed l.store tx r is i) (is i).writes (store_from_run typed l.store tx r is i) l

-- a line of a schedule, and the core after it
pub record Stage : Type 0 where
  pub line : Line
  pub core : Core

abbrev pub stage : Event → Reply → Core → Stage
stage event reply core = record { line = line event reply; core = core }

abbrev pub stage_with : Event → Reply → List LogEntry → Core → Stage
stage_with event reply entries core = record { line = line_with event reply entries; core = core }

-- a core by its book, the hands of the first actors and the queue
abbrev pub core : List RowState → List ℕ → ℕ → Ledger → Hand → Hand → Hand → List RowReads → Core
core rows journal tickets ledger h0 h1 h2 queue = record { book = book rows journal tickets ledger; hands = h0 ∷ h1 ∷ h2 ∷ replicate 21 Nothing; queue = queue }

-- a run of a row under a ticket that read a number in x
abbrev pub reads_of : ℕ → ℕ → ℕ → RowReads
reads_of r ticket was = record { row = r; ticket = ticket; reads = (x, was) ∷ [] }

-- what happens when an actor runs a row under a ticket, by what the run comes to
abbrev pub running : Core → ℕ → ℕ → ℕ → RunResult → Happening
running c a r ticket result = record {
  reply = reply.Ran;
  entries = [];
  core = record c { hands = slice_set c.hands a (Draft (record { row = r; ticket = ticket; reads = result.reads })) };
}

-- what happens when a row is placed, by the ledger after it
abbrev pub placing : Reply → LogEntry → (Ledger → Core) → Ledger → Happening
placing reply entry core ledger = record { reply = reply; entries = entry ∷ []; core = core ledger }

-- each stage is what happens at its event
abbrev pub Steps : Opening → Core → List Stage → Type 0
Steps o c [] = ⊤
Steps o c (s ∷ ss) = (happening o c s.line.event ≡ record { reply = s.line.reply; entries = s.line.entries; core = s.core }) × Steps o s.core ss

abbrev pub lines_of : List Stage → List Line
lines_of ss = map (λ (s : Stage). s.line) ss

abbrev events_of : List Line → List Event
events_of ls = map (λ (l : Line). l.event) ls

abbrev pub last_core : Core → List Stage → Core
last_core c [] = c
last_core c (s ∷ ss) = last_core s.core ss

steps_reply : (o : Opening) (c : Core) (ss : List Stage) → Steps o c ss → replies o c (events_of (lines_of ss)) ≡ map (λ (l : Line). l.reply) (lines_of ss)
unfolding replies
steps_reply o c [] h = refl
steps_reply o c (s ∷ ss) h = ap (λ (x : Happening). x.reply ∷ replies o x.core (events_of (lines_of ss))) h.0 ∙ ap (λ rs. s.line.reply ∷ rs) (steps_reply o s.core ss h.1)

steps_add : (o : Opening) (c : Core) (ss : List Stage) → Steps o c ss → entries_added o c (events_of (lines_of ss)) ≡ flat_map (λ (l : Line). l.entries) (lines_of ss)
unfolding entries_added
steps_add o c [] h = refl
steps_add o c (s ∷ ss) h = ap (λ (x : Happening). x.entries ++ entries_added o x.core (events_of (lines_of ss))) h.0 ∙ ap (λ es. s.line.entries ++ es) (steps_add o s.core ss h.1)

steps_end : (o : Opening) (c : Core) (ss : List Stage) → Steps o c ss → core_after o c (events_of (lines_of ss)) ≡ last_core c ss
unfolding core_after
steps_end o c [] h = refl
steps_end o c (s ∷ ss) h = ap (λ (x : Happening). core_after o x.core (events_of (lines_of ss))) h.0 ∙ steps_end o s.core ss h.1

-- a schedule goes as written where its steps do
pub goes_from_steps : (o : Opening) (ss : List Stage) (finishing : List LogEntry) (last : Book) → Steps o (initial_core (new_book o)) ss →
    (let c = last_core (initial_core (new_book o)) ss in (finish c.book ≡ finishing) × (after_entries o c.book finishing ≡ last)) →
    Goes (record { opening = o; lines = lines_of ss; finishing = finishing; last = last })
goes_from_steps o ss finishing last steps ends =
    let c = last_core (initial_core (new_book o)) ss in
    let end = steps_end o (initial_core (new_book o)) ss steps in
    record {
      replies = steps_reply o (initial_core (new_book o)) ss steps;
      entries = steps_add o (initial_core (new_book o)) ss steps;
      finishing = ap (λ (c : Core). finish c.book) end ∙ ends.0;
      last = ap (λ (c : Core). after_entries o c.book (finish c.book)) end ∙ ap (after_entries o c.book) ends.0 ∙ ends.1;
    }
