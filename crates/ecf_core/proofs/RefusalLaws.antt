-- Events that don't apply.
use Rattle.std.proofs.Common.{◌≡◌, ℕ, suc, ◌==◌, Bool, true, false, cond, not, List, [], ◌∷◌, ◌++◌, length, Option, Some, None, refl, sym, ap, ◌∙◌}
use Rattle.std.specs.Prelude.{nat_lt}
use Rattle.std.specs.List.{list_any}
use Rattle.std.proofs.lemmas.List.{set-get_or}
use Rattle.ecf_lang.specs.declared.cell.Cell.{Cell}
use Rattle.ecf_lang.specs.declared.limits.TheConstants.{MAX_STALES, MAX_QUEUED}
use Rattle.ecf_lang.specs.Store.{read}
use Rattle.ecf_core.specs.declared.book.LogWhat.TheVariants as log
use Rattle.ecf_core.specs.declared.event.Event.{Event}
use Rattle.ecf_core.specs.declared.event.Event.TheVariants as event
use Rattle.ecf_core.specs.declared.event.Reply.{Reply}
use Rattle.ecf_core.specs.declared.event.Reply.TheVariants as reply
use Rattle.ecf_core.specs.Book.{Opening, Book, row_at, is_claimed, stales_under, claimable_row, after_entries}
use Rattle.ecf_core.specs.Calls.{Answer, reply_only, reply_with, claim_answer, claim, first_changed_read, stale_answer, commit_answer, if_held, commit, commit_here, release, reclaim}
use Rattle.ecf_core.specs.Core.{RowReads, Hand, Nothing, Work, Draft, Judged, Here, Core, Act, act_beside_book, refusal, act_of_take, hand_of, hand_at, on_claim, on_run, on_hand, on_take, on_judge, on_commit, on_here, on_release, on_lose, happening_of, happening, holds_nothing, holds_work, holds_draft, holds_judged, holds_here, applies}
use Rattle.ecf_core.specs.Replies.{RefusedExactlyWhere, RefusedChangesNothing}
use Rattle.ecf_core.proofs.ListLaws.{false_not_true, not_true}

abbrev is_refused : Reply → Bool
is_refused reply.Refused = true
is_refused other = false

from_refused : (q : Reply) → is_refused q ≡ true → q ≡ reply.Refused
from_refused reply.Refused e = refl
from_refused other e = false_not_true refl e

-- no call of the book is refused

claim_applies : (b : Book) (x : Option ℕ) → is_refused (claim_answer b x).reply ≡ false
claim_applies b (Some r) = refl
claim_applies b None = go (list_any is_claimed b.rows)
  where
    go : (c : Bool) → is_refused (cond c reply.Later reply.Over) ≡ false
    go true = refl
    go false = refl

stale_applies : (r ticket n : ℕ) (cell : Cell) (was now : ℕ) → is_refused (stale_answer r ticket n cell was now).reply ≡ false
unfolding stale_answer
stale_applies r ticket n cell was now = go (nat_lt (suc n) MAX_STALES) (suc n == MAX_STALES)
  where
    go : (a c : Bool) → is_refused (cond a (reply_with (reply.Stale cell was now) r ticket (log.Stale cell was now)) (cond c (reply_with (reply.LastStale cell was now) r ticket (log.LastStale cell was now)) (reply_only (reply.LastStale cell was now)))).reply ≡ false
    go true c = refl
    go false true = refl
    go false false = refl

commit_applies : (b : Book) (r ticket n : ℕ) (y : Option (Cell × ℕ)) → is_refused (commit_answer b r ticket n y).reply ≡ false
commit_applies b r ticket n None = refl
commit_applies b r ticket n (Some pair) = stale_applies r ticket n pair.0 pair.1 (read b.ledger.store pair.0)

held_applies : (b : Book) (r : ℕ) (x : Option ℕ) (answer : ℕ → Answer) → ((n : ℕ) → is_refused (answer n).reply ≡ false) → is_refused (if_held b r x answer).reply ≡ false
held_applies b r None answer h = refl
held_applies b r (Some n) answer h = h n

release_applies : (b : Book) (r ticket : ℕ) → is_refused (release b r ticket).reply ≡ false
unfolding release
release_applies b r ticket = held_applies b r (stales_under ticket (row_at b r)) (λ _. reply_with reply.Freed r ticket log.Freed) (λ n. refl)

-- each event is refused where it doesn't apply

claim_refused : (o : Opening) (c : Core) (hand : Hand) → is_refused (on_claim o c hand).reply ≡ not (holds_nothing hand)
unfolding on_claim claim
claim_refused o c Nothing = claim_applies c.book (claimable_row o c.book)
claim_refused o c (Work r ticket store) = refl
claim_refused o c (Draft d) = refl
claim_refused o c (Judged d) = refl
claim_refused o c (Here r ticket) = refl

run_refused : (o : Opening) (c : Core) (hand : Hand) → is_refused (on_run o c hand).reply ≡ not (holds_work hand)
unfolding on_run
run_refused o c Nothing = refl
run_refused o c (Work r ticket store) = refl
run_refused o c (Draft d) = refl
run_refused o c (Judged d) = refl
run_refused o c (Here r ticket) = refl

hand_refused : (c : Core) (hand : Hand) → is_refused (on_hand c hand).reply ≡ not (holds_draft hand)
unfolding on_hand
hand_refused c Nothing = refl
hand_refused c (Work r ticket store) = refl
hand_refused c (Draft d) = go (nat_lt (length c.queue) MAX_QUEUED)
  where
    go : (b : Bool) → is_refused (cond b (act_beside_book reply.Handed Nothing (c.queue ++ d ∷ [])) (act_beside_book reply.Full (Draft d) c.queue)).reply ≡ false
    go true = refl
    go false = refl
hand_refused c (Judged d) = refl
hand_refused c (Here r ticket) = refl

take_refused : (c : Core) (hand : Hand) → is_refused (on_take c hand).reply ≡ not (holds_nothing hand)
unfolding on_take
take_refused c Nothing = go c.queue
  where
    go : (q : List RowReads) → is_refused (act_of_take q).reply ≡ false
    go [] = refl
    go (d ∷ q) = refl
take_refused c (Work r ticket store) = refl
take_refused c (Draft d) = refl
take_refused c (Judged d) = refl
take_refused c (Here r ticket) = refl

judge_refused : (c : Core) (hand : Hand) → is_refused (on_judge c hand).reply ≡ not (holds_draft hand)
unfolding on_judge
judge_refused c Nothing = refl
judge_refused c (Work r ticket store) = refl
judge_refused c (Draft d) = refl
judge_refused c (Judged d) = refl
judge_refused c (Here r ticket) = refl

commit_refused : (c : Core) (hand : Hand) → is_refused (on_commit c hand).reply ≡ not (holds_judged hand)
unfolding on_commit commit
commit_refused c Nothing = refl
commit_refused c (Work r ticket store) = refl
commit_refused c (Draft d) = refl
commit_refused c (Judged d) = held_applies c.book d.row (stales_under d.ticket (row_at c.book d.row)) _ (λ n. commit_applies c.book d.row d.ticket n (first_changed_read d.reads c.book.ledger.store))
commit_refused c (Here r ticket) = refl

here_refused : (c : Core) (hand : Hand) → is_refused (on_here c hand).reply ≡ not (holds_here hand)
unfolding on_here commit_here
here_refused c Nothing = refl
here_refused c (Work r ticket store) = refl
here_refused c (Draft d) = refl
here_refused c (Judged d) = refl
here_refused c (Here r ticket) = held_applies c.book r (stales_under ticket (row_at c.book r)) _ (λ n. refl)

release_refused : (c : Core) (hand : Hand) → is_refused (on_release c hand).reply ≡ not (not (holds_nothing hand))
unfolding on_release
release_refused c Nothing = refl
release_refused c (Work r ticket store) = release_applies c.book r ticket
release_refused c (Draft d) = release_applies c.book d.row d.ticket
release_refused c (Judged d) = release_applies c.book d.row d.ticket
release_refused c (Here r ticket) = release_applies c.book r ticket

lose_refused : (c : Core) (hand : Hand) → is_refused (on_lose c hand).reply ≡ not (not (holds_nothing hand))
unfolding on_lose
lose_refused c Nothing = refl
lose_refused c (Work r ticket store) = refl
lose_refused c (Draft d) = refl
lose_refused c (Judged d) = refl
lose_refused c (Here r ticket) = refl

event_refused : (o : Opening) (c : Core) (e : Event) → is_refused (happening o c e).reply ≡ not (applies e (hand_at c e))
unfolding happening reclaim
event_refused o c (event.Claim a) = claim_refused o c (hand_of c a)
event_refused o c (event.Run a) = run_refused o c (hand_of c a)
event_refused o c (event.Hand a) = hand_refused c (hand_of c a)
event_refused o c (event.Take a) = take_refused c (hand_of c a)
event_refused o c (event.Judge a) = judge_refused c (hand_of c a)
event_refused o c (event.Commit a) = commit_refused c (hand_of c a)
event_refused o c (event.Here a) = here_refused c (hand_of c a)
event_refused o c (event.Release a) = release_refused c (hand_of c a)
event_refused o c (event.Lose a) = lose_refused c (hand_of c a)
event_refused o c event.Reclaim = refl

pub refused_exactly_where : RefusedExactlyWhere
refused_exactly_where o c e = (λ q. not_true _ (sym (event_refused o c e) ∙ ap is_refused q), λ q. from_refused _ (event_refused o c e ∙ ap not q))

-- where it doesn't apply, an event is a refusal

claim_idle : (o : Opening) (c : Core) (hand : Hand) → holds_nothing hand ≡ false → on_claim o c hand ≡ refusal c hand
unfolding on_claim
claim_idle o c Nothing e = false_not_true e refl
claim_idle o c (Work r ticket store) e = refl
claim_idle o c (Draft d) e = refl
claim_idle o c (Judged d) e = refl
claim_idle o c (Here r ticket) e = refl

run_idle : (o : Opening) (c : Core) (hand : Hand) → holds_work hand ≡ false → on_run o c hand ≡ refusal c hand
unfolding on_run
run_idle o c Nothing e = refl
run_idle o c (Work r ticket store) e = false_not_true e refl
run_idle o c (Draft d) e = refl
run_idle o c (Judged d) e = refl
run_idle o c (Here r ticket) e = refl

hand_idle : (c : Core) (hand : Hand) → holds_draft hand ≡ false → on_hand c hand ≡ refusal c hand
unfolding on_hand
hand_idle c Nothing e = refl
hand_idle c (Work r ticket store) e = refl
hand_idle c (Draft d) e = false_not_true e refl
hand_idle c (Judged d) e = refl
hand_idle c (Here r ticket) e = refl

take_idle : (c : Core) (hand : Hand) → holds_nothing hand ≡ false → on_take c hand ≡ refusal c hand
unfolding on_take
take_idle c Nothing e = false_not_true e refl
take_idle c (Work r ticket store) e = refl
take_idle c (Draft d) e = refl
take_idle c (Judged d) e = refl
take_idle c (Here r ticket) e = refl

judge_idle : (c : Core) (hand : Hand) → holds_draft hand ≡ false → on_judge c hand ≡ refusal c hand
unfolding on_judge
judge_idle c Nothing e = refl
judge_idle c (Work r ticket store) e = refl
judge_idle c (Draft d) e = false_not_true e refl
judge_idle c (Judged d) e = refl
judge_idle c (Here r ticket) e = refl

commit_idle : (c : Core) (hand : Hand) → holds_judged hand ≡ false → on_commit c hand ≡ refusal c hand
unfolding on_commit
commit_idle c Nothing e = refl
commit_idle c (Work r ticket store) e = refl
commit_idle c (Draft d) e = refl
commit_idle c (Judged d) e = false_not_true e refl
commit_idle c (Here r ticket) e = refl

here_idle : (c : Core) (hand : Hand) → holds_here hand ≡ false → on_here c hand ≡ refusal c hand
unfolding on_here
here_idle c Nothing e = refl
here_idle c (Work r ticket store) e = refl
here_idle c (Draft d) e = refl
here_idle c (Judged d) e = refl
here_idle c (Here r ticket) e = false_not_true e refl

release_idle : (c : Core) (hand : Hand) → not (holds_nothing hand) ≡ false → on_release c hand ≡ refusal c hand
unfolding on_release
release_idle c Nothing e = refl
release_idle c (Work r ticket store) e = false_not_true e refl
release_idle c (Draft d) e = false_not_true e refl
release_idle c (Judged d) e = false_not_true e refl
release_idle c (Here r ticket) e = false_not_true e refl

lose_idle : (c : Core) (hand : Hand) → not (holds_nothing hand) ≡ false → on_lose c hand ≡ refusal c hand
unfolding on_lose
lose_idle c Nothing e = refl
lose_idle c (Work r ticket store) e = false_not_true e refl
lose_idle c (Draft d) e = false_not_true e refl
lose_idle c (Judged d) e = false_not_true e refl
lose_idle c (Here r ticket) e = false_not_true e refl

unchanged : (o : Opening) (c : Core) (a : ℕ) (act : Act) → act ≡ refusal c (hand_of c a) → happening_of o c a act ≡ record { reply = reply.Refused; entries = []; core = c }
unfolding after_entries
unchanged o c a act is = ap (happening_of o c a) is ∙ ap (λ (hands : List Hand). record { reply = reply.Refused; entries = []; core = record c { hands = hands } }) (set-get_or c.hands a Nothing)

event_idle : (o : Opening) (c : Core) (e : Event) → applies e (hand_at c e) ≡ false → happening o c e ≡ record { reply = reply.Refused; entries = []; core = c }
unfolding happening
event_idle o c (event.Claim a) e = unchanged o c a _ (claim_idle o c (hand_of c a) e)
event_idle o c (event.Run a) e = unchanged o c a _ (run_idle o c (hand_of c a) e)
event_idle o c (event.Hand a) e = unchanged o c a _ (hand_idle c (hand_of c a) e)
event_idle o c (event.Take a) e = unchanged o c a _ (take_idle c (hand_of c a) e)
event_idle o c (event.Judge a) e = unchanged o c a _ (judge_idle c (hand_of c a) e)
event_idle o c (event.Commit a) e = unchanged o c a _ (commit_idle c (hand_of c a) e)
event_idle o c (event.Here a) e = unchanged o c a _ (here_idle c (hand_of c a) e)
event_idle o c (event.Release a) e = unchanged o c a _ (release_idle c (hand_of c a) e)
event_idle o c (event.Lose a) e = unchanged o c a _ (lose_idle c (hand_of c a) e)
event_idle o c event.Reclaim e = false_not_true e refl

pub refused_changes_nothing : RefusedChangesNothing
refused_changes_nothing o c e q = event_idle o c e ((refused_exactly_where o c e).0 q)
