-- What a call of the book in a turn is to the seat that made it.
use Rattle.std.proofs.Common.{◌≡◌, ℕ, ◌≤◌, true, List, [], ◌∷◌, ◌++◌, length, Option, Some, None, inl, inr, refl, ap, sym, ◌∙◌, subst, arith}
use Rattle.std.proofs.lemmas.List.{append-nil, append_cancel_left}
use Rattle.std.specs.List.{enumerate_from}
use mathlib.Core.List.{IsPrefix}
use Rattle.ecf_book.specs.declared.setup.Setup.{Setup}
use Rattle.ecf_book.specs.Answering.{Gives, WasGiven, WasWanting, takes_memory}
use Rattle.ecf_book.specs.Recorded.{Recorded, opening_of, state_of}
use Rattle.ecf_core.specs.declared.book.LogEntry.{LogEntry}
use Rattle.ecf_core.specs.declared.event.Reply.{Reply}
use Rattle.ecf_core.specs.Book.{Opening, Book, after}
use Rattle.ecf_core.specs.Calls.{Answer}
use Rattle.ecf_core.specs.Seats.{Seat, BeginsWith, HasCalled}
use Rattle.ecf_turnstile.specs.Histories.{GrowsByAtMostOne, AddsOwn}
use Rattle.ecf_pool.specs.Turns.{HasFailed, Answers, seen_book}

-- with no entry or one, a history has grown by one at most
grows_by : {E : Type 0} (before es : List E) → length es ≤ 1 → GrowsByAtMostOne before (before ++ es)
grows_by before [] few = inl (append-nil before)
grows_by before (e ∷ []) few = inr (e, refl)
grows_by before (e ∷ f ∷ es) few = absurd (omega arith)

-- a call that answers has added one entry at most
pub given_grows : (answer : Answer) (said : Reply) (before later : Recorded) → length answer.entries ≤ 1 → WasGiven answer said before later → GrowsByAtMostOne before.entries later.entries
given_grows answer said before later few w = subst (λ (l : List LogEntry). GrowsByAtMostOne before.entries l) (sym (ap (λ (b : Recorded). b.entries) w.added)) (grows_by before.entries answer.entries few)

-- and so has one that memory was wanting for
pub gives_grows : (answer : Answer) (said : Option Reply) (before later : Recorded) → length answer.entries ≤ 1 → Gives answer said before later → GrowsByAtMostOne before.entries later.entries
gives_grows answer None before later few w = inl (ap (λ (b : Recorded). b.entries) w.same)
gives_grows answer (Some said) before later few w = given_grows answer said before later few w

-- no call changes the setup
pub given_setup : (answer : Answer) (said : Reply) (before later : Recorded) → WasGiven answer said before later → later.setup ≡ before.setup
given_setup answer said before later w = ap (λ (b : Recorded). b.setup) w.added

pub gives_setup : (answer : Answer) (said : Option Reply) (before later : Recorded) → Gives answer said before later → later.setup ≡ before.setup
gives_setup answer None before later w = ap (λ (b : Recorded). b.setup) w.same
gives_setup answer (Some said) before later w = given_setup answer said before later w

-- the entries that a seat gets are those that were added, each with its place
own_more : {E : Type 0} (before es later : List E) (own own' : List (ℕ × E)) → later ≡ before ++ es → AddsOwn before own later own' → own' ≡ own ++ enumerate_from (length before) es
own_more {E} before es later own own' added (inl w) =
    let none : es ≡ [] = append_cancel_left before es [] (sym added ∙ w.0 ∙ sym (append-nil before)) in
    w.1 ∙ (sym (append-nil own) ∙ ap (λ (l : List E). own ++ enumerate_from (length before) l) (sym none))
own_more {E} before es later own own' added (inr w) =
    let one : es ≡ w.0 ∷ [] = append_cancel_left before es (w.0 ∷ []) (sym added ∙ w.1) in
    w.2 ∙ ap (λ (l : List E). own ++ enumerate_from (length before) l) (sym one)

-- what a call of the book in a turn is to the seat: before the turn, in the turn, and after it
pub record IsTurn (setup : Setup) (before later : Recorded) (old turn new : Seat) : Type 0 where
  pub setup_is : before.setup ≡ setup
  pub saw : turn.seen ≡ before.entries
  pub began : IsPrefix old.seen turn.seen
  pub kept : turn.mine ≡ old.mine
  pub sees : new.seen ≡ later.entries
  pub adds : AddsOwn turn.seen turn.mine later.entries new.mine

module _ (call : Opening → Book → Answer) (before later : Recorded) (old turn new : Seat) (t : IsTurn before.setup before later old turn new) where
  begun : BeginsWith before.entries old.seen
  begun = (t.began.0, sym (t.began.1 ∙ t.saw))

  answered : (said : Reply) → WasGiven (call (opening_of before.setup) (state_of before)) said before later → HasCalled (opening_of before.setup) (call (opening_of before.setup)) said old new
  answered said w =
      let es : List LogEntry = (call (opening_of before.setup) (state_of before)).entries in
      let entries : later.entries ≡ before.entries ++ es = ap (λ (b : Recorded). b.entries) w.added in
      record {
        history = before.entries;
        begins = begun;
        said = sym w.reply;
        seen = t.sees ∙ entries;
        mine = own_more turn.seen es later.entries turn.mine new.mine (entries ∙ ap (λ (l : List LogEntry). l ++ es) (sym t.saw)) t.adds
            ∙ ap (λ (l : List LogEntry). turn.mine ++ enumerate_from (length l) es) t.saw
            ∙ ap (λ (l : List (ℕ × LogEntry)). l ++ enumerate_from (length before.entries) es) t.kept;
      }

  failed : WasWanting (call (opening_of before.setup) (state_of before)) before later → HasFailed (opening_of before.setup) (call (opening_of before.setup)) old new
  failed w =
      let entries : later.entries ≡ before.entries = ap (λ (b : Recorded). b.entries) w.same in
      let seen : new.seen ≡ before.entries = t.sees ∙ entries in
      record {
        begins = (t.began.0, seen ∙ sym (t.began.1 ∙ t.saw));
        mine = own_more turn.seen [] later.entries turn.mine new.mine (entries ∙ sym t.saw ∙ sym (append-nil turn.seen)) t.adds ∙ append-nil turn.mine ∙ t.kept;
        cause = subst (λ (l : List LogEntry). takes_memory (call (opening_of before.setup) (after (opening_of before.setup) l)).reply ≡ true) (sym seen) w.cause;
      }

  answers_there : (said : Option Reply) → Gives (call (opening_of before.setup) (state_of before)) said before later → Answers (opening_of before.setup) (call (opening_of before.setup)) said old new
  answers_there None w = failed w
  answers_there (Some said) w = answered said w

-- a call of the book in a turn is one of one legal history, or memory was wanting for it
pub answers : (call : Opening → Book → Answer) (setup : Setup) (before later : Recorded) (old turn new : Seat) → IsTurn setup before later old turn new →
    (said : Option Reply) → Gives (call (opening_of before.setup) (state_of before)) said before later → Answers (opening_of setup) (call (opening_of setup)) said old new
answers call setup before later old turn new t said w =
    let here : IsTurn before.setup before later old turn new = record { setup_is = refl; saw = t.saw; began = t.began; kept = t.kept; sees = t.sees; adds = t.adds } in
    subst (λ (s : Setup). Answers (opening_of s) (call (opening_of s)) said old new) t.setup_is (answers_there call before later old turn new here said w)

pub calls : (call : Opening → Book → Answer) (setup : Setup) (before later : Recorded) (old turn new : Seat) → IsTurn setup before later old turn new →
    (said : Reply) → WasGiven (call (opening_of before.setup) (state_of before)) said before later → HasCalled (opening_of setup) (call (opening_of setup)) said old new
calls call setup before later old turn new t said w = answers call setup before later old turn new t (Some said) w

-- the book after the turn is the one that the seat has seen
pub is_seen : (setup : Setup) (later : Recorded) (new : Seat) → later.setup ≡ setup → new.seen ≡ later.entries → later ≡ seen_book setup new
is_seen setup later new same sees =
    ap (λ (s : Setup). seen_book s (record { seen = later.entries; mine = new.mine })) same ∙ ap (λ (l : List LogEntry). seen_book setup (record { seen = l; mine = new.mine })) (sym sees)
