-- When each call is answered so.
use Rattle.std.proofs.Common.{◌≡◌, ◌≢◌, ℕ, suc, zero, ◌<◌, ◌≤◌, ◌==◌, ◌+◌, ◌||◌, Bool, true, false, cond, not, List, [], ◌∷◌, ◌++◌, length, Option, Some, None, inl, inr, refl, sym, ap, ◌∙◌, subst, arith}
use Rattle.std.specs.Prelude.{filter, find, nat_lt}
use Rattle.std.specs.List.{list_any, range_with_len}
use Rattle.std.proofs.lemmas.Bool.{or_cases, or_left, or_right, eq-eqb, eqb-true, lt-ltb, ltb-true, le-ltb, ltb-false}
use Rattle.ecf_lang.specs.declared.cell.Cell.{Cell}
use Rattle.ecf_lang.specs.declared.limits.TheConstants.{MAX_STALES}
use Rattle.ecf_lang.specs.Draft.{AgreesWith}
use Rattle.ecf_lang.specs.Store.{Store, Cells, read}
use Rattle.ecf_verdicts.specs.Journals.{places}
use Rattle.ecf_verdicts.specs.ListLemmas.{Each, Each_from_all, All_from_Each}
use Rattle.ecf_core.specs.declared.book.RowState.{RowState}
use Rattle.ecf_core.specs.declared.book.RowState.TheVariants as row
use Rattle.ecf_core.specs.declared.book.LogWhat.TheVariants as log
use Rattle.ecf_core.specs.declared.event.Reply.{Reply}
use Rattle.ecf_core.specs.declared.event.Reply.TheVariants as reply
use Rattle.ecf_core.specs.Book.{Opening, Book, row_at, is_claimed, stales_under, next_seq, may_be_claimed, claimable_row}
use Rattle.ecf_core.specs.Calls.{Answer, reply_only, reply_with, claim_answer, claim, first_changed_read, stale_answer, commit_answer, if_held, commit, commit_here, release, freeing_entries, reclaim}
use Rattle.ecf_core.specs.Legal.{IsHeld}
use Rattle.ecf_core.specs.Replies.{AnswersClaim, ClaimExactlyWhere, IsFirstChanged, AnswersCommit, CommitExactlyWhere, PastLastAddsNothing, AnswersHere, HereExactlyWhere, AnswersRelease, ReleaseExactlyWhere, ReclaimFreesAll}
use Rattle.ecf_core.proofs.ListLaws.{false_not_true, none_not_some, some_same, found_in, found_first, found_none, in_range, range_high}
use Rattle.ecf_core.proofs.RowLaws.{state}
use Rattle.ecf_core.proofs.CallLaws.{found_if, freeing}
use Rattle.ecf_core.proofs.GrowthLaws.{any_none, nothing_changed}

-- claims

some_claimed : (rows : List RowState) → list_any is_claimed rows ≡ true → (r : ℕ) × (is_claimed (state rows r) ≡ true)
some_claimed [] e = false_not_true refl e
some_claimed (x ∷ rows) e = elim (or_cases (is_claimed x) (list_any is_claimed rows) e) [
  | inl h ↦ (0, h)
  | inr h ↦ let later = some_claimed rows h in (suc later.0, later.1)
]

any_claimed : (rows : List RowState) (r : ℕ) → is_claimed (state rows r) ≡ true → list_any is_claimed rows ≡ true
any_claimed [] r e = false_not_true refl e
any_claimed (x ∷ rows) zero e = or_left (is_claimed x) (list_any is_claimed rows) e
any_claimed (x ∷ rows) (suc r) e = or_right (is_claimed x) (list_any is_claimed rows) (any_claimed rows r e)

no_claimed : (rows : List RowState) → ((r : ℕ) → is_claimed (state rows r) ≡ false) → list_any is_claimed rows ≡ false
no_claimed [] h = refl
no_claimed (x ∷ rows) h = ap (λ b. b || list_any is_claimed rows) (h 0) ∙ no_claimed rows (λ r. h (suc r))

find_nothing : (p : ℕ → Bool) (a n : ℕ) → ((x : ℕ) → a ≤ x → x < a + n → p x ≡ false) → find p (range_with_len a n) ≡ None
find_nothing p a zero h = refl
find_nothing p a (suc n) h = ap (λ b. cond b (Some a) (find p (range_with_len (a + 1) n))) (h a (omega arith) (omega arith)) ∙ find_nothing p (a + 1) n (λ x l m. h x (omega (arith, l)) (omega (arith, m)))

claim_fits : (o : Opening) (b : Book) (x : Option ℕ) → claimable_row o b ≡ x → AnswersClaim o b (claim_answer b x).reply
claim_fits o b (Some r) e =
    let is_in = found_in (may_be_claimed o b) (places o.txs) r e in
    record { known = omega (arith, range_high 0 (length o.txs) r is_in.0); may = is_in.1; least = λ q l. found_first (may_be_claimed o b) 0 (length o.txs) r e q (omega arith) l }
claim_fits o b None e = go (list_any is_claimed b.rows) refl
  where
    none : (r : ℕ) → r < length o.txs → may_be_claimed o b r ≡ false
    none r l = found_none (may_be_claimed o b) (places o.txs) e r (in_range 0 (length o.txs) r (omega arith) (omega (arith, l)))

    go : (c : Bool) → list_any is_claimed b.rows ≡ c → AnswersClaim o b (cond c reply.Later reply.Over)
    go true f = (none, some_claimed b.rows f)
    go false f = (none, any_none b.rows f)

claim_replies : (o : Opening) (b : Book) (answer : Reply) → AnswersClaim o b answer → (claim_answer b (claimable_row o b)).reply ≡ answer
claim_replies o b (reply.Work r) h = ap (λ x. (claim_answer b x).reply) (found_if (may_be_claimed o b) 0 (length o.txs) r (omega arith) (omega (arith, h.known)) h.may (λ y l m. h.least y m))
claim_replies o b reply.Later h =
    ap (λ x. (claim_answer b x).reply) (find_nothing (may_be_claimed o b) 0 (length o.txs) (λ x l m. h.0 x (omega (arith, m))))
    ∙ ap (λ c. cond c reply.Later reply.Over) (any_claimed b.rows h.1.0 h.1.1)
claim_replies o b reply.Over h =
    ap (λ x. (claim_answer b x).reply) (find_nothing (may_be_claimed o b) 0 (length o.txs) (λ x l m. h.0 x (omega (arith, m))))
    ∙ ap (λ c. cond c reply.Later reply.Over) (no_claimed b.rows h.1)
claim_replies o b other h = absurd h

pub claim_exactly_where : ClaimExactlyWhere
unfolding claim
claim_exactly_where o b answer = (λ e. subst (AnswersClaim o b) e (claim_fits o b (claimable_row o b) refl), claim_replies o b answer)

-- commits

agree_from_none : (reads : Cells) (store : Store) → first_changed_read reads store ≡ None → Each (λ pair. read store pair.0 ≡ pair.1) reads
agree_from_none [] store e = tt
agree_from_none (pair ∷ reads) store e = go (read store pair.0 == pair.1) refl (agree_from_none reads store)
  where
    go : (b : Bool) → (read store pair.0 == pair.1) ≡ b → (first_changed_read reads store ≡ None → Each (λ pair. read store pair.0 ≡ pair.1) reads) → Each (λ pair. read store pair.0 ≡ pair.1) (pair ∷ reads)
    go true f deep = (eqb-true _ _ f, deep (ap (λ b. cond (not b) (Some pair) (first_changed_read reads store)) (sym f) ∙ e))
    go false f deep = none_not_some (sym e ∙ ap (λ b. cond (not b) (Some pair) (first_changed_read reads store)) f)

-- the first changed read, found
pub record Found (reads : Cells) (store : Store) (pair : Cell × ℕ) : Type 0 where
  pub before : Cells
  pub later : Cells
  pub parts : reads ≡ before ++ pair ∷ later
  pub same : Each (λ p. read store p.0 ≡ p.1) before
  pub differs : pair.1 ≢ read store pair.0

first_found : (reads : Cells) (store : Store) (pair : Cell × ℕ) → first_changed_read reads store ≡ Some pair → Found reads store pair
first_found [] store pair e = none_not_some e
first_found (p ∷ reads) store pair e = go (read store p.0 == p.1) refl (first_found reads store pair)
  where
    here : p ≡ pair → (read store p.0 == p.1) ≡ false → Found (p ∷ reads) store pair
    here same f = subst (λ q. Found (p ∷ reads) store q) same (record { before = []; later = reads; parts = refl; same = tt; differs = λ g. false_not_true f (eq-eqb _ _ (sym g)) })

    go : (b : Bool) → (read store p.0 == p.1) ≡ b → (first_changed_read reads store ≡ Some pair → Found reads store pair) → Found (p ∷ reads) store pair
    go true f deep =
        let d = deep (ap (λ b. cond (not b) (Some p) (first_changed_read reads store)) (sym f) ∙ e) in
        record { before = p ∷ d.before; later = d.later; parts = ap (λ l. p ∷ l) d.parts; same = (eqb-true _ _ f, d.same); differs = d.differs }
    go false f deep = here (some_same p pair (ap (λ b. cond (not b) (Some p) (first_changed_read reads store)) (sym f) ∙ e)) f

found_back : (before later : Cells) (store : Store) (cell : Cell) (was : ℕ) → Each (λ p. read store p.0 ≡ p.1) before → was ≢ read store cell → first_changed_read (before ++ (cell, was) ∷ later) store ≡ Some (cell, was)
found_back [] later store cell was h d = go (read store cell == was) refl
  where
    go : (b : Bool) → (read store cell == was) ≡ b → cond (not (read store cell == was)) (Some (cell, was)) (first_changed_read later store) ≡ Some (cell, was)
    go true f = absurd (d (sym (eqb-true _ _ f)))
    go false f = ap (λ b. cond (not b) (Some (cell, was)) (first_changed_read later store)) f
found_back (p ∷ before) later store cell was h d = ap (λ b. cond (not b) (Some p) (first_changed_read (before ++ (cell, was) ∷ later) store)) (eq-eqb _ _ h.0) ∙ found_back before later store cell was h.1 d

changed_from : (reads : Cells) (store : Store) (pair : Cell × ℕ) → first_changed_read reads store ≡ Some pair → IsFirstChanged reads store pair.0 pair.1 (read store pair.0)
changed_from reads store pair e =
    let f = first_found reads store pair e in
    record { before = f.before; later = f.later; parts = f.parts; same = All_from_Each _ f.before f.same; value = refl; differs = f.differs }

changed_back : (reads : Cells) (store : Store) (cell : Cell) (was now : ℕ) → IsFirstChanged reads store cell was now → first_changed_read reads store ≡ Some (cell, was)
changed_back reads store cell was now h =
    ap (λ rs. first_changed_read rs store) h.parts
    ∙ found_back h.before h.later store cell was (Each_from_all (λ pair. read store pair.0 ≡ pair.1) h.before h.same) (λ e. h.differs (e ∙ h.value))

-- a stale commit's reply, by whether there may be more
stale_replies : (r ticket n : ℕ) (cell : Cell) (was now : ℕ) → (stale_answer r ticket n cell was now).reply ≡ cond (nat_lt (suc n) MAX_STALES) (reply.Stale cell was now) (reply.LastStale cell was now)
unfolding stale_answer
stale_replies r ticket n cell was now = go (nat_lt (suc n) MAX_STALES) (suc n == MAX_STALES)
  where
    go : (a c : Bool) → (cond a (reply_with (reply.Stale cell was now) r ticket (log.Stale cell was now)) (cond c (reply_with (reply.LastStale cell was now) r ticket (log.LastStale cell was now)) (reply_only (reply.LastStale cell was now)))).reply ≡ cond a (reply.Stale cell was now) (reply.LastStale cell was now)
    go true c = refl
    go false true = refl
    go false false = refl

held_fits : (b : Book) (r ticket n : ℕ) (reads : Cells) → IsHeld b r ticket n → (y : Option (Cell × ℕ)) → first_changed_read reads b.ledger.store ≡ y → AnswersCommit b r ticket reads (commit_answer b r ticket n y).reply
held_fits b r ticket n reads held None f = ((n, held), All_from_Each _ reads (agree_from_none reads b.ledger.store f), refl)
held_fits b r ticket n reads held (Some pair) f = subst (AnswersCommit b r ticket reads) (sym (stale_replies r ticket n pair.0 pair.1 (read b.ledger.store pair.0))) (go (nat_lt (suc n) MAX_STALES) refl)
  where
    go : (a : Bool) → nat_lt (suc n) MAX_STALES ≡ a → AnswersCommit b r ticket reads (cond a (reply.Stale pair.0 pair.1 (read b.ledger.store pair.0)) (reply.LastStale pair.0 pair.1 (read b.ledger.store pair.0)))
    go true e = ((n, held, ltb-true (suc n) MAX_STALES e), changed_from reads b.ledger.store pair f)
    go false e = ((n, held, ltb-false (suc n) MAX_STALES e), changed_from reads b.ledger.store pair f)

commit_fits : (b : Book) (r ticket : ℕ) (reads : Cells) (x : Option ℕ) → stales_under ticket (row_at b r) ≡ x → AnswersCommit b r ticket reads (if_held b r x (λ n. commit_answer b r ticket n (first_changed_read reads b.ledger.store))).reply
commit_fits b r ticket reads None e = (e, refl)
commit_fits b r ticket reads (Some n) e = held_fits b r ticket n reads e (first_changed_read reads b.ledger.store) refl

-- a commit by what is known of the row and of the reads
computed : (b : Book) (r ticket n : ℕ) (reads : Cells) (y : Option (Cell × ℕ)) → IsHeld b r ticket n → first_changed_read reads b.ledger.store ≡ y → commit b r ticket reads ≡ commit_answer b r ticket n y
unfolding commit
computed b r ticket n reads y held first =
    ap (λ x. if_held b r x (λ n. commit_answer b r ticket n (first_changed_read reads b.ledger.store))) held
    ∙ ap (commit_answer b r ticket n) first

stale_computed : (b : Book) (r ticket n : ℕ) (reads : Cells) (cell : Cell) (was now : ℕ) → IsHeld b r ticket n → IsFirstChanged reads b.ledger.store cell was now → (commit b r ticket reads).reply ≡ cond (nat_lt (suc n) MAX_STALES) (reply.Stale cell was now) (reply.LastStale cell was now)
stale_computed b r ticket n reads cell was now held changed =
    ap (λ (a : Answer). a.reply) (computed b r ticket n reads (Some (cell, was)) held (changed_back reads b.ledger.store cell was now changed))
    ∙ stale_replies r ticket n cell was (read b.ledger.store cell)
    ∙ ap (λ v. cond (nat_lt (suc n) MAX_STALES) (reply.Stale cell was v) (reply.LastStale cell was v)) changed.value

gone_computed : (b : Book) (r ticket : ℕ) (reads : Cells) → stales_under ticket (row_at b r) ≡ None → (commit b r ticket reads).reply ≡ reply.Gone (row_at b r)
unfolding commit
gone_computed b r ticket reads e = ap (λ x. (if_held b r x (λ n. commit_answer b r ticket n (first_changed_read reads b.ledger.store))).reply) e

commit_replies : (b : Book) (r ticket : ℕ) (reads : Cells) (answer : Reply) → AnswersCommit b r ticket reads answer → (commit b r ticket reads).reply ≡ answer
commit_replies b r ticket reads (reply.Placed seq) h =
    ap (λ (a : Answer). a.reply) (computed b r ticket h.0.0 reads None h.0.1 (nothing_changed reads b.ledger.store (Each_from_all (λ pair. read b.ledger.store pair.0 ≡ pair.1) reads h.1)))
    ∙ ap reply.Placed (sym h.2)
commit_replies b r ticket reads (reply.Stale cell was now) h =
    stale_computed b r ticket h.0.0 reads cell was now h.0.1 h.1
    ∙ ap (λ c. cond c (reply.Stale cell was now) (reply.LastStale cell was now)) (lt-ltb (suc h.0.0) MAX_STALES h.0.2)
commit_replies b r ticket reads (reply.LastStale cell was now) h =
    stale_computed b r ticket h.0.0 reads cell was now h.0.1 h.1
    ∙ ap (λ c. cond c (reply.Stale cell was now) (reply.LastStale cell was now)) (le-ltb (suc h.0.0) MAX_STALES h.0.2)
commit_replies b r ticket reads (reply.Gone state) h = gone_computed b r ticket reads h.0 ∙ ap reply.Gone (sym h.1)
commit_replies b r ticket reads other h = absurd h

commit_suits : (b : Book) (r ticket : ℕ) (reads : Cells) → AnswersCommit b r ticket reads (commit b r ticket reads).reply
unfolding commit
commit_suits b r ticket reads = commit_fits b r ticket reads (stales_under ticket (row_at b r)) refl

pub commit_exactly_where : CommitExactlyWhere
commit_exactly_where b r ticket reads answer = (λ e. subst (AnswersCommit b r ticket reads) e (commit_suits b r ticket reads), commit_replies b r ticket reads answer)

past_last_stale : (r ticket n : ℕ) (cell : Cell) (was now : ℕ) → MAX_STALES ≤ n → (stale_answer r ticket n cell was now).entries ≡ []
unfolding stale_answer
past_last_stale r ticket n cell was now l =
    ap (λ a. (cond a (reply_with (reply.Stale cell was now) r ticket (log.Stale cell was now)) (last (suc n == MAX_STALES))).entries) (le-ltb (suc n) MAX_STALES (omega (arith, l)))
    ∙ ap (λ c. (last c).entries) (other (suc n == MAX_STALES) refl)
  where
    last : Bool → Answer
    last c = cond c (reply_with (reply.LastStale cell was now) r ticket (log.LastStale cell was now)) (reply_only (reply.LastStale cell was now))

    other : (c : Bool) → (suc n == MAX_STALES) ≡ c → c ≡ false
    other true e = absurd (omega (arith, l, eqb-true (suc n) MAX_STALES e))
    other false e = refl

past_last : (b : Book) (r ticket n : ℕ) (reads : Cells) → MAX_STALES ≤ n → (y : Option (Cell × ℕ)) → first_changed_read reads b.ledger.store ≡ y → (AgreesWith reads b.ledger.store → ⊥) → (commit_answer b r ticket n y).entries ≡ []
past_last b r ticket n reads l None f d = absurd (d (All_from_Each _ reads (agree_from_none reads b.ledger.store f)))
past_last b r ticket n reads l (Some pair) f d = past_last_stale r ticket n pair.0 pair.1 (read b.ledger.store pair.0) l

pub past_last_adds_nothing : PastLastAddsNothing
past_last_adds_nothing b r ticket n reads held l d =
    ap (λ (a : Answer). a.entries) (computed b r ticket n reads (first_changed_read reads b.ledger.store) held refl)
    ∙ past_last b r ticket n reads l (first_changed_read reads b.ledger.store) refl d

-- runs on the present store, and rows given back

here_fits : (b : Book) (r ticket : ℕ) (x : Option ℕ) → stales_under ticket (row_at b r) ≡ x → AnswersHere b r ticket (if_held b r x (λ _. reply_with (reply.Placed (next_seq b)) r ticket (log.Here (next_seq b)))).reply
here_fits b r ticket None e = (e, refl)
here_fits b r ticket (Some n) e = ((n, e), refl)

here_replies : (b : Book) (r ticket : ℕ) (answer : Reply) → AnswersHere b r ticket answer → (if_held b r (stales_under ticket (row_at b r)) (λ _. reply_with (reply.Placed (next_seq b)) r ticket (log.Here (next_seq b)))).reply ≡ answer
here_replies b r ticket (reply.Placed seq) h = ap (λ x. (if_held b r x (λ _. reply_with (reply.Placed (next_seq b)) r ticket (log.Here (next_seq b)))).reply) h.0.1 ∙ ap reply.Placed (sym h.1)
here_replies b r ticket (reply.Gone state) h = ap (λ x. (if_held b r x (λ _. reply_with (reply.Placed (next_seq b)) r ticket (log.Here (next_seq b)))).reply) h.0 ∙ ap reply.Gone (sym h.1)
here_replies b r ticket other h = absurd h

pub here_exactly_where : HereExactlyWhere
unfolding commit_here
here_exactly_where b r ticket answer = (λ e. subst (AnswersHere b r ticket) e (here_fits b r ticket (stales_under ticket (row_at b r)) refl), here_replies b r ticket answer)

release_fits : (b : Book) (r ticket : ℕ) (x : Option ℕ) → stales_under ticket (row_at b r) ≡ x → AnswersRelease b r ticket (if_held b r x (λ _. reply_with reply.Freed r ticket log.Freed)).reply
release_fits b r ticket None e = (e, refl)
release_fits b r ticket (Some n) e = (n, e)

release_replies : (b : Book) (r ticket : ℕ) (answer : Reply) → AnswersRelease b r ticket answer → (if_held b r (stales_under ticket (row_at b r)) (λ _. reply_with reply.Freed r ticket log.Freed)).reply ≡ answer
release_replies b r ticket reply.Freed h = ap (λ x. (if_held b r x (λ _. reply_with reply.Freed r ticket log.Freed)).reply) h.1
release_replies b r ticket (reply.Gone state) h = ap (λ x. (if_held b r x (λ _. reply_with reply.Freed r ticket log.Freed)).reply) h.0 ∙ ap reply.Gone (sym h.1)
release_replies b r ticket other h = absurd h

pub release_exactly_where : ReleaseExactlyWhere
unfolding release
release_exactly_where b r ticket answer = (λ e. subst (AnswersRelease b r ticket) e (release_fits b r ticket (stales_under ticket (row_at b r)) refl), release_replies b r ticket answer)

-- all that is claimed given back

freeing_length : (at : ℕ) (rows : List RowState) → length (freeing_entries at rows) ≡ length (filter is_claimed rows)
unfolding freeing_entries
freeing_length at [] = refl
freeing_length at (row.Free c ∷ rows) = freeing_length (suc at) rows
freeing_length at (row.Claimed t c s ∷ rows) = ap suc (freeing_length (suc at) rows)
freeing_length at (row.Done n ∷ rows) = freeing_length (suc at) rows

pub reclaim_frees_all : ReclaimFreesAll
unfolding reclaim
reclaim_frees_all o b = record { said = ap reply.Reclaimed (freeing_length 0 b.rows); left = (freeing o b [] b.rows 0 refl refl).left }
