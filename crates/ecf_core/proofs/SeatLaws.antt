-- Seats.
use Rattle.std.proofs.Common.{◌≡◌, ◌≢◌, ℕ, suc, ◌<◌, ◌≤◌, ◌==◌, ◌+◌, Bool, true, false, cond, List, [], ◌∷◌, ◌++◌, length, Option, Some, None, get_or, inl, inr, refl, sym, ap, ◌∙◌, subst, arith}
use Rattle.std.specs.Prelude.{slice_get, nat_lt, All, AllPairs}
use Rattle.std.specs.List.{enumerate_from}
use Rattle.std.proofs.lemmas.Bool.{cases_eq, le-ltb, ltb-false}
use Rattle.std.proofs.lemmas.List.{append-nil, length_push, length-append, get_or_push, get_or_append_left}
use Rattle.std.proofs.lemmas.List.Elements.{All-append}
use Rattle.std.proofs.lemmas.Option.{slice_get_within}
use Rattle.ecf_lang.specs.declared.cell.Cell.{Cell}
use Rattle.ecf_lang.specs.declared.limits.TheConstants.{MAX_STALES}
use Rattle.ecf_lang.specs.Store.{read}
use Rattle.ecf_verdicts.specs.ListLemmas.{Each, Each_at, Each_from, Each_from_all, Each_weaker, All_from_Each, Pairs, Pairs_at, Pairs_from_at}
use Rattle.ecf_core.specs.declared.book.LogEntry.{LogEntry}
use Rattle.ecf_core.specs.declared.book.LogWhat.TheVariants as log
use Rattle.ecf_core.specs.declared.event.Reply.TheVariants as reply
use Rattle.ecf_core.specs.Book.{Book, row_at, stales_under, claimable_row, after}
use Rattle.ecf_core.specs.Calls.{Answer, claim_answer, claim, first_changed_read, reply_only, reply_with, stale_answer, commit_answer, if_held, commit, commit_here, release}
use Rattle.ecf_core.specs.Seats.{Seat, IsSeat, ShareNoEntry, BeginsWith, EachCallAddsOne, CallKeepsSeat, CallKeepsUnshared, SplitKeepsSeats, UnsharedBothWays, JoinKeepsUnshared, JoinKeepsSeats}
use Rattle.ecf_core.proofs.ListLaws.{get_left, get_last, Each_both}

offered_one : (b : Book) (x : Option ℕ) → length (claim_answer b x).entries ≤ 1
offered_one b None = omega arith
offered_one b (Some r) = omega arith

stale_one : (r ticket n : ℕ) (cell : Cell) (was now : ℕ) → length (stale_answer r ticket n cell was now).entries ≤ 1
unfolding stale_answer
stale_one r ticket n cell was now = go (nat_lt (suc n) MAX_STALES) (suc n == MAX_STALES)
  where
    go : (a c : Bool) → length (cond a (reply_with (reply.Stale cell was now) r ticket (log.Stale cell was now)) (cond c (reply_with (reply.LastStale cell was now) r ticket (log.LastStale cell was now)) (reply_only (reply.LastStale cell was now)))).entries ≤ 1
    go true c = omega arith
    go false true = omega arith
    go false false = omega arith

validated_one : (b : Book) (r ticket n : ℕ) (x : Option (Cell × ℕ)) → length (commit_answer b r ticket n x).entries ≤ 1
validated_one b r ticket n None = omega arith
validated_one b r ticket n (Some pair) = stale_one r ticket n pair.0 pair.1 (read b.ledger.store pair.0)

held_one : (b : Book) (r : ℕ) (x : Option ℕ) (next : ℕ → Answer) → ((n : ℕ) → length (next n).entries ≤ 1) → length (if_held b r x next).entries ≤ 1
held_one b r None next h = omega arith
held_one b r (Some n) next h = h n

pub each_call_adds_one : EachCallAddsOne
unfolding claim commit commit_here release
each_call_adds_one o = record {
  claims = λ b. offered_one b (claimable_row o b);
  commits = λ r ticket reads b. held_one b r (stales_under ticket (row_at b r)) _ (λ n. validated_one b r ticket n (first_changed_read reads b.ledger.store));
  runs_here = λ r ticket b. held_one b r (stales_under ticket (row_at b r)) _ (λ n. omega arith);
  releases = λ r ticket b. held_one b r (stales_under ticket (row_at b r)) _ (λ n. omega arith);
}

-- a seat with at most one entry more, after more of the history
stays : (seen rest : List LogEntry) (mine : List (ℕ × LogEntry)) (es : List LogEntry) → length es ≤ 1 → IsSeat (record { seen = seen; mine = mine }) → IsSeat (record { seen = (seen ++ rest) ++ es; mine = mine ++ enumerate_from (length (seen ++ rest)) es })
stays seen rest mine [] l s = record {
  own = λ k d h. get_left (seen ++ rest) [] _ _ (get_left seen rest _ _ (subst (λ (ms : List (ℕ × LogEntry)). k < length ms → slice_get seen (get_or ms k d).0 ≡ Some (get_or ms k d).1) (sym (append-nil mine)) (s.own k d) h));
  differ = subst (AllPairs (λ m n. m.0 ≢ n.0)) (sym (append-nil mine)) s.differ;
}
stays seen rest mine (e ∷ f ∷ es) l s = absurd (omega (arith, l))
stays seen rest mine (e ∷ []) l s = record { own = own; differ = differ }
  where
    new : ℕ × LogEntry
    new = (length (seen ++ rest), e)

    own : (k : ℕ) (d : ℕ × LogEntry) → k < length (mine ++ (length (seen ++ rest), e) ∷ []) → (let m = get_or (mine ++ (length (seen ++ rest), e) ∷ []) k d in slice_get ((seen ++ rest) ++ e ∷ []) m.0 ≡ Some m.1)
    own k d h = elim (cases_eq k (length mine)) [
      | inl f ↦ subst (λ (m : ℕ × LogEntry). slice_get ((seen ++ rest) ++ e ∷ []) m.0 ≡ Some m.1) (sym (get_or_push mine (length (seen ++ rest), e) d k (sym f))) (get_last (seen ++ rest) e)
      | inr f ↦ let inside : k < length mine = omega (arith, h, f, length_push mine (length (seen ++ rest), e)) in
          subst (λ (m : ℕ × LogEntry). slice_get ((seen ++ rest) ++ e ∷ []) m.0 ≡ Some m.1) (sym (get_or_append_left mine ((length (seen ++ rest), e) ∷ []) d k inside)) (get_left (seen ++ rest) (e ∷ []) _ _ (get_left seen rest _ _ (s.own k d inside)))
    ]

    differ : AllPairs (λ m n. m.0 ≢ n.0) (mine ++ (length (seen ++ rest), e) ∷ [])
    differ i j d a b = elim (cases_eq j (length mine)) [
      | inl f ↦ let inside : i < length mine = omega (arith, a, f) in
          let low : (get_or mine i d).0 < length seen = slice_get_within seen _ _ (s.own i d inside) in
          subst (λ (m : ℕ × LogEntry). m.0 ≢ (get_or (mine ++ (length (seen ++ rest), e) ∷ []) j d).0) (sym (get_or_append_left mine ((length (seen ++ rest), e) ∷ []) d i inside))
          (subst (λ (m : ℕ × LogEntry). (get_or mine i d).0 ≢ m.0) (sym (get_or_push mine (length (seen ++ rest), e) d j (sym f))) (λ g. omega (arith, low, g, length-append seen rest)))
      | inr f ↦ let inside : j < length mine = omega (arith, b, f, length_push mine (length (seen ++ rest), e)) in
          subst (λ (m : ℕ × LogEntry). m.0 ≢ (get_or (mine ++ (length (seen ++ rest), e) ∷ []) j d).0) (sym (get_or_append_left mine ((length (seen ++ rest), e) ∷ []) d i (omega (arith, a, inside))))
          (subst (λ (m : ℕ × LogEntry). (get_or mine i d).0 ≢ m.0) (sym (get_or_append_left mine ((length (seen ++ rest), e) ∷ []) d j inside)) (s.differ i j d a inside))
    ]

pub call_keeps_seat : CallKeepsSeat
call_keeps_seat o call reply before later one h s =
    let more = h.begins in
    let es = (call (after o h.history)).entries in
    let seen : later.seen ≡ (before.seen ++ more.0) ++ es = h.seen ∙ ap (λ l. l ++ es) more.1 in
    let mine : later.mine ≡ before.mine ++ enumerate_from (length (before.seen ++ more.0)) es = h.mine ∙ ap (λ l. before.mine ++ enumerate_from (length l) es) more.1 in
    subst IsSeat (λ i. record { seen = sym seen i; mine = sym mine i }) (stays before.seen more.0 before.mine es (one (after o h.history)) s)

-- seats that are apart

places_from : (n : ℕ) (es : List LogEntry) → Each (λ m. n ≤ m.0) (enumerate_from n es)
places_from n [] = tt
places_from n (e ∷ es) = (omega arith, Each_weaker (λ m. n + 1 ≤ m.0) (λ m. n ≤ m.0) (enumerate_from (n + 1) es) (λ m l. omega (arith, l)) (places_from (n + 1) es))

low_places : (seat : Seat) (history : List LogEntry) → IsSeat seat → BeginsWith history seat.seen → Each (λ m. m.0 < length history) seat.mine
low_places seat history s more =
    Each_from (λ m. m.0 < length history) seat.mine (λ m i. (let at = Each_at (λ m. slice_get seat.seen m.0 ≡ Some m.1) seat.mine m (Each_from_all (λ m. slice_get seat.seen m.0 ≡ Some m.1) seat.mine s.own) i in
    omega (arith, slice_get_within seat.seen m.0 m.1 at, ap (λ l. length l) more.1, length-append seat.seen more.0)))

pub call_keeps_unshared : CallKeepsUnshared
call_keeps_unshared o call reply before later other called seat more apart =
    let n = length called.history in
    let es = (call (after o called.history)).entries in
    let low = low_places other called.history seat more in
    let new : All (λ m. All (λ k. m.0 ≢ k.0) other.mine) (enumerate_from n es) =
    All_from_Each (λ m. All (λ k. m.0 ≢ k.0) other.mine) (enumerate_from n es)
    (Each_weaker (λ m. n ≤ m.0) (λ m. All (λ k. m.0 ≢ k.0) other.mine) (enumerate_from n es) (λ m l. All_from_Each (λ k. m.0 ≢ k.0) other.mine (Each_weaker (λ k. k.0 < n) (λ k. m.0 ≢ k.0) other.mine (λ k h e. omega (arith, l, h, e)) low)) (places_from n es)) in
    subst (λ mine. All (λ m. All (λ k. m.0 ≢ k.0) other.mine) mine) (sym called.mine) (All-append (λ m. All (λ k. m.0 ≢ k.0) other.mine) before.mine (enumerate_from n es) apart new)

pub split_keeps_seats : SplitKeepsSeats
split_keeps_seats seat s = (s, record { own = λ k d l. absurd (omega (arith, l)); differ = λ i j d l m. absurd (omega (arith, m)) }, λ k d l j e m. absurd (omega (arith, m)))

pub unshared_both_ways : UnsharedBothWays
unshared_both_ways a b h = λ j e m k d l f. h k d l j e m (sym f)

pub join_keeps_unshared : JoinKeepsUnshared
join_keeps_unshared a b other h k = All-append (λ m. All (λ n. m.0 ≢ n.0) other.mine) a.mine b.mine h k

-- seats joined

no_rest : (rest : List LogEntry) → length rest ≡ 0 → rest ≡ []
no_rest [] e = refl
no_rest (x ∷ rest) e = absurd (omega (arith, e))

abbrev longer : List LogEntry → List LogEntry → List LogEntry
longer a b = cond (nat_lt (length a) (length b)) b a

longer_first : (a b : List LogEntry) → BeginsWith a b → longer a b ≡ a
longer_first a b more = ap (λ c. cond c b a) (le-ltb (length a) (length b) (omega (arith, ap (λ l. length l) more.1, length-append b more.0)))

longer_second : (a b : List LogEntry) → BeginsWith b a → longer a b ≡ b
longer_second a b more = go (nat_lt (length a) (length b)) refl
  where
    go : (c : Bool) → nat_lt (length a) (length b) ≡ c → cond c b a ≡ b
    go true e = refl
    go false e =
        let none = no_rest more.0 (omega (arith, ltb-false (length a) (length b) e, ap (λ l. length l) more.1, length-append a more.0)) in
        sym (more.1 ∙ ap (λ l. a ++ l) none ∙ append-nil a)

pairs_both : {X : Type 0} (R : X → X → Type 0) (xs ys : List X) → Pairs R xs → Pairs R ys → Each (λ x. Each (R x) ys) xs → Pairs R (xs ++ ys)
pairs_both R [] ys h k c = k
pairs_both R (x ∷ xs) ys h k c = (Each_both (R x) xs ys h.0 c.0, pairs_both R xs ys h.1 k c.1)

own_within : (whole first : List LogEntry) (mine : List (ℕ × LogEntry)) → BeginsWith whole first → All (λ m. slice_get first m.0 ≡ Some m.1) mine → All (λ m. slice_get whole m.0 ≡ Some m.1) mine
own_within whole first mine more own = λ k d l. ap (λ w. slice_get w (get_or mine k d).0) more.1 ∙ get_left first more.0 (get_or mine k d).0 (get_or mine k d).1 (own k d l)

joined : (a b : Seat) (seen : List LogEntry) → IsSeat a → IsSeat b → ShareNoEntry a b → BeginsWith seen a.seen → BeginsWith seen b.seen → IsSeat (record { seen = seen; mine = a.mine ++ b.mine })
joined a b seen s t apart first second = record {
  own = All-append (λ m. slice_get seen m.0 ≡ Some m.1) a.mine b.mine (own_within seen a.seen a.mine first s.own) (own_within seen b.seen b.mine second t.own);
  differ = λ i j d l m. Pairs_at (λ m n. m.0 ≢ n.0) (a.mine ++ b.mine) both i j d l m;
}
  where
    cross : Each (λ m. Each (λ n. m.0 ≢ n.0) b.mine) a.mine
    cross = Each_weaker (λ m. All (λ n. m.0 ≢ n.0) b.mine) (λ m. Each (λ n. m.0 ≢ n.0) b.mine) a.mine (λ m h. Each_from_all (λ n. m.0 ≢ n.0) b.mine h) (Each_from_all (λ m. All (λ n. m.0 ≢ n.0) b.mine) a.mine apart)

    both : Pairs (λ m n. m.0 ≢ n.0) (a.mine ++ b.mine)
    both = pairs_both (λ m n. m.0 ≢ n.0) a.mine b.mine (Pairs_from_at (λ m n. m.0 ≢ n.0) a.mine s.differ) (Pairs_from_at (λ m n. m.0 ≢ n.0) b.mine t.differ) cross

all_of : (l : List LogEntry) → BeginsWith l l
all_of l = ([], sym (append-nil l))

pub join_keeps_seats : JoinKeepsSeats
join_keeps_seats a b s t apart (inl more) =
    let is : longer a.seen b.seen ≡ a.seen = longer_first a.seen b.seen more in
    let first : BeginsWith (longer a.seen b.seen) a.seen = subst (λ l. BeginsWith l a.seen) (sym is) (all_of a.seen) in
    let second : BeginsWith (longer a.seen b.seen) b.seen = subst (λ l. BeginsWith l b.seen) (sym is) more in
    record { seat = joined a b (longer a.seen b.seen) s t apart first second; mine = refl; first = first; second = second; no_more = inl is }
join_keeps_seats a b s t apart (inr more) =
    let is : longer a.seen b.seen ≡ b.seen = longer_second a.seen b.seen more in
    let first : BeginsWith (longer a.seen b.seen) a.seen = subst (λ l. BeginsWith l a.seen) (sym is) more in
    let second : BeginsWith (longer a.seen b.seen) b.seen = subst (λ l. BeginsWith l b.seen) (sym is) (all_of b.seen) in
    record { seat = joined a b (longer a.seen b.seen) s t apart first second; mine = refl; first = first; second = second; no_more = inr is }
