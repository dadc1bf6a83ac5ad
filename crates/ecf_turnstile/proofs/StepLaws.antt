-- Each step of a turn keeps the rule, and tells what it promises.
use Rattle.std.proofs.Common.{◌≡◌, ◌≢◌, ℕ, zero, suc, ◌+◌, ◌%◌, ◌^◌, ◌<◌, ◌≤◌, List, [], ◌∷◌, ◌++◌, length, set, get_or, eqb, Some, Option, refl, ap, sym, ◌∙◌, subst, ⊎_elim, arith, length-append, inl, inr}
use Rattle.std.proofs.lemmas.List.Elements.{All-weaker, All-append, All-push, All-nil, All-cons}
use mathlib.Core.Logic.{dite}
use mathlib.Core.Option.{some, none, some-ne-none}
use mathlib.Core.List.{IsPrefix}
use native.Mathlib.Decide.{ℕ_discrete}
use prog.Atomic.{either}
use lib.ListN.{get_elem?}
use Rattle.atomic_table.specs.Table.{State, Me, step, keeps, takes, gives, Allows, Splits, Joins, opening, rest, put_back}
use Rattle.atomic_table.proofs.Lists.{at_set, at_snoc}
use Rattle.ecf_turnstile.specs.declared.view.Phase.TheVariants.{Idle, Waiting, Served}
use Rattle.ecf_turnstile.specs.declared.view.View.{View}
use Rattle.ecf_turnstile.specs.Histories.{longer_of, GrowsByAtMostOne}
use Rattle.ecf_turnstile.specs.Views.{first_view, spent_view, second_view, united_view, with_ticket, with_turn, with_own, with_seen, at_rest}
use Rattle.ecf_turnstile.specs.Rule.{IsInTurn, Knows}
use Rattle.ecf_turnstile.specs.Steps.{Draws, Looks, Extends, PassesOn, Compares}
use Rattle.ecf_turnstile.proofs.ListLaws.{append_nil, prefix_none, prefix_self, prefix_more, prefix_trans, longer_fits, apart_both, each_set, either_here, either_else}

-- the phases differ
idle-waiting : Idle ≢ Waiting
idle-waiting e = absurd (cc e)

idle-served : Idle ≢ Served
idle-served e = absurd (cc e)

waiting-served : Waiting ≢ Served
waiting-served e = absurd (cc e)

-- what a seat knows goes on, where the history only grows
knows_on : {O E : Type 0} {o : O} {history history' : List E} {next next' serving serving' out out' : ℕ} {owner owner' author author' : ℕ → ℕ} {j : ℕ} {u : View O E}
    → Knows o history next serving out owner author j u
    → IsPrefix history history' → length history ≤ length history'
    → ((p : ℕ) → p < length history → author p ≡ j → author' p ≡ j)
    → (u.phase ≡ Waiting → (serving ≤ u.ticket) × (u.ticket < next) × (owner u.ticket ≡ j) × (u.ticket ≡ serving → out ≡ 0) → (serving' ≤ u.ticket) × (u.ticket < next') × (owner' u.ticket ≡ j) × (u.ticket ≡ serving' → out' ≡ 0))
    → (u.phase ≡ Served → (u.ticket ≡ serving) × (u.ticket < next) × (owner u.ticket ≡ j) × (out ≡ 1) × (u.seen ≡ history) → (u.ticket ≡ serving') × (u.ticket < next') × (owner' u.ticket ≡ j) × (out' ≡ 1) × (u.seen ≡ history'))
    → Knows o history' next' serving' out' owner' author' j u
knows_on {E} {history} {history'} {author} {author'} {j} {u} k grows no_shorter own waits has = record {
  opened = k.opened;
  seen = prefix_trans u.seen history history' k.seen grows;
  told = prefix_trans u.told history history' k.told grows;
  mine = All-weaker (λ (p : ℕ × E). (p.0 < length history) × (author p.0 ≡ j)) (λ (p : ℕ × E). (p.0 < length history') × (author' p.0 ≡ j)) (λ p h. (omega (arith, h.0), own p.0 h.0 h.1)) u.mine k.mine;
  apart = k.apart;
  waits = λ h. waits h (k.waits h);
  has = λ h. has h (k.has h);
}

module _ {B O E : Type 0} (opening_of : B → O) (entries_of : B → List E) where
  -- a new table keeps the rule
  pub start_keeps : (x : B) (n : ℕ) → n ≡ length (entries_of x) → IsInTurn opening_of entries_of (opening_of x) (opening (n ∷ 0 ∷ 0 ∷ []) (Some x ∷ []) (first_view (opening_of x) (entries_of x)))
  start_keeps x n e = record {
    history = entries_of x;
    next = 0;
    serving = 0;
    out = 0;
    owner = λ _. 0;
    author = λ _. 0;
    words = ap (λ (z : ℕ). z ∷ 0 ∷ 0 ∷ []) e;
    home = some (Some x);
    homes = refl;
    in_order = (omega arith, omega arith);
    busy = λ h. absurd (h refl);
    at_home = λ _. (x, refl, refl, refl);
    each_seat = each_set (Knows (opening_of x) (entries_of x) 0 0 0 (λ _. 0) (λ _. 0)) (first_view (opening_of x) (entries_of x) ∷ []) 0 (first_view (opening_of x) (entries_of x)) (record {
      opened = λ _. refl;
      seen = prefix_self (entries_of x);
      told = prefix_none (entries_of x);
      mine = All-nil (λ (p : ℕ × E). (p.0 < length (entries_of x)) × (0 ≡ 0));
      apart = tt;
      waits = λ z. absurd (idle-waiting z);
      has = λ z. absurd (idle-served z);
    }) (λ j u ne at. absurd (ne (only j u at)));
  }
    where
      only : (j : ℕ) (u : View O E) → get_elem? (first_view (opening_of x) (entries_of x) ∷ []) j ≡ some u → j ≡ 0
      only zero u at = refl
      only (suc j) u at = absurd (some-ne-none u (sym at))

  module _ (o : O) where
    -- the rule of one table
    abbrev Rule : State (Option B) (View O E) → Type 0
    Rule = IsInTurn opening_of entries_of o

    -- what a seat knows and holds
    abbrev Seat : Type 0
    Seat = Me (Option B) (View O E)

    -- a draw: the ticket has an owner, and no other seat has it
    pub draw_keeps : (slots id : ℕ) (m : Seat) (old : ℕ) → old < 18446744073709551615
        → Allows Rule slots id m 1 (λ n. either (eqb n old) (old + 1) n) (Draws (step slots 1 old (old + 1) none) m)
    draw_keeps slots id m old small s k wide at bound =
        let N : ℕ = get_or s.words 1 0 in
        let is : N ≡ k.next = ap (λ ws. get_or ws 1 0) k.words in
        let mine : Knows o k.history k.next k.serving k.out k.owner k.author id m.0 = k.each_seat id m.0 at in
        let served = k.in_order in
        dite (ℕ_discrete N old)
        (λ e.
        let owner : ℕ → ℕ = λ t. either (eqb t old) id (k.owner t) in
        let w : View O E = with_ticket m.0 N in (
          w,
          keeps,
          tt,
          record {
            history = k.history;
            next = old + 1;
            serving = k.serving;
            out = k.out;
            owner = owner;
            author = k.author;
            words = ap (λ ws. set ws 1 (either (eqb N old) (old + 1) N)) k.words ∙ ap (λ (z : ℕ). length k.history ∷ z ∷ k.serving ∷ []) (either_here N old (old + 1) N e);
            home = k.home;
            homes = k.homes;
            in_order = (omega arith, omega arith);
            busy = λ h. let b = k.busy h in omega arith;
            at_home = k.at_home;
            each_seat = each_set (Knows o k.history (old + 1) k.serving k.out owner k.author) s.views id w (record {
              opened = mine.opened;
              seen = mine.seen;
              told = mine.told;
              mine = mine.mine;
              apart = mine.apart;
              waits = λ _. (omega arith, omega arith, either_here N old id (k.owner N) e, λ same. dite (ℕ_discrete k.out 0) (λ z. z) (λ nz. let b = k.busy nz in absurd (omega arith)));
              has = λ z. absurd (waiting-served z);
            }) (λ j u ne at'. knows_on (k.each_seat j u at') (prefix_self k.history) (omega arith) (λ p l b. b)
                (λ ph h. let below = h.1 in (h.0, omega arith, either_else u.ticket old id (k.owner u.ticket) (λ x. omega arith) ∙ h.2, h.3))
                (λ ph h. let below = h.1 in (h.0, omega arith, either_else u.ticket old id (k.owner u.ticket) (λ x. omega arith) ∙ h.2, h.3, h.4)));
          },
          (refl, (λ _. refl), λ ne. absurd (ne e)),
        ))
        (λ ne. (
          m.0,
          keeps,
          tt,
          record {
            history = k.history;
            next = k.next;
            serving = k.serving;
            out = k.out;
            owner = k.owner;
            author = k.author;
            words = ap (λ ws. set ws 1 (either (eqb N old) (old + 1) N)) k.words ∙ ap (λ (z : ℕ). length k.history ∷ z ∷ k.serving ∷ []) (either_else N old (old + 1) N ne ∙ is);
            home = k.home;
            homes = k.homes;
            in_order = k.in_order;
            busy = k.busy;
            at_home = k.at_home;
            each_seat = each_set (Knows o k.history k.next k.serving k.out k.owner k.author) s.views id m.0 mine (λ j u _ at'. k.each_seat j u at');
          },
          (refl, (λ e. absurd (ne e)), λ _. refl),
        ))

    -- a look: only the owner of the ticket that is served gets the slot
    pub look_keeps : (slots id : ℕ) (m : Seat) → m.0.phase ≡ Waiting → m.1 ≡ []
        → Allows Rule slots id m 2 (λ n. n) (Looks opening_of entries_of (step slots 2 0 0 none) m)
    look_keeps slots id m phase empty s k wide at bound =
        let N : ℕ = get_or s.words 2 0 in
        let is : N ≡ k.serving = ap (λ ws. get_or ws 2 0) k.words in
        let mine : Knows o k.history k.next k.serving k.out k.owner k.author id m.0 = k.each_seat id m.0 at in
        let words : set s.words 2 N ≡ length k.history ∷ k.next ∷ k.serving ∷ [] = ap (λ ws. set ws 2 N) k.words ∙ ap (λ (z : ℕ). length k.history ∷ k.next ∷ z ∷ []) is in
        let queue = mine.waits phase in
        dite (ℕ_discrete N m.0.ticket)
        (λ e.
        let is_served : m.0.ticket ≡ k.serving = sym e ∙ is in
        let free : k.out ≡ 0 = queue.3 is_served in
        let h = k.at_home free in
        let w : View O E = with_turn m.0 (entries_of h.0) in (
          w,
          takes 0 (Some h.0),
          ap (λ hs. get_elem? hs 0) k.homes ∙ ap some h.1,
          record {
            history = k.history;
            next = k.next;
            serving = k.serving;
            out = 1;
            owner = k.owner;
            author = k.author;
            words = words;
            home = none;
            homes = ap (λ hs. set hs 0 none) k.homes;
            in_order = k.in_order;
            busy = λ _. let q = queue.1 in omega arith;
            at_home = λ z. absurd (omega arith);
            each_seat = each_set (Knows o k.history k.next k.serving 1 k.owner k.author) s.views id w (record {
              opened = mine.opened;
              seen = ([], append_nil (entries_of h.0) ∙ h.3);
              told = prefix_none k.history;
              mine = mine.mine;
              apart = mine.apart;
              waits = λ z. absurd (waiting-served (sym z));
              has = λ _. (is_served, queue.1, queue.2, refl, h.3);
            }) (λ j u ne at'. knows_on (k.each_seat j u at') (prefix_self k.history) (omega arith) (λ p l b. b)
                (λ ph q. (q.0, q.1, q.2, λ z. absurd (ne (sym q.2 ∙ (ap k.owner (z ∙ sym is_served) ∙ queue.2)))))
                (λ ph q. let one = q.3 in absurd (omega arith)));
          },
          (
            (λ _. (h.0, refl, ap (λ l. (0, Some h.0) ∷ l) empty, (λ p. mine.opened p ∙ ap Some (sym h.2)), subst (IsPrefix m.0.seen) (sym h.3) mine.seen)),
            λ ne. absurd (ne e),
          ),
        ))
        (λ ne. (
          m.0,
          keeps,
          tt,
          record {
            history = k.history;
            next = k.next;
            serving = k.serving;
            out = k.out;
            owner = k.owner;
            author = k.author;
            words = words;
            home = k.home;
            homes = k.homes;
            in_order = k.in_order;
            busy = k.busy;
            at_home = k.at_home;
            each_seat = each_set (Knows o k.history k.next k.serving k.out k.owner k.author) s.views id m.0 mine (λ j u _ at'. k.each_seat j u at');
          },
          ((λ e. absurd (ne e)), λ _. (refl, refl)),
        ))

    -- where the history is as it was, the word stays
    extend_by_none : (slots id : ℕ) (m : Seat) (x : B) (d : ℕ) → m.1 ≡ (0, Some x) ∷ [] → m.0.phase ≡ Served → entries_of x ≡ m.0.seen → d ≡ 0
        → Allows Rule slots id m 0 (λ n. (n + d) % 2 ^ 64) (Extends entries_of (step slots 0 d 0 none) m)
    extend_by_none slots id m x d holds phase same none_more s k wide at bound =
        let N : ℕ = get_or s.words 0 0 in
        let is : N ≡ length k.history = ap (λ ws. get_or ws 0 0) k.words in
        let mine : Knows o k.history k.next k.serving k.out k.owner k.author id m.0 = k.each_seat id m.0 at in
        let turn = mine.has phase in
        let still : (N + d) % 2 ^ 64 ≡ length k.history = omega arith in
        let w : View O E = with_own m.0 (entries_of x) m.0.mine in (
          w,
          keeps,
          tt,
          record {
            history = k.history;
            next = k.next;
            serving = k.serving;
            out = k.out;
            owner = k.owner;
            author = k.author;
            words = ap (λ ws. set ws 0 ((N + d) % 2 ^ 64)) k.words ∙ ap (λ (z : ℕ). z ∷ k.next ∷ k.serving ∷ []) still;
            home = k.home;
            homes = k.homes;
            in_order = k.in_order;
            busy = k.busy;
            at_home = k.at_home;
            each_seat = each_set (Knows o k.history k.next k.serving k.out k.owner k.author) s.views id w (record {
              opened = mine.opened;
              seen = ([], append_nil (entries_of x) ∙ (same ∙ turn.4));
              told = prefix_none k.history;
              mine = mine.mine;
              apart = mine.apart;
              waits = λ z. absurd (waiting-served (sym z));
              has = λ _. (turn.0, turn.1, turn.2, turn.3, same ∙ turn.4);
            }) (λ j u _ at'. k.each_seat j u at');
          },
          (x, m.0.mine, holds, refl, inl (same, refl)),
        )

    -- where it has one entry more, that place has an author
    extend_by_one : (slots id : ℕ) (m : Seat) (x : B) (e : E) (d : ℕ) → m.1 ≡ (0, Some x) ∷ [] → m.0.phase ≡ Served → entries_of x ≡ m.0.seen ++ e ∷ [] → d ≡ 1 → length m.0.seen + 1 < 18446744073709551616
        → Allows Rule slots id m 0 (λ n. (n + d) % 2 ^ 64) (Extends entries_of (step slots 0 d 0 none) m)
    extend_by_one slots id m x e d holds phase grown one small s k wide at bound =
        let N : ℕ = get_or s.words 0 0 in
        let is : N ≡ length k.history = ap (λ ws. get_or ws 0 0) k.words in
        let mine : Knows o k.history k.next k.serving k.out k.owner k.author id m.0 = k.each_seat id m.0 at in
        let turn = mine.has phase in
        let history : List E = k.history ++ e ∷ [] in
        let author : ℕ → ℕ = λ p. either (eqb p (length k.history)) id (k.author p) in
        let here : length m.0.seen ≡ length k.history = ap length turn.4 in
        let one_more : length history ≡ length k.history + 1 = length-append k.history (e ∷ []) in
        let more : (N + d) % 2 ^ 64 ≡ length history = omega arith in
        let w : View O E = with_own m.0 (entries_of x) (m.0.mine ++ (length m.0.seen, e) ∷ []) in (
          w,
          keeps,
          tt,
          record {
            history = history;
            next = k.next;
            serving = k.serving;
            out = k.out;
            owner = k.owner;
            author = author;
            words = ap (λ ws. set ws 0 ((N + d) % 2 ^ 64)) k.words ∙ ap (λ (z : ℕ). z ∷ k.next ∷ k.serving ∷ []) more;
            home = k.home;
            homes = k.homes;
            in_order = k.in_order;
            busy = k.busy;
            at_home = λ z. let q = turn.3 in absurd (omega arith);
            each_seat = each_set (Knows o history k.next k.serving k.out k.owner author) s.views id w (record {
              opened = mine.opened;
              seen = ([], append_nil (entries_of x) ∙ (grown ∙ ap (λ l. l ++ e ∷ []) turn.4));
              told = prefix_none history;
              mine = All-push (λ (p : ℕ × E). (p.0 < length history) × (author p.0 ≡ id)) m.0.mine (length m.0.seen, e)
                  (All-weaker (λ (p : ℕ × E). (p.0 < length k.history) × (k.author p.0 ≡ id)) (λ (p : ℕ × E). (p.0 < length history) × (author p.0 ≡ id))
                  (λ p h. let l = h.0 in (omega arith, either_else p.0 (length k.history) id (k.author p.0) (λ z. omega arith) ∙ h.1)) m.0.mine mine.mine)
                  (omega arith, either_here (length m.0.seen) (length k.history) id (k.author (length m.0.seen)) here);
              apart = apart_both (λ n. n < length k.history) (λ n. n ≡ length k.history) (λ a b p q z. omega arith) m.0.mine ((length m.0.seen, e) ∷ [])
                  (All-weaker (λ (p : ℕ × E). (p.0 < length k.history) × (k.author p.0 ≡ id)) (λ (p : ℕ × E). p.0 < length k.history) (λ p h. h.0) m.0.mine mine.mine)
                  (All-cons (λ (p : ℕ × E). p.0 ≡ length k.history) (length m.0.seen, e) [] here (All-nil (λ (p : ℕ × E). p.0 ≡ length k.history)))
                  mine.apart (All-nil (λ (p : ℕ × E). length m.0.seen ≢ p.0), tt);
              waits = λ z. absurd (waiting-served (sym z));
              has = λ _. (turn.0, turn.1, turn.2, turn.3, grown ∙ ap (λ l. l ++ e ∷ []) turn.4);
            }) (λ j u ne at'. knows_on (k.each_seat j u at') (prefix_more k.history k.history (e ∷ []) (prefix_self k.history)) (omega arith)
                (λ p l b. either_else p (length k.history) id (k.author p) (λ z. omega arith) ∙ b)
                (λ ph q. q)
                (λ ph q. absurd (ne (sym q.2 ∙ (ap k.owner (q.0 ∙ sym turn.0) ∙ turn.2)))));
          },
          (x, m.0.mine ++ (length m.0.seen, e) ∷ [], holds, refl, inr (e, grown, refl)),
        )

    -- the value that is back in the slot has the history that is counted
    pub extend_keeps : (slots id : ℕ) (m : Seat) (x : B) (d : ℕ) → m.1 ≡ (0, Some x) ∷ [] → m.0.phase ≡ Served → GrowsByAtMostOne m.0.seen (entries_of x) → length m.0.seen + d ≡ length (entries_of x) → length (entries_of x) < 9223372036854775808
        → Allows Rule slots id m 0 (λ n. (n + d) % 2 ^ 64) (Extends entries_of (step slots 0 d 0 none) m)
    extend_keeps slots id m x d holds phase (inl same) counted small = extend_by_none slots id m x d holds phase same (let l : length (entries_of x) ≡ length m.0.seen = ap length same in omega arith)
    extend_keeps slots id m x d holds phase (inr grown) counted small =
        let l : length (entries_of x) ≡ length m.0.seen + 1 = ap length grown.1 ∙ length-append m.0.seen (grown.0 ∷ []) in
        extend_by_one slots id m x grown.0 d holds phase grown.1 (omega arith) (omega arith)

    -- the turn is passed on: the next ticket is served, and the value is at home
    pub pass_keeps : (slots id : ℕ) (m : Seat) (x : B) → m.1 ≡ (0, Some x) ∷ [] → m.0.phase ≡ Served → entries_of x ≡ m.0.seen → opening_of x ≡ o
        → Allows Rule slots id m 2 (λ n. (n + 1) % 2 ^ 64) (PassesOn (step slots 2 1 0 none) m)
    pass_keeps slots id m x holds phase same_log same s k wide at bound =
        let N : ℕ = get_or s.words 2 0 in
        let is : N ≡ k.serving = ap (λ ws. get_or ws 2 0) k.words in
        let mine : Knows o k.history k.next k.serving k.out k.owner k.author id m.0 = k.each_seat id m.0 at in
        let turn = mine.has phase in
        let below = turn.1 in
        let is_served = turn.0 in
        let served = k.in_order in
        let more : (N + 1) % 2 ^ 64 ≡ k.serving + 1 = omega arith in
        let w : View O E = at_rest m.0 in (
          w,
          gives,
          tt,
          record {
            history = k.history;
            next = k.next;
            serving = k.serving + 1;
            out = 0;
            owner = k.owner;
            author = k.author;
            words = ap (λ ws. set ws 2 ((N + 1) % 2 ^ 64)) k.words ∙ ap (λ (z : ℕ). length k.history ∷ k.next ∷ z ∷ []) more;
            home = some (Some x);
            homes = ap (put_back s.homes) holds ∙ ap (λ hs. set hs 0 (some (Some x))) k.homes;
            in_order = (omega arith, omega arith);
            busy = λ z. absurd (z refl);
            at_home = λ _. (x, refl, same, same_log ∙ turn.4);
            each_seat = each_set (Knows o k.history k.next (k.serving + 1) 0 k.owner k.author) s.views id w (record {
              opened = mine.opened;
              seen = mine.seen;
              told = prefix_none k.history;
              mine = mine.mine;
              apart = mine.apart;
              waits = λ z. absurd (idle-waiting z);
              has = λ z. absurd (idle-served z);
            }) (λ j u ne at'. let apart : ¬ (u.phase ≡ Waiting × (k.owner u.ticket ≡ j) × (u.ticket ≡ k.serving)) = λ z. ne (sym z.1 ∙ (ap k.owner (z.2 ∙ sym is_served) ∙ turn.2)) in
                knows_on (k.each_seat j u at') (prefix_self k.history) (omega arith) (λ p l b. b)
                (λ ph q. let above = q.0 in (dite (ℕ_discrete u.ticket k.serving) (λ z. absurd (apart (ph, q.2, z))) (λ z. omega arith), q.1, q.2, λ _. refl))
                (λ ph q. absurd (ne (sym q.2 ∙ (ap k.owner (q.0 ∙ sym is_served) ∙ turn.2)))));
          },
          (refl, ap rest holds),
        )

    -- a second seat knows what the first has seen
    pub split_keeps : (id : ℕ) (v : View O E) → Splits Rule id v v (second_view v)
    split_keeps id v s k at = record {
      history = k.history;
      next = k.next;
      serving = k.serving;
      out = k.out;
      owner = k.owner;
      author = k.author;
      words = k.words;
      home = k.home;
      homes = k.homes;
      in_order = k.in_order;
      busy = k.busy;
      at_home = k.at_home;
      each_seat = λ j u at'. ⊎_elim (λ (z : get_elem? (set s.views id v) j ≡ some u). each_set (Knows o k.history k.next k.serving k.out k.owner k.author) s.views id v (k.each_seat id v at) (λ j' u' _ at''. k.each_seat j' u' at'') j u z)
          (λ (z : second_view v ≡ u). subst (Knows o k.history k.next k.serving k.out k.owner k.author j) z (new j)) (at_snoc (set s.views id v) (second_view v) u j at');
    }
      where
        new : (j : ℕ) → Knows o k.history k.next k.serving k.out k.owner k.author j (second_view v)
        new j = let mine = k.each_seat id v at in record {
          opened = mine.opened;
          seen = mine.seen;
          told = prefix_none k.history;
          mine = All-nil (λ (p : ℕ × E). (p.0 < length k.history) × (k.author p.0 ≡ j));
          apart = tt;
          waits = λ z. absurd (idle-waiting z);
          has = λ z. absurd (idle-served z);
        }

    -- the entries of the other have a new author
    pub join_keeps : (id : ℕ) (v : View O E) (other : ℕ) (u : View O E) → Joins Rule id v other u (united_view v u) spent_view
    join_keeps id v other u s k at two at' =
        let here = k.each_seat id v at in
        let was : get_elem? s.views other ≡ some u = ⊎_elim (λ (z : (other ≡ id) × (united_view v u ≡ u)). absurd (two z.0)) (λ (z : (other ≢ id) × (get_elem? s.views other ≡ some u)). z.1) (at_set s.views id other (united_view v u) u at') in
        let there = k.each_seat other u was in
        let author : ℕ → ℕ = λ p. either (eqb (k.author p) other) id (k.author p) in
        let Now : ℕ → View O E → Type 0 = λ j y. j ≢ other → Knows o k.history k.next k.serving k.out k.owner author j y in
        let first : (j : ℕ) (y : View O E) → get_elem? (set s.views id (united_view v u)) j ≡ some y → Now j y = each_set Now s.views id (united_view v u) (λ _. record {
          opened = here.opened;
          seen = here.seen;
          told = there.seen;
          mine = All-append (λ (p : ℕ × E). (p.0 < length k.history) × (author p.0 ≡ id)) v.mine u.mine
              (All-weaker (λ (p : ℕ × E). (p.0 < length k.history) × (k.author p.0 ≡ id)) (λ (p : ℕ × E). (p.0 < length k.history) × (author p.0 ≡ id)) (λ p h. (h.0, either_else (k.author p.0) other id (k.author p.0) (λ z. two (sym z ∙ h.1)) ∙ h.1)) v.mine here.mine)
              (All-weaker (λ (p : ℕ × E). (p.0 < length k.history) × (k.author p.0 ≡ other)) (λ (p : ℕ × E). (p.0 < length k.history) × (author p.0 ≡ id)) (λ p h. (h.0, either_here (k.author p.0) other id (k.author p.0) h.1)) u.mine there.mine);
          apart = apart_both (λ n. k.author n ≡ id) (λ n. k.author n ≡ other) (λ a b p q z. two (sym q ∙ (ap k.author (sym z) ∙ p))) v.mine u.mine
              (All-weaker (λ (p : ℕ × E). (p.0 < length k.history) × (k.author p.0 ≡ id)) (λ (p : ℕ × E). k.author p.0 ≡ id) (λ p h. h.1) v.mine here.mine)
              (All-weaker (λ (p : ℕ × E). (p.0 < length k.history) × (k.author p.0 ≡ other)) (λ (p : ℕ × E). k.author p.0 ≡ other) (λ p h. h.1) u.mine there.mine)
              here.apart there.apart;
          waits = λ z. absurd (idle-waiting z);
          has = λ z. absurd (idle-served z);
        }) (λ j y ne at'' apart. knows_on (k.each_seat j y at'') (prefix_self k.history) (omega arith) (λ p l b. either_else (k.author p) other id (k.author p) (λ z. apart (sym b ∙ z)) ∙ b) (λ ph q. q) (λ ph q. q)) in
        record {
          history = k.history;
          next = k.next;
          serving = k.serving;
          out = k.out;
          owner = k.owner;
          author = author;
          words = k.words;
          home = k.home;
          homes = k.homes;
          in_order = k.in_order;
          busy = k.busy;
          at_home = k.at_home;
          each_seat = each_set (Knows o k.history k.next k.serving k.out k.owner author) (set s.views id (united_view v u)) other spent_view (record {
            opened = λ z. absurd (z refl);
            seen = prefix_none k.history;
            told = prefix_none k.history;
            mine = All-nil (λ (p : ℕ × E). (p.0 < length k.history) × (author p.0 ≡ other));
            apart = tt;
            waits = λ z. absurd (idle-waiting z);
            has = λ z. absurd (idle-served z);
          }) (λ j y ne at''. first j y at'' ne);
        }

    -- of two first parts of one history the longer begins with the shorter
    pub compare_keeps : (slots id : ℕ) (m : Seat) → m.0.phase ≡ Idle → Allows Rule slots id m 0 (λ n. n) (Compares (step slots 0 0 0 none) m)
    compare_keeps slots id m phase s k wide at bound =
        let N : ℕ = get_or s.words 0 0 in
        let is : N ≡ length k.history = ap (λ ws. get_or ws 0 0) k.words in
        let mine : Knows o k.history k.next k.serving k.out k.owner k.author id m.0 = k.each_seat id m.0 at in
        let three = longer_fits m.0.seen m.0.told k.history mine.seen mine.told in
        let w : View O E = with_seen m.0 (longer_of m.0.seen m.0.told) in (
          w,
          keeps,
          tt,
          record {
            history = k.history;
            next = k.next;
            serving = k.serving;
            out = k.out;
            owner = k.owner;
            author = k.author;
            words = ap (λ ws. set ws 0 N) k.words ∙ ap (λ (z : ℕ). z ∷ k.next ∷ k.serving ∷ []) is;
            home = k.home;
            homes = k.homes;
            in_order = k.in_order;
            busy = k.busy;
            at_home = k.at_home;
            each_seat = each_set (Knows o k.history k.next k.serving k.out k.owner k.author) s.views id w (record {
              opened = mine.opened;
              seen = three.0;
              told = prefix_none k.history;
              mine = mine.mine;
              apart = mine.apart;
              waits = λ z. absurd (idle-waiting (sym phase ∙ z));
              has = λ z. absurd (idle-served (sym phase ∙ z));
            }) (λ j u _ at'. k.each_seat j u at');
          },
          (refl, refl, three.1, three.2, mine.apart),
        )
