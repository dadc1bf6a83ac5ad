-- The counts of watches, and their votes one after the other.
use Rattle.std.proofs.Common.{◌+◌, [], ◌∷◌, Option, Some, None, sym, ap, ◌≡◌, ℕ, suc, ◌≤◌, ◌==◌, Bool, true, false, cond, not, refl, arith}
use Rattle.std.proofs.lemmas.Bool.{eq-eqb}
use Rattle.ecf_verdicts.specs.ListLemmas.{Each_from_all, All_from_Each}
use Rattle.ecf_core.specs.declared.watch.WatchSpec.TheVariants.{Cap, Freeze}
use Rattle.ecf_core.specs.Watches.{Watch, Watches, Shown, vote, turn, calls_object, writes_object, CountsStayWithin, Votes, with_watch, show_all, votes_yes, after_vote, AllYes, FirstNo, FirstNoIsNamed}
use Rattle.ecf_core.proofs.ListLaws.{false_not_true, none_not_some, some_same}

-- a count that isn't the most may go up by one
room : (count most : ℕ) → (count == most) ≡ false → count ≤ most → suc count ≤ most
room count most e l = omega (arith, l, λ (same : count ≡ most). false_not_true {A = ⊥} e (eq-eqb count most same))

counted : (count most : ℕ) (c : Bool) → (count == most) ≡ c → (v w : Bool) → count ≤ most → (cond c (vote v count) (vote w (suc count))).count ≤ most
counted count most true e v w l = l
counted count most false e v w l = room count most e l

capped : (count most : ℕ) (a : Bool) → count ≤ most → (cond a (vote true count) (cond (count == most) (vote false count) (vote true (suc count)))).count ≤ most
capped count most true l = l
capped count most false l = counted count most (count == most) refl false true l

pub counts_stay_within : CountsStayWithin
unfolding turn
counts_stay_within (Cap object most) count shown l = capped count most (not (calls_object shown.tx object)) l
counts_stay_within (Freeze object last) count shown l = counted count last (count == last) refl (not (writes_object shown.writes object)) true l

-- the votes from a place on
record GoFrom (shown : Shown) (start : ℕ) (ws : Watches) (votes : Votes) : Type 0 where
  none : votes.no ≡ None → AllYes shown ws votes.watches
  first : (place : ℕ) → votes.no ≡ Some place → (k : ℕ) × (place ≡ start + k) × FirstNo shown ws k votes.watches

all_before : (shown : Shown) (w : Option Watch) (ws : Watches) → votes_yes shown w ≡ true → (left : Watches) → AllYes shown ws left → AllYes shown (w ∷ ws) (after_vote shown w ∷ left)
all_before shown w ws e left h = record {
  yes = All_from_Each (λ w. votes_yes shown w ≡ true) (w ∷ ws) (e, Each_from_all (λ w. votes_yes shown w ≡ true) ws h.yes);
  leaves = ap (λ l. after_vote shown w ∷ l) h.leaves;
}

first_before : (shown : Shown) (w : Option Watch) (ws : Watches) → votes_yes shown w ≡ true → (k : ℕ) (left : Watches) → FirstNo shown ws k left → FirstNo shown (w ∷ ws) (suc k) (after_vote shown w ∷ left)
first_before shown w ws e k left h = record {
  before = w ∷ h.before;
  one = h.one;
  later = h.later;
  parts = ap (λ l. w ∷ l) h.parts;
  place_is = ap suc h.place_is;
  yes = All_from_Each (λ w. votes_yes shown w ≡ true) (w ∷ h.before) (e, Each_from_all (λ w. votes_yes shown w ≡ true) h.before h.yes);
  no = h.no;
  leaves = ap (λ l. after_vote shown w ∷ l) h.leaves;
}

go_before : (shown : Shown) (start : ℕ) (w : Option Watch) (ws : Watches) (votes : Votes) → votes_yes shown w ≡ true → GoFrom shown (suc start) ws votes → GoFrom shown start (w ∷ ws) (with_watch (after_vote shown w) votes)
go_before shown start w ws votes e h = record {
  none = λ n. all_before shown w ws e votes.watches (h.none n);
  first = λ place n. (let f = h.first place n in (suc f.0, omega (arith, f.1), first_before shown w ws e f.0 votes.watches f.2));
}

go_from : (shown : Shown) (start : ℕ) (ws : Watches) → GoFrom shown start ws (show_all shown start ws)
unfolding show_all
go_from shown start [] = record { none = λ _. record { yes = λ k d l. absurd (omega (arith, l)); leaves = refl }; first = λ place n. none_not_some n }
go_from shown start (None ∷ ws) = go_before shown start None ws (show_all shown (suc start) ws) refl (go_from shown (suc start) ws)
go_from shown start (Some w ∷ ws) = go (turn w.spec w.count shown).agrees refl (go_from shown (suc start) ws)
  where
    go : (c : Bool) → (turn w.spec w.count shown).agrees ≡ c → GoFrom shown (suc start) ws (show_all shown (suc start) ws) →
        GoFrom shown start (Some w ∷ ws) (cond c (with_watch (Some (record { spec = w.spec; count = (turn w.spec w.count shown).count })) (show_all shown (suc start) ws)) (record { no = Some start; watches = Some (record { spec = w.spec; count = (turn w.spec w.count shown).count }) ∷ ws }))
    go true e deep = go_before shown start (Some w) ws (show_all shown (suc start) ws) e deep
    go false e deep = record {
      none = λ n. none_not_some (sym n);
      first = λ place n. (
        0,
        omega (arith, some_same start place n),
        record {
          before = [];
          one = Some w;
          later = ws;
          parts = refl;
          place_is = refl;
          yes = λ k d l. absurd (omega (arith, l));
          no = e;
          leaves = refl;
        },
      );
    }

at_place : (shown : Shown) (ws : Watches) (left : Watches) (k place : ℕ) → place ≡ 0 + k → FirstNo shown ws k left → FirstNo shown ws place left
at_place shown ws left k place e h = record { before = h.before; one = h.one; later = h.later; parts = h.parts; place_is = omega (arith, e, h.place_is); yes = h.yes; no = h.no; leaves = h.leaves }

pub first_no_is_named : FirstNoIsNamed
first_no_is_named shown ws =
    let h = go_from shown 0 ws in
    record { none = h.none; first = λ place n. (let f = h.first place n in at_place shown ws (show_all shown 0 ws).watches f.0 place f.1 f.2) }
