use Rattle.std.proofs.Common.{rules, ◌≡◌, ℕ, List, Some, slice_get, ap, sym, ◌∙◌, subst}
use Rattle.std.proofs.lemmas.List.Elements.{All-append}
use mathlib.Core.List.{IsPrefix}
use Rattle.ecf_turnstile.specs.declared.view.View.{View}
use Rattle.ecf_turnstile.specs.Histories.{longer_of, AreApart, StandIn}
use Rattle.ecf_turnstile.specs.Views.{united_view, with_seen}
use Rattle.ecf_turnstile.proofs.StepLaws.{join_keeps, compare_keeps}
use Rattle.ecf_turnstile.proofs.PlaceLaws.{stand_longer}
use Rattle.ecf_turnstile.proofs.turnstile.Turnstile.join.Goals as goal

pub join_seat-requires : goal.join_seat-requires
join_seat-requires g c = (search rules, search rules, search rules, search rules, join_keeps _ _ _ _ _ _ _)

pub load-requires : goal.load-requires
load-requires g c = (search rules, search rules, compare_keeps _ _ _ _ _ _ (search rules))

pub returns-clause-seat : goal.returns-clause-seat
returns-clause-seat g c =
    let told = c.load.ensures.2 in
    let one = c.requires.seats.0 in
    let two = c.requires.seats.1 in
    let V : Type 0 = View g.row.B-Opening.Denot g.row.B-Entry.Denot in
    let v : V = c.args.seat.me.0 in
    let w : V = c.args.other.me.0 in
    let united : c.join_seat.new.seat.me.0 ≡ united_view v w = ap (λ m. m.0) c.join_seat.ensures.2 in
    let long : List g.row.B-Entry.Denot = longer_of v.seen w.seen in
    let now : c.load.new.seat.me.0 ≡ with_seen (united_view v w) long = told.1 ∙ ap (λ (u : V). with_seen u (longer_of u.seen u.told)) united in
    record {
      named = c.load.ensures.0 ∙ (c.join_seat.ensures.0 ∙ one.named);
      empty = told.0 ∙ (ap (λ m. m.1) c.join_seat.ensures.2 ∙ one.empty);
      opened = ap (λ u. u.opening) now ∙ one.opened;
      stand = subst (λ (u : V). StandIn u.seen u.mine) (sym now)
          (All-append (λ (p : ℕ × g.row.B-Entry.Denot). slice_get long p.0 ≡ Some p.1) v.mine w.mine
          (stand_longer v.seen long v.mine (subst (λ (u : V). IsPrefix u.seen (longer_of u.seen u.told)) united told.2) one.stand)
          (stand_longer w.seen long w.mine (subst (λ (u : V). IsPrefix u.told (longer_of u.seen u.told)) united told.3) two.stand));
      apart = subst AreApart (sym (ap (λ (u : V). u.mine) told.1)) told.4;
    }
