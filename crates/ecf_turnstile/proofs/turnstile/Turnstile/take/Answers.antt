use Rattle.std.proofs.Common.{rules, ◌≡◌, ◌∷◌, List, Some, None, ap, sym, ◌∙◌, subst}
use mathlib.Core.List.{IsPrefix}
use Rattle.atomic_table.specs.Table.{rest}
use Rattle.ecf_turnstile.specs.declared.view.View.{View}
use Rattle.ecf_turnstile.specs.Histories.{AreApart, StandIn}
use Rattle.ecf_turnstile.specs.Views.{with_ticket, with_turn}
use Rattle.ecf_turnstile.proofs.PlaceLaws.{stand_longer}
use Rattle.ecf_turnstile.proofs.turnstile.Turnstile.take.Goals as goal

pub exchange-requires : goal.exchange-requires
exchange-requires g c =
    let turn = c.wait.ensures.turn in
    let slot = ap (λ m. m.1) turn.1 in
    (search rules, (Some turn.0, slot ∙ ap (λ l. (0, Some turn.0) ∷ rest l) (sym slot)))

pub returns-clause-turn : goal.returns-clause-turn
returns-clause-turn g c =
    let turn = c.wait.ensures.turn in
    let out = c.exchange.ensures in
    let V : Type 0 = View g.row.B-Opening.Denot g.row.B-Entry.Denot in
    let history : List g.row.B-Entry.Denot = g.B.History.entries turn.0 in
    let v : V = c.args.seat.now.me.0 in
    let drawn : c.draw-ticket.new.seat.me.0 ≡ with_ticket v c.draw-ticket.result = ap (λ m. m.0) c.draw-ticket.ensures.drawn in
    let now : c.exchange.new.seat.me.0 ≡ with_turn (with_ticket v c.draw-ticket.result) history = ap (λ m. m.0) out.3 ∙ (ap (λ m. m.0) turn.1 ∙ ap (λ u. with_turn u history) drawn) in
    record {
      named = out.0 ∙ (c.wait.ensures.same.0 ∙ (c.draw-ticket.ensures.same.0 ∙ c.requires.named));
      empty = ap (λ m. m.1) out.3 ∙ ap (λ m. (0, None) ∷ rest m.1) turn.1;
      opened = ap (λ u. u.opening) now ∙ c.requires.opened;
      phase = ap (λ u. u.phase) now;
      stand = subst (λ (u : V). StandIn u.seen u.mine) (sym now) (stand_longer v.seen history v.mine (subst (λ (u : V). IsPrefix u.seen history) drawn turn.3) c.requires.stand);
      apart = subst (λ (u : V). AreApart u.mine) (sym now) c.requires.apart;
    }
