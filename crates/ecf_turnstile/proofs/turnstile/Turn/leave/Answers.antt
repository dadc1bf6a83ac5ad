use Rattle.std.proofs.Common.{rules, ◌≡◌, [], ◌∷◌, length, List, Some, ap, sym, ◌∙◌, subst, arith}
use Rattle.atomic_table.specs.Table.{rest}
use Rattle.ecf_turnstile.specs.declared.view.View.{View}
use Rattle.ecf_turnstile.specs.Histories.{GrowsByAtMostOne, AddsOwn, AreApart, StandIn}
use Rattle.ecf_turnstile.specs.Views.{with_own, at_rest}
use Rattle.ecf_turnstile.proofs.StepLaws.{extend_keeps, pass_keeps}
use Rattle.ecf_turnstile.proofs.PlaceLaws.{stand_adds, apart_adds, grows_length, same_slot}
use Rattle.ecf_turnstile.proofs.turnstile.Turn.leave.Goals as goal

pub fetch_add-requires : goal.fetch_add-requires
fetch_add-requires g c =
    let V : Type 0 = View g.row.B-Opening.Denot g.row.B-Entry.Denot in
    let back = c.exchange.ensures in
    let value = c.args.self.value in
    let history : List g.row.B-Entry.Denot = g.B.History.entries value in
    let same : c.exchange.new.seat.me.0 ≡ c.args.self.seat.me.0 = ap (λ m. m.0) back.3 in
    let no_shorter = grows_length c.args.self.seat.me.0.seen history c.requires.history in
    let before = c.args.self.counted in
    let after = c.history_len-after.ensures.count in
    let small = c.history_len-after.ensures.small in
    let here : length c.exchange.new.seat.me.0.seen ≡ length c.args.self.seat.me.0.seen = ap (λ v. length v.seen) same in (
      search rules,
      search rules,
      extend_keeps _ _ _ _ _ _ value _ (ap (λ m. m.1) back.3 ∙ ap (λ l. (0, Some value) ∷ rest l) c.requires.turn.empty)
          (ap (λ v. v.phase) same ∙ c.requires.turn.phase)
          (subst (λ (v : V). GrowsByAtMostOne v.seen history) (sym same) c.requires.history)
          (omega arith)
          (omega arith),
    )

pub fetch_add-requires-2 : goal.fetch_add-requires-2
fetch_add-requires-2 g c =
    let back = c.exchange.ensures in
    let told = c.fetch_add.ensures.2 in
    let value = c.args.self.value in
    let slot : c.exchange.new.seat.me.1 ≡ (0, Some value) ∷ [] = ap (λ m. m.1) back.3 ∙ ap (λ l. (0, Some value) ∷ rest l) c.requires.turn.empty in
    let same : told.0 ≡ value = same_slot c.exchange.new.seat.me.1 told.0 value told.2 slot in
    let now : c.fetch_add.new.seat.me.0 ≡ with_own c.exchange.new.seat.me.0 (g.B.History.entries told.0) told.1 = ap (λ m. m.0) told.3 in (
      search rules,
      search rules,
      pass_keeps _ _ _ _ _ _ value (ap (λ m. m.1) told.3 ∙ slot)
          (ap (λ v. v.phase) now)
          (sym (ap (λ v. v.seen) now ∙ ap g.B.History.entries same))
          c.requires.opening,
    )

pub returns-clause-seat : goal.returns-clause-seat
returns-clause-seat g c =
    let V : Type 0 = View g.row.B-Opening.Denot g.row.B-Entry.Denot in
    let back = c.exchange.ensures in
    let told = c.fetch_add.ensures.2 in
    let value = c.args.self.value in
    let history : List g.row.B-Entry.Denot = g.B.History.entries value in
    let v : V = c.args.self.seat.me.0 in
    let slot : c.exchange.new.seat.me.1 ≡ (0, Some value) ∷ [] = ap (λ m. m.1) back.3 ∙ ap (λ l. (0, Some value) ∷ rest l) c.requires.turn.empty in
    let same : told.0 ≡ value = same_slot c.exchange.new.seat.me.1 told.0 value told.2 slot in
    let now : c.fetch_add-2.new.seat.me.0 ≡ at_rest (with_own v history told.1) =
    c.fetch_add-2.ensures.2.0 ∙ (ap (λ m. at_rest m.0) told.3 ∙ (ap (λ u. at_rest (with_own u (g.B.History.entries told.0) told.1)) (ap (λ m. m.0) back.3) ∙ ap (λ x. at_rest (with_own v (g.B.History.entries x) told.1)) same)) in
    let adds : AddsOwn v.seen v.mine history told.1 = subst (λ (z : V × List g.row.B-Entry.Denot). AddsOwn z.0.seen z.0.mine z.1 told.1) (λ i. ((back.3 i).0, g.B.History.entries (same i))) told.4 in
    record {
      named = c.fetch_add-2.ensures.0 ∙ (c.fetch_add.ensures.0 ∙ (back.0 ∙ c.requires.turn.named));
      empty = c.fetch_add-2.ensures.2.1;
      opened = ap (λ u. u.opening) now ∙ c.requires.turn.opened;
      stand = subst (λ (u : V). StandIn u.seen u.mine) (sym now) (stand_adds v.seen v.mine history told.1 c.requires.turn.stand adds);
      apart = subst (λ (u : V). AreApart u.mine) (sym now) (apart_adds v.seen v.mine history told.1 c.requires.turn.stand c.requires.turn.apart adds);
    }
