use Rattle.std.proofs.Common.{◌≡◌, length, refl, ap}
use Rattle.std.proofs.Math.Nat.{ℕ_set}
use Rattle.ecf_turnstile.specs.declared.turnstile.Turn.{Turn}
use Rattle.ecf_turnstile.proofs.turnstile.Turn.value.Goals as goal

-- the count is one fact, whatever the value
pub returns : goal.returns
returns g c =
    let turn = c.args.self.now in
    let T : Type 0 = Turn g.row.B.Denot g.row.B-Opening.Denot g.row.B-Entry.Denot in
    let with_count : (w : g.row.B.Denot) → turn.before ≡ length turn.seat.me.0.seen → T = λ w counted.
    record { turnstile = turn.turnstile; seat = turn.seat; value = w; before = turn.before; counted = counted } in
    ((refl, λ w. ap (with_count w) (ℕ_set _ _ _ _)), record { lends = tt; value = refl })
