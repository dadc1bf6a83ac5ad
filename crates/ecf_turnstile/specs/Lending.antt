-- How the turn lends its value.
use Rattle.std.specs.Prelude.{[]}
use Rattle.std.specs.Borrow.{Lends, MutBor, Fml, RattleType}
use mir.Syntax.{named}
use Rattle.ecf_turnstile.specs.declared.history.History.{Ghosts}
use Rattle.ecf_turnstile.specs.declared.turnstile.Turn.{Turn}
use Rattle.ecf_turnstile.specs.contracts.turnstile.Turn.{the_row}

module _ (B O E : RattleType) (g : Ghosts B.Denot O.Denot E.Denot) where
  -- once the loan ends, the turn has the last value behind it, and else is as it was
  abbrev pub LendsValue : MutBor (Turn B.Denot O.Denot E.Denot) → MutBor B.Denot → Fml
  LendsValue turn lent = Lends (the_row (record { mir = named 1; lft = [] }) B O E g) B turn lent (λ last. record turn.now { value = last })
