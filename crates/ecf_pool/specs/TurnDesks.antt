-- The desk over a turnstile: its contract and transactions, and its seats.
use Rattle.std.specs.Prelude.{Option}
use Rattle.atomic_table.specs.declared.shared.Seat.{Seat}
use Rattle.ecf_book.specs.declared.setup.Setup.{Setup}
use Rattle.ecf_book.specs.Recorded.{Recorded}
use Rattle.ecf_core.specs.declared.book.LogEntry.{LogEntry}
use Rattle.ecf_turnstile.specs.declared.view.View.{View}
use Rattle.ecf_turnstile.specs.Turnstiles.{first_value, IsSeatOf}
use Rattle.ecf_pool.specs.declared.turn_desk.TurnDesk.{TurnDesk}

-- the contract and transactions of its book
abbrev pub setup_of : TurnDesk → Setup
setup_of d = (first_value d.turnstile).setup

-- a seat of the desk's turnstile
abbrev pub IsSeatAt : TurnDesk → Seat (Option Recorded) (View Setup LogEntry) → Type 0
IsSeatAt d s = IsSeatOf (λ (b : Recorded). b.setup) d.turnstile s
