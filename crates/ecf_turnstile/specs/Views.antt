-- What a seat knows after each of its steps.
use Rattle.std.specs.Prelude.{ℕ, List, [], ◌++◌, Some, None}
use Rattle.ecf_turnstile.specs.declared.view.Phase.TheVariants.{Idle, Waiting, Served}
use Rattle.ecf_turnstile.specs.declared.view.View.{View}

module _ {O E : Type 0} where
  -- the first seat of a turnstile: it has seen the history that the value came with
  abbrev pub first_view : O → List E → View O E
  first_view o seen = record { opening = Some o; phase = Idle; ticket = 0; seen = seen; told = []; mine = [] }

  -- a seat that was made from another: it has seen as much, and has no entries of its own
  abbrev pub second_view : View O E → View O E
  second_view v = record { opening = v.opening; phase = Idle; ticket = 0; seen = v.seen; told = []; mine = [] }

  -- a seat that took in another, and is told what that one has seen
  abbrev pub united_view : View O E → View O E → View O E
  united_view v w = record { opening = v.opening; phase = Idle; ticket = 0; seen = v.seen; told = w.seen; mine = v.mine ++ w.mine }

  -- what is left of the other
  abbrev pub spent_view : View O E
  spent_view = record { opening = None; phase = Idle; ticket = 0; seen = []; told = []; mine = [] }

  -- once it has drawn this ticket
  abbrev pub with_ticket : View O E → ℕ → View O E
  with_ticket v t = record { opening = v.opening; phase = Waiting; ticket = t; seen = v.seen; told = v.told; mine = v.mine }

  -- once its ticket is served, and it has seen this history
  abbrev pub with_turn : View O E → List E → View O E
  with_turn v seen = record { opening = v.opening; phase = Served; ticket = v.ticket; seen = seen; told = []; mine = v.mine }

  -- the same, with these entries as its own
  abbrev pub with_own : View O E → List E → List (ℕ × E) → View O E
  with_own v seen mine = record { opening = v.opening; phase = Served; ticket = v.ticket; seen = seen; told = []; mine = mine }

  -- once it has passed the turn on
  abbrev pub at_rest : View O E → View O E
  at_rest v = record { opening = v.opening; phase = Idle; ticket = 0; seen = v.seen; told = []; mine = v.mine }

  -- once it has seen the longer of two first parts
  abbrev pub with_seen : View O E → List E → View O E
  with_seen v seen = record v { seen = seen; told = [] }
