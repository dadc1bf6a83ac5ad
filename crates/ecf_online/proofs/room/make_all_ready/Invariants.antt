use Rattle.std.proofs.Common.{◌<◌, ℕ, get_or}
use Rattle.ecf_lang.specs.declared.run.Step.{Step}
use Rattle.ecf_online.specs.Closure.{IsReady}
use Rattle.ecf_online.specs.Widening.{Widens}
use Rattle.ecf_online.proofs.room.make_all_ready.Given as goal

abbrev pub invariant-loop-step : goal.invariant-loop-step
invariant-loop-step l = record {
  widens : Widens l.initial.rows.items l.initial.seen l.initial.width l.rows.items l.seen l.width;
  ready : (k : ℕ) (d : Step) → k < l.step-index → IsReady l.rows.items (get_or l.piece k d).inv;
}
