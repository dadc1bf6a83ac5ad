use Rattle.std.proofs.Common.{◌≡◌, ◌+◌, ◌-◌, ◌++◌, ℕ, List, length, take}
use Rattle.ecf_lang.specs.declared.run.Step.{Step}
use Rattle.ecf_online.specs.Closure.{IsReady}
use Rattle.ecf_online.specs.Fed.{HasRoom, IsFed}
use Rattle.ecf_online.proofs.monitor.Monitor.take_piece.Given as goal

abbrev pub invariant-loop-step : goal.invariant-loop-step
invariant-loop-step l = record {
  fed : (t : List Step) → IsFed t l.initial.self → IsFed (t ++ take l.step-index l.piece) l.self;
  count : l.self.count ≡ l.initial.self.count + l.step-index;
  room : HasRoom (length l.piece - l.step-index) l.self;
  ready : (i : ℕ) → IsReady l.initial.self.rows.items i → IsReady l.self.rows.items i;
}
