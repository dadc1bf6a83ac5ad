-- The rounds so far were read, run and written.
use Rattle.std.proofs.Common.{◌≡◌, ◌-◌}
use Rattle.std.specs.Arc.{arc_value}
use Rattle.ecf_lang.specs.declared.limits.TheConstants.{MAX_TRANSACTIONS}
use Rattle.ecf_host.specs.World.{sink_state, source_state}
use Rattle.ecf_host.proofs.RoundLaws.{IsAmong}
use Rattle.ecf_host.proofs.rounds.run_rounds.Given as goal

abbrev pub invariant-rounds : goal.invariant-rounds
invariant-rounds g l = IsAmong l.fn.typed (source_state g.S.Source l.fn.input) (source_state g.S.Source l.input) (sink_state g.K.Sink l.fn.out) (sink_state g.K.Sink l.out) l.run

abbrev pub decreases-rounds : goal.decreases-rounds
decreases-rounds g l = MAX_TRANSACTIONS - l.run.reader.txs
