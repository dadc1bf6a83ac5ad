use Rattle.std.proofs.Common.{false, refl, arith}
use Rattle.std.proofs.lemmas.Bool.{both_ways}
use Rattle.ecf_online.proofs.ClosureLaws.{reaching_none}
use Rattle.ecf_online.proofs.SoundLaws.{sound_none}
use Rattle.ecf_online.proofs.WatchLaws.{watched_none}
use Rattle.ecf_online.proofs.monitor.Monitor.new.Goals as goal

pub invariant_of-result : goal.invariant_of-result
invariant_of-result c = record {
  sound = sound_none c.new.result.keys c.new-2.result.items c.new-3.result.items c.new-4.result.items c.new-5.result.items c.new-6.result c.new.ensures.empty c.new-2.ensures.items c.new-3.ensures.items c.new-4.ensures.items c.new-5.ensures.items;
  reaching_are = reaching_none c.new-4.result.items c.new-7.result c.new-4.ensures.items;
}

pub returns-clause-fed : goal.returns-clause-fed
returns-clause-fed c = record {
  watched = watched_none c.new.result.keys c.new-2.result.items c.new-3.result.items c.new-4.result.items c.new-5.result.items c.new-2.ensures.items c.new-4.ensures.items c.new-5.ensures.items;
  seen = record { seen_are = c.new-6.ensures.none; above_all = λ i e. absurd (both_ways false refl e); above_few = omega arith };
}
