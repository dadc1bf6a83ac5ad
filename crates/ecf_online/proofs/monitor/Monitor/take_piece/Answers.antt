use Rattle.std.proofs.Common.{◌≡◌, ◌<◌, ◌+◌, ◌-◌, ◌∷◌, ◌++◌, List, take, reverse, length, get_or, sym, subst, ap, ◌∙◌, arith}
use Rattle.std.proofs.lemmas.List.{take_all, reverse-reverse}
use Rattle.ecf_lang.specs.declared.run.Step.{Step}
use Rattle.ecf_online.specs.declared.monitor.Monitor.{Monitor}
use Rattle.ecf_online.specs.Fed.{HasRoom, IsFed, Watches}
use Rattle.ecf_online.specs.Watched.{HasSeen, first_not_free}
use Rattle.ecf_online.proofs.FirstLaws.{newest_next, first_is_bad}
use Rattle.ecf_online.proofs.monitor.Monitor.take_piece.Goals as goal

made : (t : List Step) (m : Monitor) (e : List Step) → e ≡ reverse t → Watches e m → HasSeen e m.seen m.above → IsFed t m
made t m e q w v = record { watched = subst (λ l. Watches l m) q w; seen = subst (λ l. HasSeen l m.seen m.above) q v }

pub loop-step-preserved : goal.loop-step-preserved
loop-step-preserved c =
    let piece = c.args.piece.now in
    let k = c.loop-step.step-index in
    let m = c.take_step.new.self in
    let inside : k < length piece = omega arith in
    record {
      fed = λ t h.
          let next = λ (d : Step) (w : Watches (get_or piece k d ∷ reverse (t ++ take k piece)) m) (v : HasSeen (get_or piece k d ∷ reverse (t ++ take k piece)) m.seen m.above). made (t ++ take (k + 1) piece) m (get_or piece k d ∷ reverse (t ++ take k piece)) (sym (newest_next t piece k d inside)) w v in
          let before = c.loop-step.invariant.fed t h in
          next _ (c.take_step.ensures.watched (reverse (t ++ take k piece)) before.watched) (c.take_step.ensures.seen (reverse (t ++ take k piece)) before.seen);
      count = (let q = c.take_step.ensures.count in let r = c.loop-step.invariant.count in omega (arith, q, r));
      room =
          let one : length piece - k ≡ (length piece - (k + 1)) + 1 = omega arith in
          c.take_step.ensures.room (length piece - (k + 1)) (subst (λ n. HasRoom n c.loop-step.self) one c.loop-step.invariant.room);
      ready = λ i p. c.take_step.ensures.ready i (c.loop-step.invariant.ready i p);
    }

pub returns-clause-first : goal.returns-clause-first
returns-clause-first c t h =
    let u = t ++ c.args.piece.now in
    let w : IsFed u c.loop-step.self = subst (λ l. IsFed (t ++ l) c.loop-step.self) (take_all c.loop-step.step-index c.args.piece.now (omega arith)) (c.loop-step.invariant.fed t h) in
    first_is_bad c.free_exactly_where_acyclic.ensures c.reduced_reaches_before.ensures c.test_tells_free.ensures c.first_parts_free.ensures c.at_is_shortest.ensures (reverse u) c.loop-step.self.first w.watched.first_is ∙ ap first_not_free (reverse-reverse u)
