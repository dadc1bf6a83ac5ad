use Rattle.std.proofs.Common.{refl, ◌∙◌, arith}
use Rattle.ecf_machine.specs.Continuations.{continuation_of, context_in}
use Rattle.ecf_machine.proofs.StepLaws.{begin_turn}
use Rattle.ecf_machine.proofs.machine.Machine.turn.Goals as goal

pub returns : goal.returns
returns g c =
    let at = c.args.at.now in let m = c.args.self.now in let next = continuation_of at m.tasks in let context = context_in m in
    record {
      same = begin_turn at next context c.args.turns c.args.cond c.args.body m.state.run c.pay.new.self.run c.if-not-pay.ensures.paid
          ∙ rw (c.in_ok-push.ensures, c.pay.ensures.backing, c.as_slice.ensures) refl;
      spends = c.pay.ensures.at_most;
      falls = λ is. absurd (omega (arith, is, c.if-not-pay.ensures.falls));
    }
