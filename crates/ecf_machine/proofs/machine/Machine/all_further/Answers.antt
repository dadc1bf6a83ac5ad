use Rattle.std.proofs.Common.{ap, sym, ◌∙◌, arith}
use Rattle.ecf_machine.specs.Continuations.{continuation_of, context_in}
use Rattle.ecf_machine.specs.declared.task.Task.TheVariants as task
use Rattle.ecf_machine.proofs.StepLaws.{advances_from, waiting, and_further}
use Rattle.ecf_machine.proofs.machine.Machine.all_further.Goals as goal

pub returns-in_default : goal.returns-in_default
returns-in_default g c =
    let at = c.args.at.now in let m = c.args.self.now in let next = continuation_of at m.tasks in let context = context_in m in
    advances_from at _ _ _ _ _ _ _ _
    (and_further at next context c.args.value c.args.part.now c.args.others m.state.run c.pay.new.self.run c.if-not-pay.ensures.paid (omega (arith, c.in_default))
    ∙ ap (λ backing. waiting at next (record context { backing = backing }) (task.And c.args.others) c.args.part.now c.pay.new.self.run) (sym c.pay.ensures.backing))
    (omega (arith, c.if-not-pay.ensures.falls)) (λ is. omega (arith, is, c.if-not-pay.ensures.falls)) c.wait.ensures
