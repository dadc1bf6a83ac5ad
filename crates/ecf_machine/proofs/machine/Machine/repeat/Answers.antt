use Rattle.std.proofs.Common.{ap, sym, ◌∙◌, arith}
use Rattle.ecf_machine.specs.Continuations.{continuation_of, context_in}
use Rattle.ecf_machine.specs.declared.task.Task.TheVariants as task
use Rattle.ecf_machine.proofs.StepLaws.{advances_from, waiting, one_turn}
use Rattle.ecf_machine.proofs.machine.Machine.repeat.Goals as goal

pub returns : goal.returns
returns g c =
    let at = c.args.at.now in let m = c.args.self.now in let next = continuation_of at m.tasks in let context = context_in m in
    advances_from at _ _ _ _ _ _ _ _
    (one_turn at next context m.state.run.fuel c.args.cond c.args.body m.state.run
    ∙ ap (λ n. waiting at next context (task.Test n c.args.cond c.args.body) c.args.cond.now m.state.run) (sym c.fuel-turns.ensures))
    (omega arith) (λ is. absurd (omega (arith, is))) c.wait.ensures
