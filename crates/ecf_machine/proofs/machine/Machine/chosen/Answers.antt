use Rattle.std.proofs.Common.{ap, sym, ◌∙◌, arith}
use Rattle.ecf_machine.specs.Parts.{stmts_in}
use Rattle.ecf_machine.specs.Continuations.{continuation_of, context_in, resume_flow, from_action}
use Rattle.ecf_machine.proofs.StepLaws.{chosen_block}
use Rattle.ecf_machine.proofs.machine.Machine.chosen.Goals as goal

pub returns-in_default : goal.returns-in_default
returns-in_default g c =
    let at = c.args.at.now in let m = c.args.self.now in let next = continuation_of at m.tasks in let context = context_in m in
    record {
      same = ap (resume_flow next context) (chosen_block at next context c.args.value c.args.block.now c.args.arms.now c.args.last.now m.state.run (omega (arith, c.in_default)))
          ∙ ap (λ stmts. from_action at m (stmts_in stmts)) (sym c.as_slice.ensures);
      spends = omega arith;
      falls = λ _. omega arith;
    }
