use Rattle.std.proofs.Common.{refl, ap, ◌∙◌, arith}
use Rattle.ecf_machine.specs.Parts.{anew_at}
use Rattle.ecf_machine.specs.Continuations.{continuation_of, context_in, without_args, resume}
use Rattle.ecf_machine.proofs.StepLaws.{advances_from}
use Rattle.ecf_machine.proofs.CallLaws.{called_external, external_answered, heard_back}
use Rattle.ecf_machine.proofs.machine.Machine.external.Goals as goal

pub returns-in_ok-push-in-Opens-2 : goal.returns-in_ok-push-in-Opens-2
returns-in_ok-push-in-Opens-2 g c =
    let at = c.args.at.now in let m = c.args.self.now in let next = continuation_of at m.tasks in let context = context_in m in
    let part = anew_at at context.backing.store m.frame.room c.args.to c.args.name m.args.top in
    advances_from at _ _ _ _ _ _ _ _
    (ap (resume next (without_args context)) (called_external at context.backing.store c.in-Opens.is m.frame.object m.frame.inv m.frame.room c.args.to c.args.name m.args.top m.state.run)
    ∙ heard_back at next (without_args context) m.args.top (part m.state.run)
    ∙ rw (c.in_ok-push-in-Opens-2.ensures, c.in_ok-take_args-in-Opens.ensures, c.in_ok-push-in-Opens.ensures) refl)
    (omega (arith, ap (λ m. m.state.run.fuel) c.in_ok-take_args-in-Opens.ensures)) (λ is. absurd (omega (arith, is, ap (λ m. m.state.run.fuel) c.in_ok-take_args-in-Opens.ensures))) c.anew.ensures

pub returns-in-Answers : goal.returns-in-Answers
returns-in-Answers g c =
    let at = c.args.at.now in let m = c.args.self.now in let next = continuation_of at m.tasks in let context = context_in m in
    advances_from at _ _ _ _ _ _ _ _
    (ap (resume next (without_args context)) (external_answered at context.backing.store c.in-Answers.answers c.in-Answers.is m.frame.object m.frame.inv m.frame.room c.args.to c.args.name m.args.top m.state.run))
    (omega arith) (λ _. omega arith) c.take_answer.ensures
