use Rattle.std.proofs.Common.{refl, ap, ◌∙◌, arith}
use Rattle.ecf_machine.specs.Parts.{anew_at}
use Rattle.ecf_machine.specs.Continuations.{continuation_of, context_in, without_args, resume}
use Rattle.ecf_machine.proofs.StepLaws.{advances_from}
use Rattle.ecf_machine.proofs.CallLaws.{called_attempt, attempt_answered, caught_back}
use Rattle.ecf_machine.proofs.machine.Machine.attempt.Goals as goal

pub returns-in_ok-push-in-Opens-2 : goal.returns-in_ok-push-in-Opens-2
returns-in_ok-push-in-Opens-2 g c =
    let at = c.args.at.now in let m = c.args.self.now in let next = continuation_of at m.tasks in let context = context_in m in
    let part = anew_at at context.backing.store m.frame.room c.args.to c.args.name m.args.top in
    advances_from at _ _ _ _ _ _ _ _
    (ap (resume next (without_args context)) (called_attempt at context.backing.store c.in-Opens.is m.frame.object m.frame.inv m.frame.room c.args.to c.args.name m.args.top m.state.run)
    ∙ caught_back at next (without_args context) m.args.top m.state.run part (part m.state.run) refl
    ∙ rw (c.in_ok-push-in-Opens-2.ensures, c.in_ok-take_args-in-Opens.ensures, c.in_ok-push-in-Opens.ensures, c.in_ok-mark-in-Opens.ensures.run, c.in_ok-mark-in-Opens.ensures.backing) refl)
    (omega (arith, ap (λ m. m.state.run.fuel) c.in_ok-take_args-in-Opens.ensures, ap (λ s. s.fuel) c.in_ok-mark-in-Opens.ensures.run)) (λ is. absurd (omega (arith, is, ap (λ m. m.state.run.fuel) c.in_ok-take_args-in-Opens.ensures, ap (λ s. s.fuel) c.in_ok-mark-in-Opens.ensures.run))) c.anew.ensures

pub returns-in-Answers : goal.returns-in-Answers
returns-in-Answers g c =
    let at = c.args.at.now in let m = c.args.self.now in let next = continuation_of at m.tasks in let context = context_in m in
    advances_from at _ _ _ _ _ _ _ _
    (ap (resume next (without_args context)) (attempt_answered at context.backing.store c.in-Answers.answers c.in-Answers.is m.frame.object m.frame.inv m.frame.room c.args.to c.args.name m.args.top m.state.run))
    (omega arith) (λ _. omega arith) c.take_answer.ensures
