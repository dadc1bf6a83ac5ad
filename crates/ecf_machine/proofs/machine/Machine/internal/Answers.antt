use Rattle.std.proofs.Common.{◌-◌, refl, ap, sym, ◌∙◌}
use Rattle.ecf_lang.specs.Forms.{block_is}
use Rattle.ecf_lang.specs.Fits.{method_at}
use Rattle.ecf_lang.specs.Meaning.{locals_of, block_of}
use Rattle.ecf_machine.specs.Parts.{frame_at}
use Rattle.ecf_progress.specs.Segments.{pushed, popped}
use Rattle.ecf_machine.specs.Continuations.{continuation_of, context_in, without_args, resume, resume_flow, above}
use Rattle.ecf_machine.specs.declared.task.Task.TheVariants as task
use Rattle.ecf_machine.proofs.StepLaws.{follows}
use Rattle.ecf_machine.proofs.CallLaws.{internal_deep, internal_missing, internal_opened, internal_back}
use Rattle.ecf_machine.proofs.machine.Machine.internal.Goals as goal

pub returns-then-self-eq0 : goal.returns-then-self-eq0
returns-then-self-eq0 g c =
    let at = c.args.at.now in let m = c.args.self.now in let next = continuation_of at m.tasks in let context = context_in m in
    follows at _ m _ _
    (ap (resume next (without_args context)) (internal_deep at context.backing.store m.frame c.args.name m.args.top m.state.run (sym (ap (λ m. m.frame.room) c.in_ok-take_args.ensures) ∙ c.if-self-eq0.true))
    ∙ rw (c.in_ok-push.ensures, c.in_ok-take_args.ensures) refl)
    (ap (λ m. m.state.run.fuel) c.in_ok-take_args.ensures)

pub returns-in_ok-fill-in-Some : goal.returns-in_ok-fill-in-Some
returns-in_ok-fill-in-Some g c =
    let at = c.args.at.now in let m = c.args.self.now in let next = continuation_of at m.tasks in let context = context_in m in
    let frame = record m.frame { room = m.frame.room - 1 } in let method = c.in-Some.method.now in let locals = locals_of method m.args.top in
    follows at _ m _ _
    (ap (resume next (without_args context)) (internal_opened at context.backing.store m.frame c.args.name m.args.top m.state.run method (λ none. c.if-self-eq0.false (ap (λ m. m.frame.room) c.in_ok-take_args.ensures ∙ none))
    (sym (ap (λ m. method_at at.typed.now m.frame.object c.args.name) c.in_ok-take_args.ensures) ∙ sym c.in-Some.ensures))
    ∙ internal_back at next (without_args context) frame locals (block_of context.backing.store (frame_at at context.backing.store frame) method.body locals m.state.run)
    ∙ ap (resume_flow (above at (task.Leave m.frame) next) (record context { frame = frame; locals = pushed locals m.locals; args = popped m.args })) (block_is context.backing.store (frame_at at context.backing.store frame) method.body locals m.state.run)
    ∙ rw (c.in_ok-fill-in-Some.ensures, c.in_ok-push.ensures, c.in_ok-take_args.ensures, c.as_slice.ensures) refl)
    (ap (λ m. m.state.run.fuel) c.in_ok-take_args.ensures)

pub returns-in-None : goal.returns-in-None
returns-in-None g c =
    let at = c.args.at.now in let m = c.args.self.now in let next = continuation_of at m.tasks in let context = context_in m in
    follows at _ m _ _
    (ap (resume next (without_args context)) (internal_missing at context.backing.store m.frame c.args.name m.args.top m.state.run (λ none. c.if-self-eq0.false (ap (λ m. m.frame.room) c.in_ok-take_args.ensures ∙ none)) (sym (ap (λ m. method_at at.typed.now m.frame.object c.args.name) c.in_ok-take_args.ensures) ∙ sym c.in-None.ensures))
    ∙ rw (c.in_ok-push.ensures, c.in_ok-take_args.ensures) refl)
    (ap (λ m. m.state.run.fuel) c.in_ok-take_args.ensures)
