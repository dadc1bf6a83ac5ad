use Rattle.std.proofs.Common.{◌≡◌, ◌-◌, refl, ap, sym, ◌∙◌, arith}
use Rattle.ecf_lang.specs.Forms.{block_is}
use Rattle.ecf_lang.specs.Part.{Done, begin}
use Rattle.ecf_lang.specs.Meaning.{locals_of, block_of}
use Rattle.ecf_machine.specs.Parts.{frame_at, anew_at}
use Rattle.ecf_machine.specs.Load.{load}
use Rattle.ecf_progress.specs.Segments.{with_top}
use Rattle.ecf_machine.specs.Continuations.{continuation_of, context_in, resume, resume_flow, above}
use Rattle.ecf_progress.specs.declared.frame.OpenFrame.{OpenFrame}
use Rattle.ecf_machine.specs.declared.task.Task.TheVariants as task
use Rattle.ecf_machine.proofs.StepLaws.{beyond}
use Rattle.ecf_machine.proofs.CallLaws.{anew_deep, anew_full, anew_missing, anew_opened, answered_back}
use Rattle.ecf_machine.proofs.machine.Machine.anew.Goals as goal

pub returns-then-self-eq0 : goal.returns-then-self-eq0
returns-then-self-eq0 g c =
    let at = c.args.at.now in let m = c.args.self.now in let next = continuation_of at m.tasks in let context = context_in m in
    record { same = ap (resume next context) (anew_deep at context.backing.store m.frame.room c.args.to c.args.name m.locals.top m.state.run c.if-self-eq0.true); spends = omega arith; falls = λ _. omega arith }

pub returns-then-invocation_count-ge-MAX_INVOCATIONS : goal.returns-then-invocation_count-ge-MAX_INVOCATIONS
returns-then-invocation_count-ge-MAX_INVOCATIONS g c =
    let at = c.args.at.now in let m = c.args.self.now in let next = continuation_of at m.tasks in let context = context_in m in
    record { same = ap (resume next context) (anew_full at context.backing.store m.frame.room c.args.to c.args.name m.locals.top m.state.run c.if-self-eq0.false (omega (arith, c.if-invocation_count-ge-MAX_INVOCATIONS.true, c.invocation_count.ensures))); spends = omega arith; falls = λ _. omega arith }

pub returns-in_default : goal.returns-in_default
returns-in_default g c =
    let at = c.args.at.now in let m = c.args.self.now in let next = continuation_of at m.tasks in let context = context_in m in
    record {
      same = ap (resume next context) (anew_missing at context.backing.store m.frame.room c.args.to c.args.name m.locals.top m.state.run c.if-self-eq0.false (omega (arith, c.if-invocation_count-ge-MAX_INVOCATIONS.false, c.invocation_count.ensures))
          (beyond at.typed.now c.args.to c.args.name (omega (arith, c.in_default.ensures)) c.requires.number));
      spends = omega arith;
      falls = λ _. omega arith;
    }

pub returns-in_ok-fill-in-Some : goal.returns-in_ok-fill-in-Some
returns-in_ok-fill-in-Some g c =
    let at = c.args.at.now in let m = c.args.self.now in let next = continuation_of at m.tasks in let context = context_in m in
    let method = c.in-Some.method.now in let locals = locals_of method m.locals.top in let inv = c.in_ok-inv-in-Some.inv in
    let frame : OpenFrame = record { object = c.in-Ok.object; inv = inv; room = m.frame.room - 1 } in let s1 = c.begin.new.self.run in
    let body = frame_at at context.backing.store frame in
    let number : c.in-Ok.object ≡ c.args.to = omega (arith, c.in-Ok.ensures) in
    let begun : begin c.in-Ok.object c.args.name m.locals.top m.state.run ≡ Done inv s1 =
    ap (λ args. begin c.in-Ok.object c.args.name args m.state.run) (sym (c.in_ok-args-in-Some.ensures ∙ c.top.ensures)) ∙ c.in_ok-inv-in-Some.ensures.begun in
    record {
      same = ap (λ to. resume next context (anew_at at context.backing.store m.frame.room to c.args.name m.locals.top m.state.run)) (sym number)
          ∙ ap (resume next context) (anew_opened at context.backing.store m.frame.room c.in-Ok.object c.args.name m.locals.top m.state.run method inv s1 c.if-self-eq0.false (omega (arith, c.if-invocation_count-ge-MAX_INVOCATIONS.false, c.invocation_count.ensures)) (sym c.in-Some.ensures) begun)
          ∙ answered_back at m.tasks c.requires.returns context frame locals (block_of context.backing.store body method.body locals s1)
          ∙ ap (resume_flow (above at task.Answered next) (record context { frame = frame; locals = with_top m.locals locals })) (block_is context.backing.store body method.body locals s1)
          ∙ rw (c.in_ok-fill-in-Some.ensures, c.in_ok-push-in-Some.ensures, c.in_ok-inv-in-Some.ensures.backing, c.as_slice.ensures) refl;
      spends = omega (arith, c.begin.ensures.fuel);
      falls = λ _. omega (arith, ap load c.in_ok-push-in-Some.ensures);
    }

pub returns-in-None : goal.returns-in-None
returns-in-None g c =
    let at = c.args.at.now in let m = c.args.self.now in let next = continuation_of at m.tasks in let context = context_in m in
    let number : c.in-Ok.object ≡ c.args.to = omega (arith, c.in-Ok.ensures) in
    record {
      same = ap (λ to. resume next context (anew_at at context.backing.store m.frame.room to c.args.name m.locals.top m.state.run)) (sym number)
          ∙ ap (resume next context) (anew_missing at context.backing.store m.frame.room c.in-Ok.object c.args.name m.locals.top m.state.run c.if-self-eq0.false (omega (arith, c.if-invocation_count-ge-MAX_INVOCATIONS.false, c.invocation_count.ensures)) (sym c.in-None.ensures));
      spends = omega arith;
      falls = λ _. omega arith;
    }
