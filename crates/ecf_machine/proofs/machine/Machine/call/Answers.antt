use Rattle.std.proofs.Common.{false, ap, sym, ◌∙◌, arith}
use Rattle.ecf_lang.specs.declared.typed.TypedCall.TheVariants as call
use Rattle.ecf_machine.specs.Parts.{answer_in, args_in}
use Rattle.ecf_machine.specs.Continuations.{continuation_of, context_in, resume, from_part, from_wait}
use Rattle.ecf_machine.specs.Load.{size_of, call_size, args_size}
use Rattle.ecf_progress.specs.Segments.{popped}
use Rattle.ecf_machine.specs.declared.task.Callee.TheVariants as callee
use Rattle.ecf_machine.specs.declared.task.Task.TheVariants as task
use Rattle.ecf_machine.proofs.SizeLaws.{size_external, size_internal}
use Rattle.ecf_machine.proofs.StepLaws.{advances_from, call_external, call_internal}
use Rattle.ecf_machine.proofs.machine.Machine.call.Goals as goal

pub returns-in-External : goal.returns-in-External
returns-in-External g c =
    let at = c.args.at.now in let m = c.args.self.now in let next = continuation_of at m.tasks in let context = context_in m in
    advances_from at _ _ _ _ _ _ _ _
    (ap (λ t. from_part at m (answer_in t)) c.in-External.is
    ∙ ap (λ args. from_part at m (answer_in (call.External c.in-External.target c.in-External.name args))) (sym c.as_slice.ensures)
    ∙ call_external at next context _ _ c.as_slice.result _ ∙ ap (from_wait at m (task.Target false c.in-External.name c.as_slice.result)) (sym c.get.ensures))
    (omega arith)
    (λ _. omega (arith, ap call_size c.in-External.is, size_external c.in-External.target c.in-External.name c.in-External.args, ap args_size c.as_slice.ensures, ap size_of c.get.ensures)) c.wait.ensures

pub returns-in_ok-open-in-Internal : goal.returns-in_ok-open-in-Internal
returns-in_ok-open-in-Internal g c =
    let at = c.args.at.now in let m = c.args.self.now in let next = continuation_of at m.tasks in let context = context_in m in
    advances_from at _ _ _ _ _ _ _ _
    (ap (λ t. from_part at m (answer_in t)) c.in-Internal.is
    ∙ ap (λ args. from_part at m (answer_in (call.Internal c.in-Internal.name args))) (sym c.as_slice-in-Internal.ensures)
    ∙ ap (resume next context) (call_internal at next context c.in-Internal.name c.as_slice-in-Internal.result m.state.run)
    ∙ ap (λ lists. resume next (record context { args = popped lists }) (args_in (callee.Internal c.in-Internal.name) lists.top c.as_slice-in-Internal.result.now at context m.state.run)) (sym c.in_ok-open-in-Internal.ensures))
    (omega arith)
    (λ _. omega (arith, ap call_size c.in-Internal.is, size_internal c.in-Internal.name c.in-Internal.args, ap args_size c.as_slice-in-Internal.ensures)) c.argument.ensures
