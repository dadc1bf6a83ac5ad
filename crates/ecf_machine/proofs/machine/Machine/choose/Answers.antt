use Rattle.std.proofs.Common.{[], ap, sym, ◌∙◌, arith}
use Rattle.ecf_lang.specs.Forms.{block_is}
use Rattle.ecf_machine.specs.Parts.{frame_in, branch_in, stmts_in}
use Rattle.ecf_machine.specs.Continuations.{continuation_of, context_in, resume_flow, from_action}
use Rattle.ecf_machine.proofs.StepLaws.{none_there}
use Rattle.ecf_machine.proofs.machine.Machine.choose.Goals as goal

pub returns-in-Some : goal.returns-in-Some
returns-in-Some g c =
    let at = c.args.at.now in let m = c.args.self.now in let next = continuation_of at m.tasks in let context = context_in m in
    record {
      same = ap (λ arms. from_action at m (branch_in arms c.args.last.now)) (none_there c.args.arms.now c.in-empty.len_below)
          ∙ ap (λ last. from_action at m (branch_in [] last)) c.in-Some.is
          ∙ ap (resume_flow next context) (block_is context.backing.store (frame_in at context) c.in-Some.block context.locals.top m.state.run)
          ∙ ap (λ stmts. from_action at m (stmts_in stmts)) (sym c.as_slice.ensures);
      spends = omega arith;
      falls = λ _. omega arith;
    }
