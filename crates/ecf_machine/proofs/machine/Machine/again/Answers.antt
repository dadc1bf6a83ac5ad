use Rattle.std.proofs.Common.{◌≡◌, suc, ◌-◌, ap, sym, ◌∙◌, arith}
use Rattle.ecf_lang.specs.Part.{Exit, RunsOut}
use Rattle.ecf_machine.specs.Parts.{turns_in}
use Rattle.ecf_machine.specs.Continuations.{continuation_of, context_in, resume_flow, from_action}
use Rattle.ecf_machine.proofs.StepLaws.{advances_from, one_turn, no_turn}
use Rattle.ecf_machine.proofs.machine.Machine.again.Goals as goal

pub returns : goal.returns
returns g c =
    let at = c.args.at.now in let m = c.args.self.now in let next = continuation_of at m.tasks in let context = context_in m in
    let more : c.args.turns ≡ suc (c.args.turns - 1) = omega (arith, c.if-turns-eq0.false) in
    advances_from at _ _ _ _ _ _ _ _
    (ap (λ n. from_action at m (turns_in n c.args.cond.now c.args.body.now)) more ∙ one_turn at next context (c.args.turns - 1) c.args.cond c.args.body m.state.run)
    (omega arith) (λ _. omega arith) c.wait.ensures

pub returns-then-turns-eq0 : goal.returns-then-turns-eq0
returns-then-turns-eq0 g c =
    let at = c.args.at.now in let m = c.args.self.now in let next = continuation_of at m.tasks in let context = context_in m in
    record {
      same = ap (λ n. from_action at m (turns_in n c.args.cond.now c.args.body.now)) c.if-turns-eq0.true
          ∙ ap (resume_flow next context) (no_turn at next context c.args.cond.now c.args.body.now m.state.run) ∙ ap (λ s. Exit RunsOut s) (sym c.spend.ensures.run);
      spends = omega (arith, ap (λ s. s.fuel) c.spend.ensures.run);
      falls = λ is. omega arith;
    }
