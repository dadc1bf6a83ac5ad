use Rattle.std.proofs.Common.{ap, sym, ◌∙◌, arith}
use Rattle.ecf_machine.specs.Parts.{stmt_in, answer_in, branch_in, keyed_in, loop_in, try_in}
use Rattle.ecf_machine.specs.Continuations.{continuation_of, context_in, resume_flow, from_action}
use Rattle.ecf_machine.specs.declared.task.Task.TheVariants as task
use Rattle.ecf_machine.proofs.StepLaws.{advances_from, waiting, acting, valuing, begin_let, begin_set, begin_keyed, begin_return, begin_revert, begin_if, begin_do, begin_loop, begin_try, stmt_unpaid}
use Rattle.ecf_machine.proofs.machine.Machine.stmt.Goals as goal

pub returns-in-Let : goal.returns-in-Let
returns-in-Let g c =
    let at = c.args.at.now in let m = c.args.self.now in let next = continuation_of at m.tasks in let context = context_in m in
    let s1 = c.pay.new.self.run in
    advances_from at _ _ _ _ _ _ _ _
    (ap (λ t. from_action at m (stmt_in t)) c.in-Let.is ∙ begin_let at next context m.state.run s1 c.if-not-pay.ensures.paid _ _ _
    ∙ ap (λ backing. waiting at next (record context { backing = backing }) (task.Let c.in-Let.local) c.in-Let.value s1) (sym c.pay.ensures.backing))
    (omega (arith, c.if-not-pay.ensures.falls)) (λ is. omega (arith, is, c.if-not-pay.ensures.falls)) c.wait.ensures

pub returns-in-Set : goal.returns-in-Set
returns-in-Set g c =
    let at = c.args.at.now in let m = c.args.self.now in let next = continuation_of at m.tasks in let context = context_in m in
    let s1 = c.pay.new.self.run in
    advances_from at _ _ _ _ _ _ _ _
    (ap (λ t. from_action at m (stmt_in t)) c.in-Set.is ∙ begin_set at next context m.state.run s1 c.if-not-pay.ensures.paid _ _
    ∙ ap (λ backing. waiting at next (record context { backing = backing }) (task.Assign c.in-Set.to) c.in-Set.value s1) (sym c.pay.ensures.backing))
    (omega (arith, c.if-not-pay.ensures.falls)) (λ is. omega (arith, is, c.if-not-pay.ensures.falls)) c.wait-in-Set.ensures

pub returns-in-Return : goal.returns-in-Return
returns-in-Return g c =
    let at = c.args.at.now in let m = c.args.self.now in let next = continuation_of at m.tasks in let context = context_in m in
    let s1 = c.pay.new.self.run in
    advances_from at _ _ _ _ _ _ _ _
    (ap (λ t. from_action at m (stmt_in t)) c.in-Return.is ∙ begin_return at next context m.state.run s1 c.if-not-pay.ensures.paid _
    ∙ ap (λ backing. waiting at next (record context { backing = backing }) task.Return c.in-Return.value s1) (sym c.pay.ensures.backing))
    (omega (arith, c.if-not-pay.ensures.falls)) (λ is. omega (arith, is, c.if-not-pay.ensures.falls)) c.wait-in-Return.ensures

pub returns-in-Revert : goal.returns-in-Revert
returns-in-Revert g c =
    let at = c.args.at.now in let m = c.args.self.now in let next = continuation_of at m.tasks in let context = context_in m in
    let s1 = c.pay.new.self.run in
    advances_from at _ _ _ _ _ _ _ _
    (ap (λ t. from_action at m (stmt_in t)) c.in-Revert.is ∙ begin_revert at next context m.state.run s1 c.if-not-pay.ensures.paid _
    ∙ ap (λ backing. waiting at next (record context { backing = backing }) task.Revert c.in-Revert.value s1) (sym c.pay.ensures.backing))
    (omega (arith, c.if-not-pay.ensures.falls)) (λ is. omega (arith, is, c.if-not-pay.ensures.falls)) c.wait-in-Revert.ensures

pub returns-in-SetAt : goal.returns-in-SetAt
returns-in-SetAt g c =
    let at = c.args.at.now in let m = c.args.self.now in let next = continuation_of at m.tasks in let context = context_in m in
    let s1 = c.pay.new.self.run in
    advances_from at _ _ _ _ _ _ _ _
    (ap (λ t. from_action at m (stmt_in t)) c.in-SetAt.is ∙ begin_keyed at next context m.state.run s1 c.if-not-pay.ensures.paid _ _ _
    ∙ ap (λ backing. acting at next (record context { backing = backing }) (keyed_in c.in-SetAt.map c.in-SetAt.key c.in-SetAt.value) s1) (sym c.pay.ensures.backing))
    (omega (arith, c.if-not-pay.ensures.falls)) (λ is. omega (arith, is, c.if-not-pay.ensures.falls)) c.assign_at.ensures

pub returns-in-While : goal.returns-in-While
returns-in-While g c =
    let at = c.args.at.now in let m = c.args.self.now in let next = continuation_of at m.tasks in let context = context_in m in
    let s1 = c.pay.new.self.run in
    advances_from at _ _ _ _ _ _ _ _
    (ap (λ t. from_action at m (stmt_in t)) c.in-While.is ∙ begin_loop at next context m.state.run s1 c.if-not-pay.ensures.paid _ _
    ∙ ap (λ backing. acting at next (record context { backing = backing }) (loop_in c.in-While.cond c.in-While.body) s1) (sym c.pay.ensures.backing))
    (omega (arith, c.if-not-pay.ensures.falls)) (λ is. omega (arith, is, c.if-not-pay.ensures.falls)) c.repeat.ensures

pub returns-in-Try : goal.returns-in-Try
returns-in-Try g c =
    let at = c.args.at.now in let m = c.args.self.now in let next = continuation_of at m.tasks in let context = context_in m in
    let s1 = c.pay.new.self.run in
    advances_from at _ _ _ _ _ _ _ _
    (ap (λ t. from_action at m (stmt_in t)) c.in-Try.is ∙ begin_try at next context m.state.run s1 c.if-not-pay.ensures.paid _ _ _ _
    ∙ ap (λ args. acting at next context (try_in c.in-Try.local c.in-Try.target c.in-Try.name args) s1) (sym c.as_slice.ensures)
    ∙ ap (λ backing. acting at next (record context { backing = backing }) (try_in c.in-Try.local c.in-Try.target c.in-Try.name c.as_slice.result.now) s1) (sym c.pay.ensures.backing))
    (omega (arith, c.if-not-pay.ensures.falls)) (λ is. omega (arith, is, c.if-not-pay.ensures.falls)) c.try_call.ensures

pub returns-in-If : goal.returns-in-If
returns-in-If g c =
    let at = c.args.at.now in let m = c.args.self.now in let next = continuation_of at m.tasks in let context = context_in m in
    let s1 = c.pay.new.self.run in
    advances_from at _ _ _ _ _ _ _ _
    (ap (λ t. from_action at m (stmt_in t)) c.in-If.is ∙ begin_if at next context m.state.run s1 c.if-not-pay.ensures.paid _ _
    ∙ ap (λ arms. acting at next context (branch_in arms c.in-If.last) s1) (sym c.as_slice-in-If.ensures)
    ∙ ap (λ backing. acting at next (record context { backing = backing }) (branch_in c.as_slice-in-If.result.now c.in-If.last) s1) (sym c.pay.ensures.backing))
    (omega (arith, c.if-not-pay.ensures.falls)) (λ is. omega (arith, is, c.if-not-pay.ensures.falls)) c.choose.ensures

pub returns-in_ok-push-in-Do : goal.returns-in_ok-push-in-Do
returns-in_ok-push-in-Do g c =
    let at = c.args.at.now in let m = c.args.self.now in let next = continuation_of at m.tasks in let context = context_in m in
    let s1 = c.pay.new.self.run in
    advances_from at _ _ _ _ _ _ _ _
    (ap (λ t. from_action at m (stmt_in t)) c.in-Do.is ∙ begin_do at next context m.state.run s1 c.if-not-pay.ensures.paid _
    ∙ ap (λ tasks. valuing at (continuation_of at tasks) context (answer_in c.in-Do.call) s1) (sym c.in_ok-push-in-Do.ensures)
    ∙ ap (λ backing. valuing at (continuation_of at c.push.new.self) (record context { backing = backing }) (answer_in c.in-Do.call) s1) (sym c.pay.ensures.backing))
    (omega (arith, c.if-not-pay.ensures.falls)) (λ is. omega (arith, is, c.if-not-pay.ensures.falls)) c.call.ensures

pub returns-then-not-pay : goal.returns-then-not-pay
returns-then-not-pay g c =
    let at = c.args.at.now in let m = c.args.self.now in let next = continuation_of at m.tasks in let context = context_in m in
    record {
      same = ap (resume_flow next context) (stmt_unpaid at next context c.args.stmt.now m.state.run c.pay.new.self.run c.if-not-pay.ensures.paid);
      spends = c.pay.ensures.at_most;
      falls = λ is. omega arith;
    }
