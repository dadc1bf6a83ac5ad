use Rattle.std.proofs.Common.{ap, arith}
use Rattle.ecf_machine.specs.Continuations.{from_task}
use Rattle.ecf_machine.specs.Load.{task_size}
use Rattle.ecf_machine.proofs.StepLaws.{advances_from}
use Rattle.ecf_machine.proofs.machine.Machine.go_on.Goals as goal

pub returns-in-First : goal.returns-in-First
returns-in-First g c =
    let at = c.args.at.now in let m = c.args.self.now in
    advances_from at _ _ _ _ _ _ _ _
    (ap (λ t. from_task at m t c.args.value) c.in-First.is)
    (omega arith) (λ _. omega (arith, ap task_size c.in-First.is)) c.further.ensures

pub returns-in-Further : goal.returns-in-Further
returns-in-Further g c =
    let at = c.args.at.now in let m = c.args.self.now in
    advances_from at _ _ _ _ _ _ _ _
    (ap (λ t. from_task at m t c.args.value) c.in-Further.is)
    (omega arith) (λ _. omega (arith, ap task_size c.in-Further.is)) c.operate.ensures

pub returns-in-Index : goal.returns-in-Index
returns-in-Index g c =
    let at = c.args.at.now in let m = c.args.self.now in
    advances_from at _ _ _ _ _ _ _ _
    (ap (λ t. from_task at m t c.args.value) c.in-Index.is)
    (omega arith) (λ _. omega (arith, ap task_size c.in-Index.is)) c.fetch.ensures

pub returns-in-Not : goal.returns-in-Not
returns-in-Not g c =
    let at = c.args.at.now in let m = c.args.self.now in
    advances_from at _ _ _ _ _ _ _ _
    (ap (λ t. from_task at m t c.args.value) c.in-Not.is)
    (omega arith) (λ _. omega (arith, ap task_size c.in-Not.is)) c.not.ensures

pub returns-in-Right : goal.returns-in-Right
returns-in-Right g c =
    let at = c.args.at.now in let m = c.args.self.now in
    advances_from at _ _ _ _ _ _ _ _
    (ap (λ t. from_task at m t c.args.value) c.in-Right.is)
    (omega arith) (λ _. omega (arith, ap task_size c.in-Right.is)) c.compare.ensures

pub returns-in-And : goal.returns-in-And
returns-in-And g c =
    let at = c.args.at.now in let m = c.args.self.now in
    advances_from at _ _ _ _ _ _ _ _
    (ap (λ t. from_task at m t c.args.value) c.in-And.is)
    (omega arith) (λ _. omega (arith, ap task_size c.in-And.is)) c.all.ensures

pub returns-in-Or : goal.returns-in-Or
returns-in-Or g c =
    let at = c.args.at.now in let m = c.args.self.now in
    advances_from at _ _ _ _ _ _ _ _
    (ap (λ t. from_task at m t c.args.value) c.in-Or.is)
    (omega arith) (λ _. omega (arith, ap task_size c.in-Or.is)) c.any.ensures

pub returns-in-Target : goal.returns-in-Target
returns-in-Target g c =
    let at = c.args.at.now in let m = c.args.self.now in
    advances_from at _ _ _ _ _ _ _ _
    (ap (λ t. from_task at m t c.args.value) c.in-Target.is)
    (omega arith) (λ _. omega (arith, ap task_size c.in-Target.is)) c.begin_call.ensures

pub returns-in-Assign : goal.returns-in-Assign
returns-in-Assign g c =
    let at = c.args.at.now in let m = c.args.self.now in
    advances_from at _ _ _ _ _ _ _ _
    (ap (λ t. from_task at m t c.args.value) c.in-Assign.is)
    (omega arith) (λ _. omega (arith, ap task_size c.in-Assign.is)) c.assign.ensures

pub returns-in-Put : goal.returns-in-Put
returns-in-Put g c =
    let at = c.args.at.now in let m = c.args.self.now in
    advances_from at _ _ _ _ _ _ _ _
    (ap (λ t. from_task at m t c.args.value) c.in-Put.is)
    (omega arith) (λ _. omega (arith, ap task_size c.in-Put.is)) c.put.ensures

pub returns-in-Choose : goal.returns-in-Choose
returns-in-Choose g c =
    let at = c.args.at.now in let m = c.args.self.now in
    advances_from at _ _ _ _ _ _ _ _
    (ap (λ t. from_task at m t c.args.value) c.in-Choose.is)
    (omega arith) (λ _. omega (arith, ap task_size c.in-Choose.is)) c.chosen.ensures

pub returns-in-Test : goal.returns-in-Test
returns-in-Test g c =
    let at = c.args.at.now in let m = c.args.self.now in
    advances_from at _ _ _ _ _ _ _ _
    (ap (λ t. from_task at m t c.args.value) c.in-Test.is)
    (omega arith) (λ _. omega (arith, ap task_size c.in-Test.is)) c.tested.ensures

pub returns-in-Again : goal.returns-in-Again
returns-in-Again g c =
    let at = c.args.at.now in let m = c.args.self.now in
    advances_from at _ _ _ _ _ _ _ _
    (ap (λ t. from_task at m t c.args.value) c.in-Again.is)
    (omega arith) (λ _. omega (arith, ap task_size c.in-Again.is)) c.again.ensures

pub returns-in-Calls : goal.returns-in-Calls
returns-in-Calls g c =
    let at = c.args.at.now in let m = c.args.self.now in
    advances_from at _ _ _ _ _ _ _ _
    (ap (λ t. from_task at m t c.args.value) c.in-Calls.is)
    (omega arith) (λ _. omega (arith, ap task_size c.in-Calls.is)) c.next_call.ensures

pub returns-in-Return : goal.returns-in-Return
returns-in-Return g c =
    let at = c.args.at.now in let m = c.args.self.now in
    record { same = ap (λ t. from_task at m t c.args.value) c.in-Return.is; spends = omega arith; falls = λ _. omega (arith, ap task_size c.in-Return.is) }

pub returns-in-Revert : goal.returns-in-Revert
returns-in-Revert g c =
    let at = c.args.at.now in let m = c.args.self.now in
    record { same = ap (λ t. from_task at m t c.args.value) c.in-Revert.is; spends = omega arith; falls = λ _. omega (arith, ap task_size c.in-Revert.is) }

pub returns-in-Ignore : goal.returns-in-Ignore
returns-in-Ignore g c =
    let at = c.args.at.now in let m = c.args.self.now in
    record { same = ap (λ t. from_task at m t c.args.value) c.in-Ignore.is; spends = omega arith; falls = λ _. omega (arith, ap task_size c.in-Ignore.is) }

pub returns-in-Next : goal.returns-in-Next
returns-in-Next g c =
    let at = c.args.at.now in let m = c.args.self.now in
    record { same = ap (λ t. from_task at m t c.args.value) c.in-Next.is; spends = omega arith; falls = λ _. omega (arith, ap task_size c.in-Next.is) }
