use Rattle.ecf_lang.specs.Part.{with_charge}
use Rattle.ecf_progress.proofs.StateSteps.{pay_short, pay_enough, ChargesFit-pay, length-with_change}
use Rattle.ecf_progress.proofs.state.RunState.pay.Goals as goal

pub returns-then-self-fuel-clause-paid : goal.returns-then-self-fuel-clause-paid
returns-then-self-fuel-clause-paid g c = rw (← c.self.view_is) (pay_short _ _ _ c.if-self-fuel.true)

pub invariant_of-self-2 : goal.invariant_of-self-2
invariant_of-self-2 g c =
    rw c.charge.ensures (ChargesFit-pay _ _ _ _ c.if-self-fuel.false c.self.invariant.0, c.self.invariant.1, rw (length-with_change (with_charge c.args.fuel) c.self.inside.invocations.items c.args.inv) c.self.invariant.2)

pub returns-clause-paid : goal.returns-clause-paid
returns-clause-paid g c = rw (← c.self.view_is, c.charge.ensures) (pay_enough _ _ _ c.if-self-fuel.false)
