use Rattle.std.proofs.Common.{ap, sym, ◌∙◌}
use Rattle.ecf_plain.specs.Leads.{framed, named, constant}
use Rattle.ecf_plain.proofs.LeadLaws.{as_form}
use Rattle.ecf_plain.proofs.expressions.named.Goals as goal

pub returns-in-Local : goal.returns-in-Local
returns-in-Local g c = λ store is opens.
    let frame = framed c.args.frame.now opens in
    as_form _ _ _ _ (ap (λ place. named c.args.locals.now.top place store frame c.args.state.now.run) c.in-Local.is ∙ ap (λ v. constant v store frame c.args.state.now.run) (sym c.get.ensures))
    (c.constant.ensures store is opens)

pub returns-in-Plain : goal.returns-in-Plain
returns-in-Plain g c = λ store is opens.
    as_form _ _ _ _ (ap (λ place. named c.args.locals.now.top place store (framed c.args.frame.now opens) c.args.state.now.run) c.in-Plain.is) (c.fetch.ensures store is opens)

pub returns-in-Object : goal.returns-in-Object
returns-in-Object g c = λ store is opens.
    as_form _ _ _ _ (ap (λ place. named c.args.locals.now.top place store (framed c.args.frame.now opens) c.args.state.now.run) c.in-Object.is ∙ ap (λ v. constant v store (framed c.args.frame.now opens) c.args.state.now.run) (sym c.from.ensures)) (c.constant-in-Object.ensures store is opens)
