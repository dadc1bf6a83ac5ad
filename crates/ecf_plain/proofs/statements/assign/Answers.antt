use Rattle.std.proofs.Common.{ap, sym, ◌∙◌}
use Rattle.ecf_lang.specs.Part.{Done}
use Rattle.ecf_lang.specs.Meaning.{Continues}
use Rattle.ecf_progress.specs.Segments.{Lists}
use Rattle.ecf_plain.specs.Leads.{framed, assigned}
use Rattle.ecf_plain.proofs.LeadLaws.{before_more, ends_more, failed_move, further_on, on_to_end, reached}
use Rattle.ecf_plain.proofs.StatementLaws.{write_then}
use Rattle.ecf_plain.proofs.statements.assign.Goals as goal

pub returns-in-Local-clause-acts : goal.returns-in-Local-clause-acts
returns-in-Local-clause-acts g c = λ store is opens.
    reached _ _ _ (ap (λ to. assigned to c.args.value c.args.locals.now.top store (framed c.args.frame.now opens) c.args.state.now.run) c.in-Local.is ∙ ap (λ (l : Lists). Done (Continues l.top) c.args.state.now.run) (sym c.set.ensures))

pub returns-in_ok-put-in-Plain-clause-acts : goal.returns-in_ok-put-in-Plain-clause-acts
returns-in_ok-put-in-Plain-clause-acts g c = λ store is opens.
    let frame = framed c.args.frame.now opens in
    further_on (reached _ _ _ (ap (λ to. assigned to c.args.value c.args.locals.now.top store frame c.args.state.now.run) c.in-Plain.is ∙ write_then store frame c.in-Plain.field 0 c.args.value c.args.locals.now.top c.args.state.now.run))
    (before_more _ (c.in_ok-put-in-Plain.ensures store is opens))

pub returns-in_err-put-in-Plain-clause-acts : goal.returns-in_err-put-in-Plain-clause-acts
returns-in_err-put-in-Plain-clause-acts g c = λ store is opens.
    let frame = framed c.args.frame.now opens in
    failed_move _ _ _ _ _ _ _ c.from_residual.ensures.1
    (on_to_end _ _ (reached _ _ _ (ap (λ to. assigned to c.args.value c.args.locals.now.top store frame c.args.state.now.run) c.in-Plain.is ∙ write_then store frame c.in-Plain.field 0 c.args.value c.args.locals.now.top c.args.state.now.run))
    (ends_more _ _ _ _ _ (c.in_err-put-in-Plain.ensures store is opens)))
