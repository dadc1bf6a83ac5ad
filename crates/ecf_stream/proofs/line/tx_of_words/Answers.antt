use Rattle.std.proofs.Common.{ap, sym, subst, ◌∙◌}
use Rattle.ecf_lines.specs.Line.{tx_of_calls}
use Rattle.ecf_stream.specs.StreamFault.{Tells}
use Rattle.ecf_stream.proofs.CallLaws.{seen_calls, tx_by_calls}
use Rattle.ecf_stream.proofs.WordLaws.{seen}
use Rattle.ecf_stream.proofs.line.tx_of_words.Goals as goal

pub returns : goal.returns
returns c =
    subst (λ r. Tells c.tx_of_calls.result r)
    (sym (tx_by_calls c.args.typed.now (seen c.args.words.now) c.in_ok-submitter.submitter (seen_calls c.as_slice-2.result.now) c.in_ok-submitter.ensures (ap seen_calls c.as_slice-2.ensures.value ∙ c.in_ok-calls.ensures)))
    c.tx_of_calls.ensures
