use Rattle.std.proofs.Common.{◌≡◌, ◌∷◌, [], Ok, Err, rules}
use Rattle.std.specs.Prelude.{MatchOption, ⊤}
use Rattle.std.proofs.lemmas.Result.{err_from_is_err_and}
use Rattle.ecf_stream.specs.Calls.{calls_behind}
use Rattle.ecf_stream.specs.StreamFault.{cause_of, Tells}
use Rattle.ecf_stream.proofs.CallLaws.{seen_calls, tx_made, fault_passed}
use Rattle.ecf_stream.proofs.WordLaws.{seen}
use Rattle.ecf_stream.proofs.line.tx_from_first.Goals as goal

pub returns : goal.returns
returns c = tx_made c.args.typed.now c.args.submitter c.in_ok-fuel.fuel c.in_ok-fuel.call c.in_ok-calls.calls (seen c.args.first.now) (seen_calls c.args.further.now) c.in_ok-fuel.ensures c.in_ok-calls.ensures

pub returns-in_err-calls : goal.returns-in_err-calls
returns-in_err-calls c =
    let p = err_from_is_err_and c.from_residual-in_err-calls.result c.from_residual-in_err-calls.ensures.1 in
    rw (p.1, p.2) (fault_passed c.args.typed.now c.args.submitter c.in_ok-fuel.fuel c.in_ok-fuel.call c.in_err-calls.field-0.0 (seen c.args.first.now) (seen_calls c.args.further.now) c.in_ok-fuel.ensures c.in_err-calls.ensures)
