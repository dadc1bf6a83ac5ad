use Rattle.ecf_faults.specs.Forms.{report_here, passage_set, passage_set_at, report_number, report_name, report_sum, report_flag, report_call, report_internal, passage_let, passage_return, passage_while, passage_rolled}
use Rattle.ecf_faults.proofs.small_cases.Goals as goal

pub returns-clause-unknown_name : goal.returns-clause-unknown_name
returns-clause-unknown_name c = simp (passage_rolled, passage_return, report_name)

pub returns-clause-two_locals : goal.returns-clause-two_locals
returns-clause-two_locals c = simp (passage_rolled, passage_let, report_name, report_number)

pub returns-clause-wrong_type : goal.returns-clause-wrong_type
returns-clause-wrong_type c = simp (passage_rolled, passage_return, report_sum, report_name, report_flag)

pub returns-clause-wrong_arity : goal.returns-clause-wrong_arity
returns-clause-wrong_arity c = simp (passage_rolled, passage_return, report_call, report_internal, report_name)

pub returns-clause-sound : goal.returns-clause-sound
returns-clause-sound c = (simp (passage_rolled, passage_let, passage_return, passage_while, report_name, report_flag), simp (passage_rolled, passage_let, passage_return, passage_while, report_name, report_flag))

pub returns-clause-one_name : goal.returns-clause-one_name
returns-clause-one_name c = simp (passage_rolled, passage_let, passage_set, passage_set_at, passage_return, report_name, report_number, report_here)

pub returns-clause-first_signature : goal.returns-clause-first_signature
returns-clause-first_signature c = simp (passage_rolled, passage_return, report_call, report_internal, report_number, report_name)
