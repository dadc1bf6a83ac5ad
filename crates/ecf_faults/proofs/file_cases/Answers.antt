use Rattle.ecf_faults.specs.Forms.{report_number, report_flag, report_here, report_name, report_at, report_call, report_not, report_product, report_sum, report_compare, report_and, report_or, report_external, report_internal, passage_let, passage_try, passage_set, passage_set_at, passage_while, passage_return, passage_revert, passage_do, passage_if, passage_rolled}
use Rattle.ecf_faults.proofs.file_cases.Goals as goal

pub returns-clause-one_object : goal.returns-clause-one_object
returns-clause-one_object c = simp (report_number, report_flag, report_here, report_name, report_at, report_call, report_compare, report_and, report_external, report_internal, passage_try, passage_set, passage_set_at, passage_return, passage_do, passage_rolled)

pub returns-clause-two_objects : goal.returns-clause-two_objects
returns-clause-two_objects c = simp (report_number, report_flag, report_here, report_name, report_at, report_call, report_not, report_product, report_sum, report_compare, report_external, report_internal, passage_let, passage_set, passage_while, passage_return, passage_revert, passage_do, passage_if, passage_rolled)
