use Rattle.ecf_faults.specs.Forms.{report_number, report_flag, report_here, report_name, report_at, report_call, report_not, report_product, report_sum, report_compare, report_and, report_or, report_external, report_internal, passage_let, passage_try, passage_set, passage_set_at, passage_while, passage_return, passage_revert, passage_do, passage_if, passage_rolled}
use Rattle.ecf_faults_cases.proofs.types.Goals as goal

ruleset forms = (report_number, report_flag, report_here, report_name, report_at, report_call, report_not, report_product, report_sum, report_compare, report_and, report_or, report_external, report_internal, passage_let, passage_try, passage_set, passage_set_at, passage_while, passage_return, passage_revert, passage_do, passage_if, passage_rolled)

pub returns-clause-operands : goal.returns-clause-operands
returns-clause-operands c = record {
  product = simp forms;
  sum = simp forms;
  order = simp forms;
  equality = simp forms;
  equal_flags = simp forms;
  and = simp forms;
  or = simp forms;
  not = simp forms;
}

pub returns-clause-parts : goal.returns-clause-parts
returns-clause-parts c = record {
  index = simp forms;
  target = simp forms;
  argument = simp forms;
  inner_argument = simp forms;
}

pub returns-clause-values : goal.returns-clause-values
returns-clause-values c = record {
  let_ = simp forms;
  try_ = simp forms;
  tried = simp forms;
  local = simp forms;
  field = simp forms;
  map = simp forms;
  arms = simp forms;
  while = simp forms;
  return_ = simp forms;
  revert = simp forms;
}
