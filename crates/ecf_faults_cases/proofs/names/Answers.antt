use Rattle.ecf_faults.specs.Forms.{report_number, report_flag, report_here, report_name, report_at, report_call, report_not, report_product, report_sum, report_compare, report_and, report_or, report_external, report_internal, passage_let, passage_try, passage_set, passage_set_at, passage_while, passage_return, passage_revert, passage_do, passage_if, passage_rolled}
use Rattle.ecf_faults_cases.proofs.names.Goals as goal

ruleset forms = (report_number, report_flag, report_here, report_name, report_at, report_call, report_not, report_product, report_sum, report_compare, report_and, report_or, report_external, report_internal, passage_let, passage_try, passage_set, passage_set_at, passage_while, passage_return, passage_revert, passage_do, passage_if, passage_rolled)

pub returns-clause-unknown : goal.returns-clause-unknown
returns-clause-unknown c = record {
  in_expression = simp forms;
  with_index = simp forms;
  assigned = simp forms;
  assigned_with_index = simp forms;
}

pub returns-clause-misused : goal.returns-clause-misused
returns-clause-misused c = record {
  map = simp forms;
  map_assigned = simp forms;
  field = simp forms;
  field_assigned = simp forms;
  object_assigned = simp forms;
}

pub returns-clause-methods : goal.returns-clause-methods
returns-clause-methods c = record {
  own = simp forms;
  any = simp forms;
}

pub returns-clause-arities : goal.returns-clause-arities
returns-clause-arities c = record {
  own = simp forms;
  other = simp forms;
}

pub returns-clause-visible : goal.returns-clause-visible
returns-clause-visible c = record {
  not_in_its_own_let = simp forms;
  not_behind_its_block = simp forms;
  not_in_other_arms = simp forms;
  in_blocks_behind = simp forms;
  first_counts = simp forms;
  again_in_another_block = simp forms;
  before_fields = simp forms;
  no_map = simp forms;
}
