use Rattle.std.proofs.Common.{refl}
use Rattle.ecf_faults.specs.Forms.{report_number, report_flag, report_here, report_name, report_at, report_call, report_not, report_product, report_sum, report_compare, report_and, report_or, report_external, report_internal, passage_let, passage_try, passage_set, passage_set_at, passage_while, passage_return, passage_revert, passage_do, passage_if, passage_rolled}
use Rattle.ecf_faults_cases.proofs.declared.Goals as goal

ruleset forms = (report_number, report_flag, report_here, report_name, report_at, report_call, report_not, report_product, report_sum, report_compare, report_and, report_or, report_external, report_internal, passage_let, passage_try, passage_set, passage_set_at, passage_while, passage_return, passage_revert, passage_do, passage_if, passage_rolled)

pub returns-clause-repeated : goal.returns-clause-repeated
returns-clause-repeated c = record {
  objects = refl;
  fields = simp forms;
  methods = simp forms;
  parameters = simp forms;
}

pub returns-clause-signatures : goal.returns-clause-signatures
returns-clause-signatures c = record {
  same = simp forms;
  other_answer = simp forms;
  other_parameter = simp forms;
  fewer = simp forms;
  more = simp forms;
}

pub returns-clause-keys : goal.returns-clause-keys
returns-clause-keys c = record {
  numbers = refl;
  flags = refl;
  of_other_types = refl;
  objects = refl;
}

pub returns-clause-initial : goal.returns-clause-initial
returns-clause-initial c = record {
  fields = refl;
  maps = refl;
}
