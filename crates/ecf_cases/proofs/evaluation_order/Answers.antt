use Rattle.ecf_cases.specs.Computation.{run_is, contracts, Objects}
use Rattle.ecf_cases.specs.EvaluationOrder.{ask, compare_both, evaluation_order, get, put, IndexFirst, LeftFirst, LeftSideFirst, TargetFirst}
use Rattle.ecf_lang.specs.Genesis.{genesis}
use Rattle.ecf_lang.specs.Part.{pay, read_cell, write_cell, attempt_of}
use Rattle.ecf_cases.proofs.evaluation_order.Goals as goal

built : Objects evaluation_order.objects
built = search contracts depth 40 fits 4000

index_before_value : IndexFirst
unfolding built pay read_cell write_cell attempt_of
index_before_value = run_is evaluation_order built (genesis evaluation_order) put

left_before_right : LeftFirst
unfolding built pay read_cell write_cell attempt_of
left_before_right = run_is evaluation_order built (genesis evaluation_order) get

left_side_before_right_side : LeftSideFirst
unfolding built pay read_cell write_cell attempt_of
left_side_before_right_side = run_is evaluation_order built (genesis evaluation_order) compare_both

target_before_arguments : TargetFirst
unfolding built pay read_cell write_cell attempt_of
target_before_arguments = run_is evaluation_order built (genesis evaluation_order) ask

pub returns : goal.returns
returns c = record {
  index_before_value = index_before_value;
  left_before_right = left_before_right;
  left_side_before_right_side = left_side_before_right_side;
  target_before_arguments = target_before_arguments;
}
