use Rattle.ecf_cases.specs.Charges.{ask, charges, with_one_more, AndCharge, ArgumentsBeforeCallCharge, ArgumentsBeforeInternalCharge, ArgumentsBeforeTryCharge, ChargedBeforeDo, ChargedBeforeIf, ChargedBeforeLet, ChargedBeforeReturn, ChargedBeforeRevert, ChargedBeforeSet, ChargedBeforeSetLocal, ChargedBeforeSetMap, ChargedBeforeTry, ChargedBeforeWhile, ConditionBeforeTurn, IndexAndValueFirst, IndexBeforeReadCharge, InnerBeforeNot, InternalTestCharge, MapReadCharge, MapWriteCharge, OperatorCharge, OrCharge, PaidTest, PartsBeforeProduct, PartsBeforeSum, SidesBeforeComparison, TestCharge, TryTestCharge, ValueBeforeWriteCharge, WriteCharge}
use Rattle.ecf_cases.specs.Computation.{run_is, contracts, Objects}
use Rattle.ecf_lang.specs.Genesis.{genesis}
use Rattle.ecf_lang.specs.Part.{pay, read_cell, write_cell, attempt_of}
use Rattle.ecf_cases.proofs.charges.Goals as goal

built : Objects charges.objects
built = search contracts depth 60 fits 8000

before_let : ChargedBeforeLet
unfolding built pay read_cell write_cell attempt_of
before_let = run_is charges built (genesis charges) (ask 0 3)

before_assignment : ChargedBeforeSet
unfolding built pay read_cell write_cell attempt_of
before_assignment = run_is charges built (genesis charges) (ask 2 3)

before_map_assignment : ChargedBeforeSetMap
unfolding built pay read_cell write_cell attempt_of
before_map_assignment = run_is charges built (genesis charges) (ask 3 3)

before_if : ChargedBeforeIf
unfolding built pay read_cell write_cell attempt_of
before_if = run_is charges built (genesis charges) (ask 4 3)

before_while : ChargedBeforeWhile
unfolding built pay read_cell write_cell attempt_of
before_while = run_is charges built (genesis charges) (ask 5 3)

before_return : ChargedBeforeReturn
unfolding built pay read_cell write_cell attempt_of
before_return = run_is charges built (genesis charges) (ask 6 3)

before_revert : ChargedBeforeRevert
unfolding built pay read_cell write_cell attempt_of
before_revert = run_is charges built (genesis charges) (ask 7 3)

before_call_statement : ChargedBeforeDo
unfolding built pay read_cell write_cell attempt_of
before_call_statement = run_is charges built (genesis charges) (ask 8 3)

before_try : ChargedBeforeTry
unfolding built pay read_cell write_cell attempt_of
before_try = run_is charges built (genesis charges) (ask 10 3)

before_local_assignment : ChargedBeforeSetLocal
unfolding built pay read_cell write_cell attempt_of
before_local_assignment = run_is charges built (genesis charges) (ask 1 5)

value_before_charge_of_write : ValueBeforeWriteCharge
unfolding built pay read_cell write_cell attempt_of
value_before_charge_of_write = run_is charges built (genesis charges) (ask 2 4)

write_charge : WriteCharge
unfolding built pay read_cell write_cell attempt_of
write_charge = run_is charges built (genesis charges) (ask 2 7)

index_and_value_before_charge : IndexAndValueFirst
unfolding built pay read_cell write_cell attempt_of
index_and_value_before_charge = run_is charges built (genesis charges) (ask 3 7)

map_write_charge : MapWriteCharge
unfolding built pay read_cell write_cell attempt_of
map_write_charge = run_is charges built (genesis charges) (ask 3 10)

condition_before_turn : ConditionBeforeTurn
unfolding built pay read_cell write_cell attempt_of
condition_before_turn = run_is charges built (genesis charges) (ask 5 4)

index_before_charge_of_read : IndexBeforeReadCharge
unfolding built pay read_cell write_cell attempt_of
index_before_charge_of_read = run_is charges built (genesis charges) (ask 11 4)

map_read_charge : MapReadCharge
unfolding built pay read_cell write_cell attempt_of
map_read_charge = run_is charges built (genesis charges) (ask 11 6)

parts_before_charge_of_sum : PartsBeforeSum
unfolding built pay read_cell write_cell attempt_of
parts_before_charge_of_sum = run_is charges built (genesis charges) (ask 12 7)

parts_before_charge_of_product : PartsBeforeProduct
unfolding built pay read_cell write_cell attempt_of
parts_before_charge_of_product = run_is charges built (genesis charges) (ask 13 7)

sides_before_charge_of_comparison : SidesBeforeComparison
unfolding built pay read_cell write_cell attempt_of
sides_before_charge_of_comparison = run_is charges built (genesis charges) (ask 14 7)

inner_before_charge_of_not : InnerBeforeNot
unfolding built pay read_cell write_cell attempt_of
inner_before_charge_of_not = run_is charges built (genesis charges) (ask 15 4)

and_charge : AndCharge
unfolding built pay read_cell write_cell attempt_of
and_charge = run_is charges built (genesis charges) (ask 16 6)

or_charge : OrCharge
unfolding built pay read_cell write_cell attempt_of
or_charge = run_is charges built (genesis charges) (ask 17 7)

arguments_before_charge_of_internal_call : ArgumentsBeforeInternalCharge
unfolding built pay read_cell write_cell attempt_of
arguments_before_charge_of_internal_call = run_is charges built (genesis charges) (ask 18 6)

arguments_before_charge_of_call : ArgumentsBeforeCallCharge
unfolding built pay read_cell write_cell attempt_of
arguments_before_charge_of_call = run_is charges built (genesis charges) (ask 9 14)

arguments_before_charge_of_try : ArgumentsBeforeTryCharge
unfolding built pay read_cell write_cell attempt_of
arguments_before_charge_of_try = run_is charges built (genesis charges) (ask 10 14)

operator_charge : OperatorCharge
unfolding built pay read_cell write_cell attempt_of
operator_charge = run_is charges built (genesis charges) (ask 19 3)

internal_test_charge : InternalTestCharge
unfolding built pay read_cell write_cell attempt_of
internal_test_charge = run_is charges built (genesis charges) (ask 20 4)

test_charge : TestCharge
unfolding built pay read_cell write_cell attempt_of
test_charge = run_is charges built (genesis charges) (ask 21 12)

try_test_charge : TryTestCharge
unfolding built pay read_cell write_cell attempt_of
try_test_charge = run_is charges built (genesis charges) (ask 22 12)

tests_once_paid : PaidTest
unfolding built pay read_cell write_cell attempt_of
tests_once_paid = run_is charges built (genesis charges) with_one_more

pub returns : goal.returns
returns c = record {
  before_let = before_let;
  before_assignment = before_assignment;
  before_map_assignment = before_map_assignment;
  before_if = before_if;
  before_while = before_while;
  before_return = before_return;
  before_revert = before_revert;
  before_call_statement = before_call_statement;
  before_try = before_try;
  before_local_assignment = before_local_assignment;
  value_before_charge_of_write = value_before_charge_of_write;
  write_charge = write_charge;
  index_and_value_before_charge = index_and_value_before_charge;
  map_write_charge = map_write_charge;
  condition_before_turn = condition_before_turn;
  index_before_charge_of_read = index_before_charge_of_read;
  map_read_charge = map_read_charge;
  parts_before_charge_of_sum = parts_before_charge_of_sum;
  parts_before_charge_of_product = parts_before_charge_of_product;
  sides_before_charge_of_comparison = sides_before_charge_of_comparison;
  inner_before_charge_of_not = inner_before_charge_of_not;
  and_charge = and_charge;
  or_charge = or_charge;
  arguments_before_charge_of_internal_call = arguments_before_charge_of_internal_call;
  arguments_before_charge_of_call = arguments_before_charge_of_call;
  arguments_before_charge_of_try = arguments_before_charge_of_try;
  operator_charge = operator_charge;
  internal_test_charge = internal_test_charge;
  test_charge = test_charge;
  try_test_charge = try_test_charge;
  tests_once_paid = tests_once_paid;
}
