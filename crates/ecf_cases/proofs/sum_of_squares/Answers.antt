use Rattle.std.proofs.Common.{[]}
use Rattle.ecf_cases.specs.Computation.{run_is, contracts, Objects}
use Rattle.ecf_cases.specs.SumOfSquares.{sum_of_none, sum_of_squares, sum_of_three, NoTurn, SumsSquares}
use Rattle.ecf_lang.specs.Part.{pay, read_cell, write_cell, attempt_of}
use Rattle.ecf_cases.proofs.sum_of_squares.Goals as goal

built : Objects sum_of_squares.objects
built = search contracts depth 40 fits 4000

sums_squares : SumsSquares
unfolding built pay read_cell write_cell attempt_of
sums_squares = run_is sum_of_squares built [] sum_of_three

no_turn : NoTurn
unfolding built pay read_cell write_cell attempt_of
no_turn = run_is sum_of_squares built [] sum_of_none

pub returns : goal.returns
returns c = record { sums_squares = sums_squares; no_turn = no_turn }
