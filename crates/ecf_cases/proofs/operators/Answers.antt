use Rattle.std.proofs.Common.{refl}
use Rattle.ecf_cases.specs.Operators.{AtGreater, AtSmaller, AtEqual, AtZero, AtZeroLeft}
use Rattle.ecf_cases.proofs.operators.Goals as goal

at_greater : AtGreater
at_greater = refl

at_smaller : AtSmaller
at_smaller = refl

at_equal : AtEqual
at_equal = refl

at_zero_right : AtZero
at_zero_right = refl

at_zero_left : AtZeroLeft
at_zero_left = refl

pub returns : goal.returns
returns c = record {
  at_greater = at_greater;
  at_smaller = at_smaller;
  at_equal = at_equal;
  at_zero_right = at_zero_right;
  at_zero_left = at_zero_left;
}
