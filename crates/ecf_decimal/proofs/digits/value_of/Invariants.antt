use Rattle.std.proofs.Common.{◌≡◌, ◌^◌, ◌<◌, drop, true}
use Rattle.std.specs.List.{list_all}
use Rattle.std.specs.Char.{is_ascii_digit}
use Rattle.ecf_decimal.specs.Decimal.{number_value}
use Rattle.ecf_decimal.proofs.DigitLaws.{value_from}
use Rattle.ecf_decimal.proofs.digits.value_of.Given as goal

-- the digits that are left go on from the value so far
abbrev pub invariant-loop-digit : goal.invariant-loop-digit
invariant-loop-digit l = record {
  value : value_from l.value (drop l.digit-index l.digits) ≡ number_value l.digits;
  digits : list_all is_ascii_digit (drop l.digit-index l.digits) ≡ true;
  fits : l.value < 2 ^ 128;
}
