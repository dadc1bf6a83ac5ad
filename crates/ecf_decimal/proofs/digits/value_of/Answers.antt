use Rattle.std.proofs.Common.{◌≡◌, ◌+◌, ◌-◌, ◌*◌, ◌^◌, ◌<◌, [], get_or, drop, arith, sym, subst, ap, ◌∙◌}
use Rattle.std.specs.Prelude.{SomeIff}
use Rattle.std.proofs.Math.ListN.{drop_of_length-le}
use Rattle.ecf_decimal.specs.Decimal.{number_value}
use Rattle.ecf_decimal.proofs.DigitLaws.{value_from, value_grows, next_digit}
use Rattle.ecf_decimal.proofs.digits.value_of.Goals as goal

pub returns-in_err-checked_mul : goal.returns-in_err-checked_mul
returns-in_err-checked_mul c =
    let digits = c.args.digits.now in
    let i = c.loop-digit.digit-index in
    let v = c.loop-digit.value in
    let total : value_from (10 * v + (get_or digits i 0 - 48)) (drop (i + 1) digits) ≡ number_value digits = sym (next_digit v i digits (omega arith)) ∙ c.loop-digit.invariant.value in
    let more = value_grows (10 * v + (get_or digits i 0 - 48)) (drop (i + 1) digits) in
    let wide = c.in_err-checked_mul.ensures in
    subst (λ r. SomeIff r (number_value digits < 2 ^ 128) (number_value digits)) (sym c.from_residual.ensures) (λ small. wide (omega arith))

pub returns-in_err-value : goal.returns-in_err-value
returns-in_err-value c =
    let digits = c.args.digits.now in
    let i = c.loop-digit.digit-index in
    let v = c.loop-digit.value in
    let total : value_from (10 * v + (get_or digits i 0 - 48)) (drop (i + 1) digits) ≡ number_value digits = sym (next_digit v i digits (omega arith)) ∙ c.loop-digit.invariant.value in
    let more = value_grows (10 * v + (get_or digits i 0 - 48)) (drop (i + 1) digits) in
    let tens = c.in_ok-checked_mul.ensures in
    let digit = c.from.ensures in
    let wide = c.in_err-value.ensures in
    subst (λ r. SomeIff r (number_value digits < 2 ^ 128) (number_value digits)) (sym c.from_residual-in_err-value.ensures) (λ small. wide (omega arith))

pub returns : goal.returns
returns c =
    let digits = c.args.digits.now in
    let i = c.loop-digit.digit-index in
    let end : drop i digits ≡ [] = drop_of_length-le digits (omega arith) in
    let is : c.loop-digit.value ≡ number_value digits = sym (ap (value_from c.loop-digit.value) end) ∙ c.loop-digit.invariant.value in
    let fits = c.loop-digit.invariant.fits in
    (omega arith, is)
