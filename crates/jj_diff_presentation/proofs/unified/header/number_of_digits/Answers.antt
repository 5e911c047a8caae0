use Rattle.std.proofs.Common.{arith}
use Rattle.jj_diff_presentation.specs.Applying.{digits_after}
use Rattle.jj_diff_presentation.proofs.Numbers.{digit_read, digits_read, digit_small, digits_fit}
use Rattle.jj_diff_presentation.proofs.unified.header.number_of_digits.Goals as goal

pub loop-digit-preserved : goal.loop-digit-preserved
loop-digit-preserved c =
    let r = digit_read c.args.digits.now c.loop-digit.digit-index c.loop-digit.value
    (digits_after 0 c.args.digits.now) c.requires.digits c.loop-digit-test.true
    c.loop-digit.invariant.value c.loop-digit.invariant.bounded in
    record { value = r.0; bounded = r.1 }

pub returns : goal.returns
returns c =
    digits_read c.args.digits.now c.loop-digit.digit-index c.loop-digit.value
    (digits_after 0 c.args.digits.now) c.loop-digit-test.false c.loop-digit.invariant.value

pub overflow_mul-value : goal.overflow_mul-value
overflow_mul-value c =
    omega (
      arith,
      digits_fit c.loop-digit.value c.loop-digit.digit-index
          c.loop-digit.invariant.bounded (omega arith),
    )

pub overflow_add-value : goal.overflow_add-value
overflow_add-value c =
    omega (
      arith,
      digits_fit c.loop-digit.value c.loop-digit.digit-index
          c.loop-digit.invariant.bounded (omega arith),
      digit_small c.args.digits.now c.loop-digit.digit-index c.requires.digits (omega arith),
    )
