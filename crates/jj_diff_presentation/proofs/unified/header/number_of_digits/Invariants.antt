use Rattle.std.proofs.Common.{◌≡◌, ◌^◌, ◌<◌, drop}
use Rattle.jj_diff_presentation.specs.Applying.{digits_after}
use Rattle.jj_diff_presentation.proofs.unified.header.number_of_digits.Given as goal

abbrev pub invariant-loop-digit : goal.invariant-loop-digit
invariant-loop-digit l = record {
  value : digits_after l.value (drop l.digit-index l.digits) ≡ digits_after 0 l.digits;
  bounded : l.value < 10 ^ l.digit-index;
}
