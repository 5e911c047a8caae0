use Rattle.std.proofs.Common.{refl}
use Rattle.jj_content.specs.Hex.{reverse_hex_digits}
use Rattle.jj_content.proofs.HexTables.{digit_found, digit_missed}
use Rattle.jj_content.proofs.hex_util.reverse_hex_value.Goals as goal

pub returns-then-value-lt16 : goal.returns-then-value-lt16
returns-then-value-lt16 c = digit_found reverse_hex_digits refl c.ranges.b.fits c.if-value-lt16.true

pub returns-else-value-lt16 : goal.returns-else-value-lt16
returns-else-value-lt16 c = digit_missed reverse_hex_digits refl refl c.ranges.b.fits c.if-value-lt16.false
