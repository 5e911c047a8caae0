use Rattle.std.proofs.Common.{◌*◌, take}
use Rattle.jj_content.specs.Hex.{DecodesTo}
use Rattle.jj_content.specs.HexDigits.{digits_of}
use Rattle.jj_content.proofs.hex_util.decode_hex_prefix_inner.Given as goal

abbrev pub invariant-loop-pair : goal.invariant-loop-pair
invariant-loop-pair l = DecodesTo (digits_of l.digits) (take (2 * l.pair-index) l.hex) l.decoded.items
