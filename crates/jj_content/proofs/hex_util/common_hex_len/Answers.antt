use Rattle.std.proofs.Common.{sym, arith}
use Rattle.jj_content.proofs.HexCoding.{are_hex_digits, common_prefix_len-low, common_prefix_len-high, common_prefix_len-all}
use Rattle.jj_content.proofs.hex_util.common_hex_len.Goals as goal

pub returns-then-a-b-2 : goal.returns-then-a-b-2
returns-then-a-b-2 c = sym (
    common_prefix_len-low _ _ _ _ are_hex_digits (omega arith) (omega arith) (omega (arith, c.type_inv.bytes_a c.loop-i.i)) (omega (arith, c.type_inv.bytes_b c.loop-i.i))
    c.loop-i.invariant c.if-a-b.true c.if-a-b-2.true)

pub returns-else-a-b-2 : goal.returns-else-a-b-2
returns-else-a-b-2 c = sym (
    common_prefix_len-high _ _ _ _ are_hex_digits (omega arith) (omega arith) (omega (arith, c.type_inv.bytes_a c.loop-i.i)) (omega (arith, c.type_inv.bytes_b c.loop-i.i))
    c.loop-i.invariant c.if-a-b-2.false)

pub returns : goal.returns
returns c = sym (common_prefix_len-all _ _ _ _ c.min-shared.ensures (λ k h. c.loop-i.invariant k (omega arith)))
