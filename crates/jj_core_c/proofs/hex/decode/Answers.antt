use Rattle.std.proofs.Common.{ap, arith, length}
use Rattle.jj_content.proofs.HexCoding.{DecodesTo-length}
use Rattle.jj_core_c.specs.HexResults.{alphabet}
use Rattle.jj_core_c.proofs.hex.decode.Goals as goal

pub write_bytes-requires : goal.write_bytes-requires
write_bytes-requires c =
    let decoding = rw c.in-Ok-Some.field-0-is at c.in-Ok-Some.ensures in
    let size = DecodesTo-length (alphabet c.args.reverse) c.args.text.now c.in-Ok-Some.items.items decoding.1 in
    omega (arith, size, ap length c.deref.ensures.value)
