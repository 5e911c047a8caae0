use Rattle.std.proofs.Common.{ap, arith, length}
use Rattle.jj_content.proofs.HexCoding.{length-encode_with}
use Rattle.jj_core_c.specs.HexResults.{alphabet}
use Rattle.jj_core_c.proofs.hex.encode.Goals as goal

pub write_bytes-requires : goal.write_bytes-requires
write_bytes-requires c =
    let size = length-encode_with (alphabet c.args.reverse) c.args.bytes.now in
    omega (arith, size, ap length c.as_bytes.ensures.value, ap length c.in-Ok.ensures)
