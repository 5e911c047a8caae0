use Rattle.std.proofs.Common.{arith}
use Rattle.jj_ids.proofs.HexPrefixDigits.{starts-reversed}
use Rattle.jj_ids.proofs.object_id.hex_prefix.matches_prefix.Goals as goal

pub returns-clause-reverse_hex : goal.returns-clause-reverse_hex
returns-clause-reverse_hex c = starts-reversed c.args.id_bytes.now c.args.bytes.now c.args.has_odd_byte c.matches_digits.result (λ i. omega (arith, c.type_inv.id_bytes i)) c.requires c.matches_digits.ensures
