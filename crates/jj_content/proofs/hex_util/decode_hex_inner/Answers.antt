use Rattle.std.proofs.Common.{refl}
use Rattle.jj_content.proofs.HexCoding.{eqb_differ}
use Rattle.jj_content.proofs.hex_util.decode_hex_inner.Goals as goal

pub returns-then-hex-ne0 : goal.returns-then-hex-ne0
returns-then-hex-ne0 c = rw (eqb_differ _ _ c.if-hex-ne0.true) refl
