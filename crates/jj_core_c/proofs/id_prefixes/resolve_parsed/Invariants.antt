-- The ids before the index are resolved.
use Rattle.std.proofs.Common.{◌≡◌, ◌<◌, nat_eq, take}
use Rattle.std.specs.List.{starts_with}
use Rattle.jj_content.specs.Hex.{hex, reverse_hex}
use Rattle.jj_ids.specs.HexPrefixes.{to_reverse_hex}
use Rattle.jj_ids.specs.Resolution.{IfSingleMatch}
use Rattle.jj_core_c.specs.IdPrefixes.{resolution}
use Rattle.jj_core_c.specs.Pieces.{pieces_of}
use Rattle.jj_core_c.proofs.id_prefixes.resolve_parsed.Given as goal

abbrev pub invariant-loop-index : goal.invariant-loop-index
invariant-loop-index l = record {
  hex : l.found ≡ resolution (λ id. starts_with nat_eq (hex id) l.prefix) (take l.index (pieces_of l.ids l.ends));
  reverse_hex : l.found ≡ resolution (λ id. starts_with nat_eq (reverse_hex id) (to_reverse_hex l.prefix)) (take l.index (pieces_of l.ids l.ends));
  below : IfSingleMatch l.found (λ index. index < l.index);
}
