use Rattle.std.proofs.Common.{take}
use Rattle.jj_content.specs.Hex.{hex, reverse_hex}
use Rattle.jj_ids.specs.HexPrefixes.{to_reverse_hex}
use Rattle.jj_ids_tests.specs.Lookups.{IsLookupResult}
use Rattle.jj_ids_tests.proofs.callers.lookup.resolve_prefix.Given as goal

abbrev pub invariant-loop-id : goal.invariant-loop-id
invariant-loop-id g l =
    IsLookupResult hex (take l.id-index l.ids) l.prefix l.found
    × IsLookupResult reverse_hex (take l.id-index l.ids) (to_reverse_hex l.prefix) l.found
