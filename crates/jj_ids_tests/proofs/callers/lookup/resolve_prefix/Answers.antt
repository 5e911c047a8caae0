use Rattle.std.proofs.Common.{take, arith}
use Rattle.jj_content.specs.Hex.{hex, reverse_hex}
use Rattle.jj_ids.specs.HexPrefixes.{to_reverse_hex}
use Rattle.jj_ids_tests.proofs.Matches.{next_id, all_ids}
use Rattle.jj_ids_tests.proofs.callers.lookup.resolve_prefix.Goals as goal

pub loop-id-preserved : goal.loop-id-preserved
loop-id-preserved g c =
    let so_far = take c.loop-id.id-index c.args.ids.now in (
      next_id hex c.args.ids.now c.loop-id.id-index c.id-item.result c.args.prefix.now c.add_id-found.result (omega arith) c.id-item.is
          (c.add_id-found.ensures.hex so_far c.loop-id.invariant.0),
      next_id reverse_hex c.args.ids.now c.loop-id.id-index c.id-item.result (to_reverse_hex c.args.prefix.now) c.add_id-found.result (omega arith) c.id-item.is
          (c.add_id-found.ensures.reverse_hex so_far c.loop-id.invariant.1),
    )

pub returns-clause-hex : goal.returns-clause-hex
returns-clause-hex g c = all_ids hex c.args.ids.now c.loop-id.id-index c.args.prefix.now c.loop-id.found (omega arith) c.loop-id.invariant.0

pub returns-clause-reverse_hex : goal.returns-clause-reverse_hex
returns-clause-reverse_hex g c =
    all_ids reverse_hex c.args.ids.now c.loop-id.id-index (to_reverse_hex c.args.prefix.now) c.loop-id.found (omega arith) c.loop-id.invariant.1
