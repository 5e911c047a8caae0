use Rattle.std.proofs.Common.{string_bytes, string_eq}
use Rattle.jj_merges_tests.proofs.ThreeStrings.{merged}
use Rattle.jj_merges_tests.proofs.callers.merge_strings.Goals as goal

pub returns : goal.returns
returns c =
    merged c.args.base.now c.args.ours.now c.args.theirs.now c.three_way.result c.three_way.ensures.resolved c.three_way.ensures.conflict
