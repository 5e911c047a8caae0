use Rattle.std.proofs.Common.{◌≡◌}
use Rattle.jj_core_c.specs.Pieces.{pieces_of}
use Rattle.jj_core_c.proofs.TextMerges.{all_merged}
use Rattle.jj_core_c.proofs.text_merges.merged_contents.Goals as goal

pub returns-clause-merged : goal.returns-clause-merged
returns-clause-merged c = all_merged c.args.words c.args.accept (pieces_of c.args.bytes.now c.args.ends.now) _ c.hunk_level_of.result c.same_change_of.result c.try_merge.result c.hunk_level_of.ensures c.same_change_of.ensures c.in_ok-terms.ensures c.try_merge.ensures.merge c.try_merge.ensures.whole
