use Rattle.std.proofs.Common.{arith}
use Rattle.jj_content_merges.proofs.Comparing.{matched_within}
use Rattle.jj_content_merges.proofs.files.comparing.Comparison.other_at.Goals as goal

pub offset_after-requires : goal.offset_after-requires
offset_after-requires c =
    omega (
      arith,
      c.requires.at.base_start,
      c.requires.at.other_start,
      matched_within c.args.self.now.inputs.0.now c.args.self.now.inputs.1.now c.args.self.now.hunks.items c.args.self.now.index
          c.args.self.now.base c.args.self.now.other c.requires.at c.requires.index c.requires.matching c.args.offset c.requires.start c.requires.end,
    )
