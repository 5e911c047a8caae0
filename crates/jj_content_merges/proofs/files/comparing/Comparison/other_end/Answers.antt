use Rattle.std.proofs.Common.{◌+◌, ◌≤◌, ◌∙◌, ap, arith, length, subst, sym}
use Rattle.jj_content_merges.proofs.Comparing.{part_end, part_within}
use Rattle.jj_content_merges.proofs.files.comparing.Comparison.other_end.Goals as goal

pub offset_after-requires : goal.offset_after-requires
offset_after-requires c =
    subst (λ a. a + length c.index-2.result.now.now ≤ length c.args.self.now.inputs.1.now) (sym c.requires.at.other_start)
    (part_within c.args.self.now.inputs.0.now c.args.self.now.inputs.1.now c.args.self.now.hunks.items c.args.self.now.index
    c.args.self.now.base c.args.self.now.other c.requires.at c.requires.index c.index.result.now c.index.ensures
    1 (omega arith) c.index-2.result.now c.index-2.ensures)

pub returns : goal.returns
returns c =
    c.offset_after.ensures ∙ ap (λ a. a + length c.index-2.result.now.now) c.requires.at.other_start
    ∙ part_end c.args.self.now.inputs.0.now c.args.self.now.inputs.1.now c.args.self.now.hunks.items c.args.self.now.index
    c.args.self.now.base c.args.self.now.other c.requires.at c.requires.index c.index.result.now c.index.ensures
    1 (omega arith) c.index-2.result.now c.index-2.ensures
