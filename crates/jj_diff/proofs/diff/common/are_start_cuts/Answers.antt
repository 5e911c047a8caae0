use Rattle.std.proofs.Common.{refl}
use Rattle.jj_diff.proofs.CommonEnds.{within_at, start_cut_at, start_cut_more}
use Rattle.jj_diff.proofs.diff.common.are_start_cuts.Goals as goal

pub is_cut-requires : goal.is_cut-requires
is_cut-requires g c = within_at c.args.inputs.now c.args.len c.loop-index.index c.loop-index-test.true c.requires

pub returns-then-not-is_cut-clause-no_cuts : goal.returns-then-not-is_cut-clause-no_cuts
returns-then-not-is_cut-clause-no_cuts g c = λ f cuts.
    c.if-not-is_cut.ensures.no_cut f (start_cut_at c.args.inputs.now (g.T.Tokenizer.is_end c.args.tokenizer.now) c.args.len c.loop-index.index c.loop-index-test.true cuts)

pub loop-index-preserved : goal.loop-index-preserved
loop-index-preserved g c =
    start_cut_more c.args.inputs.now (g.T.Tokenizer.is_end c.args.tokenizer.now) c.args.len c.loop-index.index c.loop-index.invariant (c.if-not-is_cut.ensures.cut refl)
