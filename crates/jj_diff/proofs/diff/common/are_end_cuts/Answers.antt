use Rattle.std.proofs.Common.{refl, arith}
use Rattle.jj_diff.proofs.CommonEnds.{within_at, end_cut_at, end_cut_more}
use Rattle.jj_diff.proofs.Rows.{length-bytes_of}
use Rattle.jj_diff.proofs.diff.common.are_end_cuts.Goals as goal

pub overflow_sub-inputs : goal.overflow_sub-inputs
overflow_sub-inputs g c = within_at c.args.inputs.now c.args.len c.loop-index.index c.loop-index-test.true c.requires

pub returns-then-not-is_cut-clause-no_cuts : goal.returns-then-not-is_cut-clause-no_cuts
returns-then-not-is_cut-clause-no_cuts g c = λ f cuts.
    c.if-not-is_cut.ensures.no_cut f (end_cut_at c.args.inputs.now (g.T.Tokenizer.is_end c.args.tokenizer.now) c.args.len c.loop-index.index c.loop-index-test.true cuts)

pub loop-index-preserved : goal.loop-index-preserved
loop-index-preserved g c =
    end_cut_more c.args.inputs.now (g.T.Tokenizer.is_end c.args.tokenizer.now) c.args.len c.loop-index.index c.loop-index.invariant (c.if-not-is_cut.ensures.cut refl)

pub returns-clause-cuts : goal.returns-clause-cuts
returns-clause-cuts g c = λ t i lt. c.loop-index.invariant i (omega (arith, length-bytes_of c.args.inputs.now))
