use Rattle.std.proofs.Common.{refl}
use Rattle.jj_diff.specs.Inputs.{bytes_of}
use Rattle.jj_diff.proofs.CommonEnds.{end_cut_before}
use Rattle.jj_diff.proofs.diff.common.first_end_cut.Goals as goal

pub loop-back-preserved : goal.loop-back-preserved
loop-back-preserved g c = λ n le cuts.
    end_cut_before (g.T.Tokenizer.is_end c.args.tokenizer.now) (bytes_of c.args.inputs.now) c.args.most c.loop-back.back n c.loop-back-test.true
    (c.if-are_end_cuts.ensures.no_cuts refl) (c.loop-back.invariant n le cuts) cuts
