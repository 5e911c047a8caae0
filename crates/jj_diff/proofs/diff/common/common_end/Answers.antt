use Rattle.std.proofs.Common.{arith}
use Rattle.jj_diff.specs.Inputs.{bytes_of}
use Rattle.jj_diff.proofs.Rows.{length-bytes_of}
use Rattle.jj_diff.proofs.CommonEnds.{common_end_of, equal_end_of}
use Rattle.jj_diff.proofs.diff.common.common_end.Goals as goal

pub returns-clause-common : goal.returns-clause-common
returns-clause-common g c =
    common_end_of (g.T.Tokenizer.is_end c.args.tokenizer.now) (bytes_of c.args.inputs.now) c.args.start c.equal_end-most.result c.first_end_cut.result
    (omega (arith, length-bytes_of c.args.inputs.now, c.requires.some)) c.equal_end-most.ensures.equal c.first_end_cut.ensures.most
    c.first_end_cut.ensures.cuts

pub returns-clause-longest : goal.returns-clause-longest
returns-clause-longest g c = λ n common.
    c.first_end_cut.ensures.longest n
    (c.equal_end-most.ensures.longest n (equal_end_of (g.T.Tokenizer.is_end c.args.tokenizer.now) (bytes_of c.args.inputs.now) c.args.start n common)) common.cuts
