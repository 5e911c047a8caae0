use Rattle.jj_diff.specs.Inputs.{bytes_of}
use Rattle.jj_diff.proofs.CommonEnds.{equal_start_of}
use Rattle.jj_diff.proofs.diff.common.common_start.Goals as goal

pub returns-clause-longest : goal.returns-clause-longest
returns-clause-longest g c = λ n common.
    c.last_start_cut.ensures.longest n
    (c.equal_start-most.ensures.longest n (equal_start_of (g.T.Tokenizer.is_end c.args.tokenizer.now) (bytes_of c.args.inputs.now) n common)) common.cuts
