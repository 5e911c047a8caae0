use Rattle.jj_globs.proofs.PrefixMatches.{decides_whole}
use Rattle.jj_globs.proofs.glob.pattern.Glob.is_match.Goals as goal

pub returns : goal.returns
returns c = decides_whole c.self.invariant c.args.self.now c.self.view_is c.as_slice.result.now c.as_slice.ensures.value c.args.bytes.now c.nfa_accepts_whole.result c.nfa_accepts_whole.ensures
