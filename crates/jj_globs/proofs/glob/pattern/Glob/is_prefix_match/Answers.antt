use Rattle.jj_globs.proofs.PrefixMatches.{decides_below}
use Rattle.jj_globs.proofs.glob.pattern.Glob.is_prefix_match.Goals as goal

pub returns : goal.returns
returns c = decides_below c.self.invariant c.args.self.now c.self.view_is c.as_slice.result.now c.as_slice.ensures.value c.args.bytes.now c.nfa_accepts.result c.nfa_accepts.ensures
