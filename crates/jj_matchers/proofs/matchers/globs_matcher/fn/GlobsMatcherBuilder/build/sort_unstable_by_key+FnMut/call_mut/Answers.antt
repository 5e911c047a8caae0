use Rattle.std.proofs.Common.{rules}
use Rattle.jj_matchers.proofs.matchers.globs_matcher.fn.GlobsMatcherBuilder.build.sort_unstable_by_key+FnMut.call_mut.Goals as goal

pub sort_unstable_by_key-requires : goal.sort_unstable_by_key-requires
sort_unstable_by_key-requires c = search rules

pub returns : goal.returns
returns c = search rules
