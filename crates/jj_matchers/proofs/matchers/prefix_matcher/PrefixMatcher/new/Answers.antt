use Rattle.std.proofs.Common.{map}
use Rattle.jj_paths.specs.Names.{path_of}
use Rattle.jj_matchers.proofs.MarkedTrees.{marked-paths, marked-leads}
use Rattle.jj_matchers.proofs.AcceptedPaths.{below_prefixes}
use Rattle.jj_matchers.proofs.matchers.prefix_matcher.PrefixMatcher.new.Goals as goal

pub invariant_of-result : goal.invariant_of-result
invariant_of-result c = marked-leads (map path_of c.args.prefixes.now) c.in_ok-marked_tree.field-0 c.in_ok-marked_tree.ensures

pub returns-clause-same : goal.returns-clause-same
returns-clause-same c = marked-paths (map path_of c.args.prefixes.now) c.in_ok-marked_tree.field-0 c.in_ok-marked_tree.ensures

pub returns-clause-accepts : goal.returns-clause-accepts
returns-clause-accepts c = below_prefixes _ _ (returns-clause-same c)
