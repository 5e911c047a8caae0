use Rattle.jj_paths.specs.Names.{path_of}
use Rattle.jj_matchers_tests.proofs.TopLevel.{below_root}
use Rattle.jj_matchers_tests.proofs.own_matcher.is_below_root.Goals as goal

pub returns : goal.returns
returns c = below_root c.is_root.result (path_of c.args.path) c.is_root.ensures
