use Rattle.std.proofs.Common.{map, Contains}
use Rattle.jj_paths.specs.Names.{path_of}
use Rattle.jj_matchers.specs.PathLists.{is_listed}
use Rattle.jj_matchers_tests.proofs.FoundFiles.{found_marks}
use Rattle.jj_matchers_tests.proofs.callers.files_of_both.Goals as goal

pub returns-clause-found : goal.returns-clause-found
returns-clause-found c = found_marks _ _ _ (is_listed c.in_ok-matcher.matcher) _ (Contains (map path_of c.args.others.now)) c.in_ok-walk_marks.ensures c.in_ok-matcher.ensures.accepts
