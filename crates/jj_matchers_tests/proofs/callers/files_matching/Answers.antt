use Rattle.std.proofs.Common.{subst}
use Rattle.jj_paths.specs.Names.{path_of}
use Rattle.jj_matchers.proofs.Singles.{HasMatchesOf}
use Rattle.jj_matchers_tests.proofs.OneGlob.{one_added, found_by_glob}
use Rattle.jj_matchers_tests.proofs.callers.files_matching.Goals as goal

pub returns-clause-found : goal.returns-clause-found
returns-clause-found c =
    let one = one_added c.builder-globs.result c.add.new.self (path_of c.args.dir) c.in_ok-glob.glob _ c.builder-globs.ensures c.in_ok-glob.ensures.pattern c.in_ok-add.ensures in
    let accepts = subst (HasMatchesOf c.in_ok-matcher.matcher) one c.in_ok-matcher.ensures.accepts in
    found_by_glob _ _ _ accepts _ _ _ c.walks_find_accepted_marks.ensures.files c.in_ok-tree.ensures c.in_ok-walk_matching.ensures.files
