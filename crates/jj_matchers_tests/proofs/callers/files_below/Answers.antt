use Rattle.std.proofs.Common.{subst, sym}
use Rattle.jj_paths.specs.Names.{path_of}
use Rattle.jj_matchers.proofs.Singles.{HasBelow}
use Rattle.jj_matchers_tests.proofs.Prefixes.{found_below}
use Rattle.jj_matchers_tests.proofs.callers.files_below.Goals as goal

pub returns-clause-found : goal.returns-clause-found
returns-clause-found c =
    let first = subst (λ m. HasBelow m (path_of c.args.dir)) (sym c.new-matcher.ensures.first) c.in_ok-wanted.ensures.accepts in
    let second = subst (λ m. HasBelow m (path_of c.args.without)) (sym c.new-matcher.ensures.second) c.in_ok-unwanted.ensures.accepts in
    found_below _ _ _ _ _ _ _ c.walks_find_accepted_marks.ensures.files c.in_ok-tree.ensures first second c.in_ok-walk_matching.ensures.files
