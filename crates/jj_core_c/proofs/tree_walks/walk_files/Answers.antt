use Rattle.std.proofs.Common.{◌≡◌, Bool, length, map, subst, sym}
use Rattle.std.specs.Prelude.{Any, Contains}
use Rattle.std.proofs.lemmas.Result.{IfOk-weaker}
use Rattle.jj_paths.specs.Names.{path_of}
use Rattle.jj_paths.specs.Paths.{IsBelow}
use Rattle.jj_matchers.specs.PathLists.{files_spec, has_prefix, is_listed, prefix_spec}
use Rattle.jj_matchers.specs.Walk.{entered_by, files_of}
use Rattle.jj_core_c.specs.TreeWalks.{CountsEntered, FindsListed}
use Rattle.jj_core_c.proofs.TreeWalks.{found_files, same_entered, same_files_visit, same_prefix_visit}
use Rattle.jj_core_c.proofs.tree_walks.walk_files.Goals as goal

pub returns-then-prefixes-clause-found : goal.returns-then-prefixes-clause-found
returns-then-prefixes-clause-found c =
    let listed = map path_of c.args.listed.now in
    let files = map path_of c.args.files.now in
    let matcher = c.in_ok-matcher.matcher in
    let tree = c.in_ok-tree.tree in
    IfOk-weaker c.walk_matching.result (λ walk. walk.files.items ≡ files_of (has_prefix matcher) tree) (λ walk. FindsListed c.args.prefixes listed files walk.files.items)
    (λ walk is. subst (λ (b : Bool). FindsListed b listed files walk.files.items) (sym c.if-prefixes.true)
    (found_files files tree walk.files.items (has_prefix matcher) (λ path. Any (IsBelow path) listed) c.walks_find_accepted_marks.ensures.files c.in_ok-tree.ensures is c.in_ok-matcher.ensures.accepts))
    c.walk_matching.ensures.files

pub returns-then-prefixes-clause-entered : goal.returns-then-prefixes-clause-entered
returns-then-prefixes-clause-entered c =
    let listed = map path_of c.args.listed.now in
    let files = map path_of c.args.files.now in
    let matcher = c.in_ok-matcher.matcher in
    let tree = c.in_ok-tree.tree in
    IfOk-weaker c.walk_matching.result (λ walk. walk.entered.items ≡ entered_by (prefix_spec matcher) tree) (λ walk. CountsEntered c.args.prefixes listed files (length walk.entered.items))
    (λ walk is. subst (λ (b : Bool). CountsEntered b listed files (length walk.entered.items)) (sym c.if-prefixes.true)
    (tree, c.in_ok-tree.ensures, same_entered tree walk.entered.items (prefix_spec matcher) (prefix_spec listed) is (same_prefix_visit matcher listed c.in_ok-matcher.ensures.same)))
    c.walk_matching.ensures.entered

pub returns-clause-found : goal.returns-clause-found
returns-clause-found c =
    let listed = map path_of c.args.listed.now in
    let files = map path_of c.args.files.now in
    let matcher = c.in_ok-matcher-2.matcher in
    let tree = c.in_ok-tree.tree in
    IfOk-weaker c.walk_matching-else-prefixes.result (λ walk. walk.files.items ≡ files_of (is_listed matcher) tree) (λ walk. FindsListed c.args.prefixes listed files walk.files.items)
    (λ walk is. subst (λ (b : Bool). FindsListed b listed files walk.files.items) (sym c.if-prefixes.false)
    (found_files files tree walk.files.items (is_listed matcher) (Contains listed) c.walks_find_accepted_marks.ensures.files c.in_ok-tree.ensures is c.in_ok-matcher-2.ensures.accepts))
    c.walk_matching-else-prefixes.ensures.files

pub returns-clause-entered : goal.returns-clause-entered
returns-clause-entered c =
    let listed = map path_of c.args.listed.now in
    let files = map path_of c.args.files.now in
    let matcher = c.in_ok-matcher-2.matcher in
    let tree = c.in_ok-tree.tree in
    IfOk-weaker c.walk_matching-else-prefixes.result (λ walk. walk.entered.items ≡ entered_by (files_spec matcher) tree) (λ walk. CountsEntered c.args.prefixes listed files (length walk.entered.items))
    (λ walk is. subst (λ (b : Bool). CountsEntered b listed files (length walk.entered.items)) (sym c.if-prefixes.false)
    (tree, c.in_ok-tree.ensures, same_entered tree walk.entered.items (files_spec matcher) (files_spec listed) is (same_files_visit matcher listed c.in_ok-matcher-2.ensures.same)))
    c.walk_matching-else-prefixes.ensures.entered
