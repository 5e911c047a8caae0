use Rattle.std.proofs.Common.{[], Some, refl, subst}
use Rattle.jj_paths.specs.Names.{path_of}
use Rattle.jj_backend.specs.declared.backend.tree_value.TreeValue.TheVariants.{Tree}
use Rattle.jj_matchers.specs.Visits.{visit_spec}
use Rattle.jj_matchers.specs.WalkInvariants.{DeterminesWalk}
use Rattle.jj_tree_files.proofs.Listed.{IsFiles, entry_files, nothing_listed, root_list, root_walk}
use Rattle.jj_tree_files.proofs.files.files_matching.Goals as goal

pub returns-then-is_nothing-clause-files : goal.returns-then-is_nothing-clause-files
returns-then-is_nothing-clause-files g c =
    let m = c.args.matcher.now in
    let trees = (g.B.Backend.objects c.args.backend.now).trees in
    let reads = g.B.Backend.may_read_tree c.args.backend.now in
    let accepts = g.M.Matcher.accepts m in
    let visits = g.M.Matcher.visits m in
    let files = c.new-files.result.items in
    let walk = subst (DeterminesWalk accepts (g.M.Matcher.opens m) visits []) (c.is_nothing.ensures.0 c.if-is_nothing.true)
    (root_walk trees accepts visits reads (g.M.Matcher.opens m) (path_of c.root.result) (visit_spec c.in_ok-visit.visit) c.root.ensures c.in_ok-visit.ensures.sound c.in_ok-visit.ensures.visit) in
    let walked = entry_files trees accepts visits reads [] (Some (Tree c.args.tree.now)) files files (nothing_listed trees accepts visits (g.M.Matcher.opens m) [] c.args.tree.now files files refl walk) in
    let listed = root_list trees accepts visits reads (Some (Tree c.args.tree.now)) files files c.new-files.ensures.items walked in
    listed.exactly

pub returns-then-is_nothing-clause-read : goal.returns-then-is_nothing-clause-read
returns-then-is_nothing-clause-read g c =
    let m = c.args.matcher.now in
    let trees = (g.B.Backend.objects c.args.backend.now).trees in
    let reads = g.B.Backend.may_read_tree c.args.backend.now in
    let accepts = g.M.Matcher.accepts m in
    let visits = g.M.Matcher.visits m in
    let files = c.new-files.result.items in
    let walk = subst (DeterminesWalk accepts (g.M.Matcher.opens m) visits []) (c.is_nothing.ensures.0 c.if-is_nothing.true)
    (root_walk trees accepts visits reads (g.M.Matcher.opens m) (path_of c.root.result) (visit_spec c.in_ok-visit.visit) c.root.ensures c.in_ok-visit.ensures.sound c.in_ok-visit.ensures.visit) in
    let walked = entry_files trees accepts visits reads [] (Some (Tree c.args.tree.now)) files files (nothing_listed trees accepts visits (g.M.Matcher.opens m) [] c.args.tree.now files files refl walk) in
    walked.read

pub returns-clause-files : goal.returns-clause-files
returns-clause-files g c =
    let m = c.args.matcher.now in
    let trees = (g.B.Backend.objects c.args.backend.now).trees in
    let reads = g.B.Backend.may_read_tree c.args.backend.now in
    let accepts = g.M.Matcher.accepts m in
    let visits = g.M.Matcher.visits m in
    let walked = subst (λ dir. IsFiles trees accepts visits reads dir (Some (Tree c.args.tree.now)) c.new-files.result.items c.list_directory.new.files.items) c.root-root.ensures
    c.in_ok-list_directory.ensures.listed in
    let listed = root_list trees accepts visits reads (Some (Tree c.args.tree.now)) c.new-files.result.items c.list_directory.new.files.items c.new-files.ensures.items walked in
    listed.exactly

pub returns-clause-ascending : goal.returns-clause-ascending
returns-clause-ascending g c =
    let m = c.args.matcher.now in
    let trees = (g.B.Backend.objects c.args.backend.now).trees in
    let reads = g.B.Backend.may_read_tree c.args.backend.now in
    let accepts = g.M.Matcher.accepts m in
    let visits = g.M.Matcher.visits m in
    let walked = subst (λ dir. IsFiles trees accepts visits reads dir (Some (Tree c.args.tree.now)) c.new-files.result.items c.list_directory.new.files.items) c.root-root.ensures
    c.in_ok-list_directory.ensures.listed in
    let listed = root_list trees accepts visits reads (Some (Tree c.args.tree.now)) c.new-files.result.items c.list_directory.new.files.items c.new-files.ensures.items walked in
    listed.in_order
