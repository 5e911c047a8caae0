use Rattle.std.proofs.Common.{◌≡◌, ◌∙◌, [], Some, ap, inl, refl, subst, sym, true≢false}
use Rattle.std.proofs.lemmas.Option.{same_Some}
use Rattle.std.proofs.lemmas.Slice.Eq.{bytes_eq-Decides}
use Rattle.jj_paths.specs.Names.{path_of}
use Rattle.jj_backend.specs.declared.backend.tree_value.TreeValue.TheVariants.{Tree}
use Rattle.jj_matchers.specs.VisitSpecs.{nothing}
use Rattle.jj_matchers.specs.Visits.{visit_spec}
use Rattle.jj_matchers.specs.WalkInvariants.{DeterminesWalk}
use Rattle.jj_tree_files.proofs.Listed.{root_walk}
use Rattle.jj_tree_files.proofs.Differing.{root_equal, root_list, root_nothing}
use Rattle.jj_tree_files.proofs.changes.changed_files.Goals as goal

pub returns-then-eq : goal.returns-then-eq
returns-then-eq g c =
    let m = c.args.matcher.now in
    let listed = root_equal (g.B.Backend.objects c.args.backend.now).trees (g.M.Matcher.accepts m) (g.M.Matcher.visits m) (g.B.Backend.may_read_tree c.args.backend.now) c.args.before.now c.args.after.now
    ((bytes_eq-Decides c.args.before.now c.args.after.now).0 (sym c.eq.ensures ∙ c.if-eq.true)) c.new-changes.result.items c.new-changes.ensures.items in
    record { changes = listed.changes; ascending = listed.ascending; read = listed.read; error = tt }

pub returns-then-is_nothing : goal.returns-then-is_nothing
returns-then-is_nothing g c =
    let m = c.args.matcher.now in
    let trees = (g.B.Backend.objects c.args.backend.now).trees in
    let reads = g.B.Backend.may_read_tree c.args.backend.now in
    let accepts = g.M.Matcher.accepts m in
    let visits = g.M.Matcher.visits m in
    let walk = subst (DeterminesWalk accepts (g.M.Matcher.opens m) visits []) (c.is_nothing.ensures.0 c.if-is_nothing.true)
    (root_walk trees accepts visits reads (g.M.Matcher.opens m) (path_of c.root.result) (visit_spec c.in_ok-visit.visit) c.root.ensures c.in_ok-visit.ensures.sound c.in_ok-visit.ensures.visit) in
    let listed = root_nothing trees accepts visits reads c.args.before.now c.args.after.now (g.M.Matcher.opens m) walk c.new-changes.result.items c.new-changes.ensures.items in
    record { changes = listed.changes; ascending = listed.ascending; read = listed.read; error = tt }

pub returns-clause-changes : goal.returns-clause-changes
returns-clause-changes g c =
    let m = c.args.matcher.now in
    let listed = root_list (g.B.Backend.objects c.args.backend.now).trees (g.M.Matcher.accepts m) (g.M.Matcher.visits m) (g.B.Backend.may_read_tree c.args.backend.now) c.args.before.now c.args.after.now
    (path_of c.root-root.result) (record { before = Some (Tree c.in_ok-clone.field-0); after = Some (Tree c.in_ok-clone-2.field-0) }) c.new-changes.result.items c.list_changes.new.changes.items c.root-root.ensures
    (ap (λ id. Some (Tree id)) c.in_ok-clone.ensures.cases) (ap (λ id. Some (Tree id)) c.in_ok-clone-2.ensures.cases) c.new-changes.ensures.items c.in_ok-list_changes.ensures.listed in
    listed.changes

pub returns-clause-ascending : goal.returns-clause-ascending
returns-clause-ascending g c =
    let m = c.args.matcher.now in
    let listed = root_list (g.B.Backend.objects c.args.backend.now).trees (g.M.Matcher.accepts m) (g.M.Matcher.visits m) (g.B.Backend.may_read_tree c.args.backend.now) c.args.before.now c.args.after.now
    (path_of c.root-root.result) (record { before = Some (Tree c.in_ok-clone.field-0); after = Some (Tree c.in_ok-clone-2.field-0) }) c.new-changes.result.items c.list_changes.new.changes.items c.root-root.ensures
    (ap (λ id. Some (Tree id)) c.in_ok-clone.ensures.cases) (ap (λ id. Some (Tree id)) c.in_ok-clone-2.ensures.cases) c.new-changes.ensures.items c.in_ok-list_changes.ensures.listed in
    listed.ascending
