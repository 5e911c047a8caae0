use Rattle.std.proofs.Common.{◌∙◌, ◌++◌, ◌∷◌, [], Some, ap, refl, subst, sym, true≢false}
use Rattle.jj_paths.specs.Names.{path_of}
use Rattle.jj_backend.specs.declared.backend.tree_value.TreeValue.TheVariants.{Tree}
use Rattle.jj_matchers.specs.VisitSpecs.{nothing}
use Rattle.jj_matchers.specs.Visits.{visit_spec}
use Rattle.jj_matchers.specs.WalkInvariants.{DeterminesWalk}
use Rattle.jj_tree_files.specs.Listings.{IsChildVisit}
use Rattle.jj_tree_files.proofs.Listed.{IsEntry, file_listed, not_nothing, nothing_listed}
use Rattle.jj_tree_files.proofs.files.list_entry.Goals as goal

pub returns-in_default-clause-listed : goal.returns-in_default-clause-listed
returns-in_default-clause-listed g c = λ none trees.
    let m = c.args.matcher.now in
    file_listed trees (g.M.Matcher.accepts m) (g.M.Matcher.visits m) (path_of c.args.dir ++ c.args.name.now ∷ []) c.args.value.now c.args.files.now.items c.push_file.new.files.items
    c.in_default.ensures c.in_ok-push_file.ensures

pub returns-in_default-2-clause-listed : goal.returns-in_default-2-clause-listed
returns-in_default-2-clause-listed g c = λ none trees.
    let m = c.args.matcher.now in
    let at = path_of c.args.dir ++ c.args.name.now ∷ [] in
    let files = c.args.files.now.items in
    let walk = subst (IsChildVisit (g.M.Matcher.accepts m) (g.M.Matcher.opens m) (g.M.Matcher.visits m) at) c.in_default-2.is c.in_ok-path.ensures in
    subst (λ v. IsEntry trees (g.M.Matcher.accepts m) (g.M.Matcher.visits m) at (Some v) files files) (sym c.in-Some.ensures)
    (nothing_listed trees (g.M.Matcher.accepts m) (g.M.Matcher.visits m) (g.M.Matcher.opens m) at c.in-Some.id.now files files refl walk)

pub returns-then-is_nothing-clause-listed : goal.returns-then-is_nothing-clause-listed
returns-then-is_nothing-clause-listed g c = λ none trees.
    let m = c.args.matcher.now in
    let at = path_of c.args.dir ++ c.args.name.now ∷ [] in
    let files = c.args.files.now.items in
    let found = subst (IsChildVisit (g.M.Matcher.accepts m) (g.M.Matcher.opens m) (g.M.Matcher.visits m) at) c.in-Some-2.is c.in_ok-path.ensures in
    let walk = subst (λ d. DeterminesWalk (g.M.Matcher.accepts m) (g.M.Matcher.opens m) (g.M.Matcher.visits m) d nothing) found.0
    (subst (DeterminesWalk (g.M.Matcher.accepts m) (g.M.Matcher.opens m) (g.M.Matcher.visits m) c.in-Some-2.path) (c.is_nothing.ensures.0 c.if-is_nothing.true) found.1) in
    subst (λ v. IsEntry trees (g.M.Matcher.accepts m) (g.M.Matcher.visits m) at (Some v) files files) (sym c.in-Some.ensures)
    (nothing_listed trees (g.M.Matcher.accepts m) (g.M.Matcher.visits m) (g.M.Matcher.opens m) at c.in-Some.id.now files files refl walk)

pub returns-clause-subdirectory : goal.returns-clause-subdirectory
returns-clause-subdirectory g c =
    let m = c.args.matcher.now in
    let at = path_of c.args.dir ++ c.args.name.now ∷ [] in
    let found = subst (IsChildVisit (g.M.Matcher.accepts m) (g.M.Matcher.opens m) (g.M.Matcher.visits m) at) c.in-Some-2.is c.in_ok-path.ensures in (
      record {
        at = found.0;
        tree = c.in-Some.ensures ∙ ap Tree (sym c.in_ok-id.ensures.cases);
        visit = found.1;
        entered = not_nothing (visit_spec c.in-Some-2.visit) (λ e. true≢false (sym (c.is_nothing.ensures.1 e) ∙ c.if-is_nothing.false));
      },
      refl,
    )
