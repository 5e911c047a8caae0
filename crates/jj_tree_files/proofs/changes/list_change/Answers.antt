use Rattle.std.proofs.Common.{rules, ◌≡◌, ◌∙◌, ◌++◌, ◌∷◌, [], true, false, ap, refl, subst, sym, true≢false}
use Rattle.jj_paths.specs.Names.{path_of}
use Rattle.jj_matchers.specs.VisitSpecs.{nothing}
use Rattle.jj_matchers.specs.Visits.{visit_spec}
use Rattle.jj_matchers.specs.WalkInvariants.{DeterminesWalk}
use Rattle.jj_trees.proofs.Merging.{same_values}
use Rattle.jj_tree_files.specs.Listings.{IsChildVisit}
use Rattle.jj_tree_files.proofs.Listed.{not_nothing}
use Rattle.jj_tree_files.proofs.Differing.{NotEntered, equal_listed, files_listed, nothing_below, own_and_below, values_differ}
use Rattle.jj_tree_files.proofs.changes.list_change.Goals as goal

pub returns-then-eq-clause-listed : goal.returns-then-eq-clause-listed
returns-then-eq-clause-listed g c = λ none trees.
    let m = c.args.matcher.now in
    let changes = c.args.changes.now.items in
    equal_listed trees (g.M.Matcher.accepts m) (g.M.Matcher.visits m) (λ path id r. ⊥) (path_of c.args.dir ++ c.args.name.now ∷ []) c.args.pair.before c.args.pair.after
    (same_values c.args.pair.before c.args.pair.after (sym c.eq.ensures ∙ c.if-eq.true)) changes changes refl

pub returns-then-not-has_directory-clause-listed : goal.returns-then-not-has_directory-clause-listed
returns-then-not-has_directory-clause-listed g c = λ none trees.
    let m = c.args.matcher.now in
    let at = path_of c.args.dir ++ c.args.name.now ∷ [] in
    let accepts = g.M.Matcher.accepts m in
    let visits = g.M.Matcher.visits m in
    let without : c.has_directory.result ≡ false = search rules in
    let files = rw without at c.has_directory.ensures in
    let after = c.push_change.new.changes.items in
    own_and_below trees accepts visits (λ path id r. ⊥) at c.args.pair.before c.args.pair.after
    (NotEntered trees accepts visits (λ path id r. ⊥) at c.args.pair.before c.args.pair.after) c.args.changes.now.items after after (c.in_ok-push_change.ensures trees)
    (files_listed trees accepts visits (λ path id r. ⊥) at c.args.pair.before c.args.pair.after files.0 files.1 after)

pub returns-in_default-clause-listed : goal.returns-in_default-clause-listed
returns-in_default-clause-listed g c = λ none trees.
    let m = c.args.matcher.now in
    let at = path_of c.args.dir ++ c.args.name.now ∷ [] in
    let accepts = g.M.Matcher.accepts m in
    let visits = g.M.Matcher.visits m in
    let after = c.push_change.new.changes.items in
    let walk = subst (IsChildVisit accepts (g.M.Matcher.opens m) visits at) c.in_default.is c.in_ok-path.ensures in
    own_and_below trees accepts visits (λ path id r. ⊥) at c.args.pair.before c.args.pair.after
    (NotEntered trees accepts visits (λ path id r. ⊥) at c.args.pair.before c.args.pair.after) c.args.changes.now.items after after (c.in_ok-push_change.ensures trees)
    (nothing_below trees accepts visits (λ path id r. ⊥) at c.args.pair.before c.args.pair.after (g.M.Matcher.opens m) walk after)

pub returns-then-is_nothing-clause-listed : goal.returns-then-is_nothing-clause-listed
returns-then-is_nothing-clause-listed g c = λ none trees.
    let m = c.args.matcher.now in
    let at = path_of c.args.dir ++ c.args.name.now ∷ [] in
    let accepts = g.M.Matcher.accepts m in
    let visits = g.M.Matcher.visits m in
    let after = c.push_change.new.changes.items in
    let found = subst (IsChildVisit accepts (g.M.Matcher.opens m) visits at) c.in-Some.is c.in_ok-path.ensures in
    let walk = subst (λ d. DeterminesWalk accepts (g.M.Matcher.opens m) visits d nothing) found.0
    (subst (DeterminesWalk accepts (g.M.Matcher.opens m) visits c.in-Some.path) (c.is_nothing.ensures.0 c.if-is_nothing.true) found.1) in
    own_and_below trees accepts visits (λ path id r. ⊥) at c.args.pair.before c.args.pair.after
    (NotEntered trees accepts visits (λ path id r. ⊥) at c.args.pair.before c.args.pair.after) c.args.changes.now.items after after (c.in_ok-push_change.ensures trees)
    (nothing_below trees accepts visits (λ path id r. ⊥) at c.args.pair.before c.args.pair.after (g.M.Matcher.opens m) walk after)

pub returns-clause-subdirectory : goal.returns-clause-subdirectory
returns-clause-subdirectory g c =
    let m = c.args.matcher.now in
    let at = path_of c.args.dir ++ c.args.name.now ∷ [] in
    let found = subst (IsChildVisit (g.M.Matcher.accepts m) (g.M.Matcher.opens m) (g.M.Matcher.visits m) at) c.in-Some.is c.in_ok-path.ensures in
    let has : c.has_directory.result ≡ true = search rules in
    let directory = rw has at c.has_directory.ensures in (
      record {
        at = found.0;
        values = refl;
        changed = record {
          differ = values_differ c.args.pair.before c.args.pair.after (sym c.eq.ensures ∙ c.if-eq.false);
          id = directory.0;
          tree = directory.1;
        };
        visit = found.1;
        entered = not_nothing (visit_spec c.in-Some.visit) (λ e. true≢false (sym (c.is_nothing.ensures.1 e) ∙ c.if-is_nothing.false));
      },
      c.in_ok-push_change.ensures,
    )
