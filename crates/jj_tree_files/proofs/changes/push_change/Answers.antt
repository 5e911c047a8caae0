use Rattle.std.proofs.Common.{◌∙◌, ◌++◌, ◌∷◌, [], ap, sym, subst}
use Rattle.jj_paths.specs.Names.{path_of}
use Rattle.jj_backend.specs.Objects.{ById}
use Rattle.jj_trees.proofs.Merging.{same_values}
use Rattle.jj_tree_files.proofs.Differing.{no_change, not_accepted, one_change, values_differ}
use Rattle.jj_tree_files.proofs.changes.push_change.Goals as goal

pub returns-then-eq : goal.returns-then-eq
returns-then-eq g c = λ trees.
    no_change trees (g.M.Matcher.accepts c.args.matcher.now) (path_of c.args.dir ++ c.args.name.now ∷ []) c.args.pair.now.before c.args.pair.now.after
    (sym c.in_ok-before.ensures ∙ same_values c.in_ok-before.before c.in_ok-after.after (sym c.eq.ensures ∙ c.if-eq.true) ∙ c.in_ok-after.ensures)
    c.args.changes.now.items

pub returns-in_default : goal.returns-in_default
returns-in_default g c = λ trees.
    not_accepted trees (g.M.Matcher.accepts c.args.matcher.now) (path_of c.args.dir ++ c.args.name.now ∷ []) c.args.pair.now.before c.args.pair.now.after
    (rw c.in_default.is at c.in_ok-path.ensures) c.args.changes.now.items

pub returns : goal.returns
returns g c = λ trees.
    let accepted = rw c.in-Some.is at c.in_ok-path.ensures in
    one_change trees (g.M.Matcher.accepts c.args.matcher.now) (path_of c.args.dir ++ c.args.name.now ∷ []) c.args.pair.now.before c.args.pair.now.after
    (record { path = c.in-Some.path; before = c.in_ok-before.before; after = c.in_ok-after.after })
    accepted.0 c.in_ok-before.ensures c.in_ok-after.ensures
    (values_differ c.in_ok-before.before c.in_ok-after.after (sym c.eq.ensures ∙ c.if-eq.false))
    accepted.1 c.args.changes.now.items c.push.new.self.items c.in_ok-push.ensures.items
