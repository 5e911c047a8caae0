use Rattle.std.proofs.Common.{sym, ◌∙◌}
use Rattle.jj_matchers.specs.SortedVisits.{sorted_visit_spec}
use Rattle.jj_matchers.proofs.WalkSteps.{begins, begins_without_children}
use Rattle.jj_matchers.proofs.matchers.tree_walk.enter_root.Goals as goal

pub returns-then-not-has_children : goal.returns-then-not-has_children
returns-then-not-has_children g c =
    begins_without_children (g.M.Matcher.accepts c.args.matcher.now) (g.M.Matcher.opens c.args.matcher.now) (g.M.Matcher.visits c.args.matcher.now) c.args.tree.now _ _ _
    c.requires.0 c.requires.1 c.new-stack.ensures.items (sym c.if-not-has_children.ensures)

pub returns : goal.returns
returns g c =
    begins (g.M.Matcher.accepts c.args.matcher.now) (g.M.Matcher.opens c.args.matcher.now) (g.M.Matcher.visits c.args.matcher.now) c.args.tree.now
    _ _ _ _ _ _ _ _ (sorted_visit_spec c.in_ok-visit.visit)
    c.requires.0 c.requires.1 c.new-stack.ensures.items c.in_ok-enter.ensures.files c.root-root.ensures (c.as_path.ensures ∙ c.root-root.ensures)
    (sym c.if-not-has_children.ensures) c.in_ok-visit.ensures.sound c.in_ok-visit.ensures.visit c.in_ok-enter.ensures.entered
