use Rattle.std.proofs.Common.{false, sym, ap, ◌∙◌}
use Rattle.std.proofs.lemmas.Result.{IfOk-weaker}
use Rattle.jj_paths.specs.Names.{path_of}
use Rattle.jj_matchers.specs.SortedVisits.{sorted_visit_spec}
use Rattle.jj_matchers.proofs.PatternSound.{uncovered_spec, visit_is}
use Rattle.jj_matchers.proofs.PatternTrees.{children_are, no_children_are}
use Rattle.jj_matchers.proofs.matchers.globs_matcher.GlobsMatcher.compute_visit.Goals as goal

pub returns-in-Some : goal.returns-in-Some
returns-in-Some c =
    let dir = path_of c.args.dir in
    let are = children_are c.self.inside.tree c.self.invariant dir c.in-Some.node.now (sym c.in-Some.ensures)
    ∙ ap (λ s. uncovered_spec s dir) c.self.view_is
    ∙ visit_is c.args.self.now false false dir (sym c.covers.ensures ∙ c.if-covers.false)
    (sym c.has_patterns_above.ensures ∙ c.if-has_patterns_above.false) in
    IfOk-weaker c.visit_directories.result _ _ (λ visit is. ◌∙◌ {a = sorted_visit_spec visit} is are) c.visit_directories.ensures

pub returns-in-None : goal.returns-in-None
returns-in-None c =
    let dir = path_of c.args.dir in
    no_children_are c.self.inside.tree c.self.invariant dir (sym c.in-None.ensures)
    ∙ ap (λ s. uncovered_spec s dir) c.self.view_is
    ∙ visit_is c.args.self.now false false dir (sym c.covers.ensures ∙ c.if-covers.false)
    (sym c.has_patterns_above.ensures ∙ c.if-has_patterns_above.false)
