use Rattle.std.proofs.Common.{sym, ◌∙◌}
use Rattle.std.proofs.lemmas.Result.{IfOk-weaker}
use Rattle.jj_paths.specs.Names.{path_of}
use Rattle.jj_matchers.specs.VisitSpecs.{nothing}
use Rattle.jj_matchers.specs.SortedVisits.{sorted_visit_spec}
use Rattle.jj_matchers.specs.Marks.{marked_paths}
use Rattle.jj_matchers.proofs.MentionedNames.{files_visit}
use Rattle.jj_matchers.proofs.Marks.{files_are, no_files_are}
use Rattle.jj_matchers.proofs.matchers.files_matcher.FilesMatcher.compute_visit.Goals as goal

pub returns-in-Some : goal.returns-in-Some
returns-in-Some c =
    let dir = path_of c.args.dir in
    let marks = marked_paths c.self.inside.tree in
    let files = c.args.self.now in
    let are = files_are c.self.inside.tree c.self.invariant dir c.in-Some.node.now (sym c.in-Some.ensures) in
    IfOk-weaker _ _ _ (λ visit is. (files_visit marks files dir (sorted_visit_spec visit) c.self.view_is (is ∙ are)).0) c.visit_children.ensures

pub returns-in-None : goal.returns-in-None
returns-in-None c =
    (files_visit (marked_paths c.self.inside.tree) c.args.self.now (path_of c.args.dir) nothing c.self.view_is
    (no_files_are c.self.inside.tree c.self.invariant (path_of c.args.dir) (sym c.in-None.ensures))).0
