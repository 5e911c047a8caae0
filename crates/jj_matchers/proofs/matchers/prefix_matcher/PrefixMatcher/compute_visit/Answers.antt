use Rattle.std.proofs.Common.{◌≡◌, false, sym, ap, ◌∙◌}
use Rattle.std.proofs.lemmas.Result.{IfOk-weaker}
use Rattle.jj_paths.specs.Names.{path_of}
use Rattle.jj_matchers.specs.VisitSpecs.{nothing}
use Rattle.jj_matchers.specs.SortedVisits.{sorted_visit_spec}
use Rattle.jj_matchers.specs.PathLists.{has_prefix}
use Rattle.jj_matchers.specs.Marks.{marked_paths}
use Rattle.jj_matchers.proofs.MentionedNames.{prefixes_visit}
use Rattle.jj_matchers.proofs.Marks.{prefixes_are, no_prefixes_are}
use Rattle.jj_matchers.proofs.matchers.prefix_matcher.PrefixMatcher.compute_visit.Goals as goal

pub returns-in-Some : goal.returns-in-Some
returns-in-Some c =
    let marks = marked_paths c.self.inside.tree in
    let prefixes = c.args.self.now in
    let dir = path_of c.args.dir in
    let outside : has_prefix marks dir ≡ false = ap (λ paths. has_prefix paths dir) c.self.view_is ∙ sym c.matches.ensures ∙ c.if-matches.false in
    let are = prefixes_are c.self.inside.tree c.self.invariant dir c.in-Some.node.now (sym c.in-Some.ensures) outside in
    IfOk-weaker _ _ _ (λ visit is. (prefixes_visit marks prefixes dir (sorted_visit_spec visit) c.self.view_is (is ∙ are)).0) c.visit_children.ensures

pub returns-in-None : goal.returns-in-None
returns-in-None c =
    let marks = marked_paths c.self.inside.tree in
    let dir = path_of c.args.dir in
    let outside : has_prefix marks dir ≡ false = ap (λ prefixes. has_prefix prefixes dir) c.self.view_is ∙ sym c.matches.ensures ∙ c.if-matches.false in
    (prefixes_visit marks c.args.self.now dir nothing c.self.view_is (no_prefixes_are c.self.inside.tree c.self.invariant dir (sym c.in-None.ensures) outside)).0
