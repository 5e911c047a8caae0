use Rattle.std.proofs.Common.{rules, ◌≡◌, ◌∙◌, ◌∷◌, List, ap, map}
use Rattle.jj_paths.specs.Children.{remaining_children}
use Rattle.jj_paths.specs.Names.{name_of}
use Rattle.jj_paths.specs.Paths.{Name}
use Rattle.jj_paths.specs.Tree.{Tree}
use Rattle.jj_matchers.specs.Marks.{any_node}
use Rattle.jj_matchers.specs.PatternTree.{marks_of}
use Rattle.jj_matchers.specs.SortedVisits.{is_named}
use Rattle.jj_matchers.specs.Visits.{sets_spec}
use Rattle.jj_globs.specs.GlobMeaning.{GlobSpec}
use Rattle.jj_paths.specs.declared.repo_path.RepoPathComponent.{RepoPathComponent}
use Rattle.jj_matchers.proofs.Children.{add_next}
use Rattle.jj_matchers.proofs.PatternTrees.{directories_are, marked_children, none_left}
use Rattle.jj_matchers.proofs.matchers.globs_matcher.visit_directories.Goals as goal

pub returns : goal.returns
returns c =
    let names = map name_of c.loop-name.dirs.keys in
    c.sets.ensures.visit
    ∙ ap (λ (l : List RepoPathComponent). sets_spec names (map name_of l)) c.new.ensures.empty
    ∙ directories_are c.args.tree.now.branches names c.children-name-items.ensures.by_name (none_left names _ _ c.in-None.ensures.steps.0 c.loop-name.invariant.dirs)

pub loop-name-preserved : goal.loop-name-preserved
loop-name-preserved c =
    let left = remaining_children c.next.new.self in
    let node : Name × Tree (List GlobSpec) = (name_of c.in-Some.name, c.in-Some.field-0-1.now) in
    let next : remaining_children c.loop-name.name-iterator ≡ node ∷ left = search rules in
    record {
      can = search rules;
      finite = search rules;
      dirs = λ name. add_next any_node name (is_named c.loop-name.dirs.keys name) _ _ (node.0, marks_of node.1) _ (marked_children left) (ap marked_children next) (c.in_ok-insert_if.ensures name) (c.loop-name.invariant.dirs name);
    }
