use Rattle.std.proofs.Common.{rules, ◌≡◌, ◌∙◌, ◌&&◌, ◌||◌, ◌∷◌, Bool, ap, map}
use Rattle.std.specs.Str.{bytes_eq}
use Rattle.jj_paths.specs.Children.{remaining_children}
use Rattle.jj_paths.specs.Paths.{Name}
use Rattle.jj_paths.specs.Tree.{Tree}
use Rattle.jj_paths.specs.Names.{name_of}
use Rattle.jj_matchers.specs.Marks.{counts_as_dir, has_mark}
use Rattle.jj_matchers.specs.SortedVisits.{is_named}
use Rattle.jj_matchers.proofs.Children.{add_next, sets_are, none_left}
use Rattle.jj_matchers.proofs.matchers.children_visit.visit_children.Goals as goal

pub returns : goal.returns
returns c =
    let i = c.loop-name.invariant in
    let left = c.in-None.ensures.steps.0 in
    c.sets.ensures.visit
    ∙ sets_are (counts_as_dir c.args.all_dirs) has_mark c.args.tree.now.branches c.children-name-items.ensures.by_name (map name_of c.loop-name.dirs.keys) (map name_of c.loop-name.files.keys)
    (λ name. none_left (counts_as_dir c.args.all_dirs) name _ _ _ left (i.dirs name)) (λ name. none_left has_mark name _ _ _ left (i.files name))

pub next-requires : goal.next-requires
next-requires c = search rules

pub loop-name-smaller : goal.loop-name-smaller
loop-name-smaller c = search rules

pub loop-name-preserved : goal.loop-name-preserved
loop-name-preserved c =
    let i = c.loop-name.invariant in
    let left = remaining_children c.next.new.self in
    let all_dirs = counts_as_dir c.args.all_dirs in
    let node : Name × Tree Bool = (name_of c.in-Some.name, c.in-Some.child.now) in
    let next : remaining_children c.loop-name.name-iterator ≡ node ∷ left = search rules in
    record {
      can = search rules;
      finite = search rules;
      dirs = λ name. add_next all_dirs name (is_named c.loop-name.dirs.keys name) _ _ node _ left next (c.in_ok-insert_if.ensures name ∙ ap (λ t. bytes_eq name node.0 && t || is_named c.loop-name.dirs.keys name) c.counts_as_dir.ensures) (i.dirs name);
      files = λ name. add_next has_mark name (is_named c.loop-name.files.keys name) _ _ node _ left next (c.in_ok-insert_if-2.ensures name ∙ ap (λ t. bytes_eq name node.0 && t || is_named c.loop-name.files.keys name) c.value.ensures) (i.files name);
    }
