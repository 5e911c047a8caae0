use Rattle.std.proofs.Common.{◌≡◌, ◌∙◌, ◌&&◌, ◌||◌, List, ◌∷◌, ap, sym, rules}
use Rattle.std.specs.Str.{bytes_eq}
use Rattle.jj_paths.specs.Names.{name_of}
use Rattle.jj_paths.specs.declared.repo_path.RepoPathComponent.{RepoPathComponent}
use Rattle.jj_matchers.specs.SortedVisits.{is_named}
use Rattle.jj_matchers.proofs.SortedNames.{common_next, named-at}
use Rattle.jj_matchers.proofs.matchers.intersection_matcher.common_names.Goals as goal

pub loop-name-preserved : goal.loop-name-preserved
loop-name-preserved c = λ name.
    let key = c.in-Some.name in
    let others = c.args.others.keys in
    let left = c.next.new.self in
    let before = is_named c.loop-name.common.keys name in
    let next : c.loop-name.name-iterator ≡ key ∷ left = search rules in
    ap (λ t. t || (is_named left name && is_named others name)) (c.in_ok-insert_if.ensures name ∙ ap (λ t. bytes_eq name (name_of key) && t || before) (c.contains.ensures ∙ named-at key others))
    ∙ common_next others key name before (is_named left name) _ (ap (λ (l : List RepoPathComponent). before || (is_named l name && is_named others name)) (sym next) ∙ c.loop-name.invariant name)
