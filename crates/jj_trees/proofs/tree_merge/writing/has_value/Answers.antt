use Rattle.std.proofs.Common.{◌≡◌, ◌∙◌, Option, Some, None, refl, sym, ap, is_some}
use Rattle.std.specs.Prelude.{option_map}
use Rattle.std.specs.Option.{option_copied}
use Rattle.jj_paths.specs.Names.{path_of}
use Rattle.jj_paths.specs.Tree.{get}
use Rattle.jj_backend.specs.declared.backend.tree_value.TreeValue.{TreeValue}
use Rattle.jj_trees.specs.PathTries.{Node, is_value}
use Rattle.jj_trees.proofs.tree_merge.writing.has_value.Goals as goal

some_value : (o : Option TreeValue) → is_some o ≡ is_value (Some o)
some_value None = refl
some_value (Some v) = refl

pub returns-in-Some : goal.returns-in-Some
returns-in-Some c =
    let found : get c.args.trie.now (path_of c.args.path) ≡ Some c.in-Some.node.now = sym c.get.ensures ∙ ap option_copied c.in-Some.is in
    c.is_some.ensures ∙ ap is_some c.value.ensures ∙ some_value c.in-Some.node.now.value
    ∙ ap (λ (o : Option Node). is_value (option_map (λ n. n.value) o)) (sym found)
