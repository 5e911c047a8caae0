-- Children of values: look-ups in the entries of the trees that the values are.
use Rattle.std.proofs.Common.{◌≡◌, List, [], ◌∷◌, map, Option, Some, None, unwrap_or, refl}
use Rattle.std.specs.Prelude.{option_and_then}
use Rattle.std.specs.Map.{lookup}
use Rattle.std.specs.Str.{bytes_eq}
use Rattle.jj_paths.specs.Paths.{Name}
use Rattle.jj_backend.specs.Objects.{ById}
use Rattle.jj_backend.specs.declared.backend.tree_value.TreeValue.{TreeValue}
use Rattle.jj_backend.specs.declared.backend.tree_value.TreeValue.TheVariants.{File, Symlink, Tree, GitSubmodule}
use Rattle.jj_trees.specs.TreeMerges.{child}
use Rattle.jj_trees.specs.DirectoryMerges.{entries_of}

module _ (trees : ById (List (Name × TreeValue))) (name : Name) where
  among : (o : Option (List (Name × TreeValue))) → lookup (bytes_eq name) (unwrap_or o []) ≡ option_and_then (λ entries. lookup (bytes_eq name) entries) o
  among None = refl
  among (Some entries) = refl

  pub child-entries : (v : Option TreeValue) → lookup (bytes_eq name) (entries_of trees v) ≡ child trees name v
  child-entries None = refl
  child-entries (Some (Tree id)) = among (trees id)
  child-entries (Some (File id executable copy_id)) = refl
  child-entries (Some (Symlink id)) = refl
  child-entries (Some (GitSubmodule id)) = refl

  pub children-entries : (vs : List (Option TreeValue)) → map (λ entries. lookup (bytes_eq name) entries) (map (entries_of trees) vs) ≡ map (child trees name) vs
  children-entries [] = refl
  children-entries (v ∷ vs) = λ i. child-entries v i ∷ children-entries vs i
