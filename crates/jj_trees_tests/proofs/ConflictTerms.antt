-- The number of values at a path is that of the terms.
use Rattle.std.proofs.Common.{◌≡◌, ℕ, List, [], ◌∷◌, length, map, Some, refl, ◌∙◌}
use Rattle.std.proofs.lemmas.List.{length-map}
use Rattle.jj_paths.specs.Paths.{Name, Path}
use Rattle.jj_backend.specs.Objects.{ById}
use Rattle.jj_backend.specs.declared.backend.tree_value.TreeValue.{TreeValue}
use Rattle.jj_backend.specs.declared.backend.tree_value.TreeValue.TheVariants.{Tree}
use Rattle.jj_backend.specs.MergedTreeValues.{Values}
use Rattle.jj_trees.specs.TreeMerges.{child, root_values, values_at}

pub length-values_at : (trees : ById (List (Name × TreeValue))) (values : Values) (path : Path) → length (values_at trees values path) ≡ length values
length-values_at trees values [] = refl
length-values_at trees values (name ∷ path) = length-values_at trees (map (child trees name) values) path ∙ length-map values (child trees name)

pub length-root_values : (ids : List (List ℕ)) → length (root_values ids) ≡ length ids
length-root_values ids = length-map ids (λ id. Some (Tree id))
