-- The rows of a directory: each name of its trees, with the values there in the order of the trees.
-- Machinery of private functions and fields.
use Rattle.std.specs.Prelude.{◌≡◌, ◌⊎◌, List, Option, None, map, All, Any, AllPairs}
use Rattle.std.specs.Map.{lookup}
use Rattle.std.specs.Str.{bytes_eq}
use Rattle.std.specs.declared.cmp.Ordering.TheVariants.{Less}
use Rattle.jj_paths.specs.Paths.{Name, name_cmp}
use Rattle.jj_backend.specs.declared.backend.tree_value.TreeValue.{TreeValue}

-- the value that each tree has at a name
abbrev pub at_name : List (List (Name × TreeValue)) → Name → List (Option TreeValue)
at_name trees name = map (λ entries. lookup (bytes_eq name) entries) trees

-- the rows have exactly the names that occur in the trees, in ascending order
pub record AreRows (trees : List (List (Name × TreeValue)))
    (rows : List (Name × List (Option TreeValue))) : Type 0 where
  pub ascending : AllPairs (λ a b. name_cmp a.0 b.0 ≡ Less) rows
  pub values : All (λ row. row.1 ≡ at_name trees row.0) rows
  pub every : (name : Name) → (All (λ entries. lookup (bytes_eq name) entries ≡ None) trees)
      ⊎ Any (λ row. row.0 ≡ name) rows
