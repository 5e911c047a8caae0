-- The merge of trees: the outcome at each path, which paths have one, and the trees that are read.
-- Cited by contracts of public items: AreRead, HasOutcome, IsConflict, IsMergeError, IsOpen,
-- IsResolved, IsTreeMerge, root_values.
use Rattle.std.specs.Prelude.{◌≡◌, ◌↔◌, ◌⊎◌, ⊤, ℕ, ◌<◌, Bool, List, [], ◌∷◌, ◌++◌, map, length}
use Rattle.std.specs.Prelude.{Option, Some, None, option_and_then, IfSome, IsSomeAnd, All, AllPairs}
use Rattle.std.specs.Prelude.{Contains}
use Rattle.std.specs.Prelude.{Result, Ok, Err}
use Rattle.std.specs.Bool.{MatchBool}
use Rattle.std.specs.Map.{lookup}
use Rattle.std.specs.Str.{bytes_eq}
use Rattle.std.specs.Global.{Global}
use Rattle.std.specs.declared.cmp.Ordering.TheVariants.{Less}
use Rattle.std.specs.declared.string.String.{String}
use Rattle.jj_paths.specs.Paths.{Name, Path, path_cmp}
use Rattle.jj_merges.specs.declared.merge.SameChange.{SameChange}
use Rattle.jj_merges.specs.Resolution.{ResolvesTo}
use Rattle.jj_merges.specs.Simplify.{simplified_indices, at_indices}
use Rattle.jj_merges.specs.Labels.{normalized_labels}
use Rattle.jj_backend.specs.Objects.{ById}
use Rattle.jj_backend.specs.Errors.{is_not_found}
use Rattle.jj_backend.specs.Trees.{Entries}
use Rattle.jj_backend.specs.declared.backend.tree_value.TreeValue.{TreeValue}
use Rattle.jj_backend.specs.declared.backend.tree_value.TreeValue.TheVariants.{File, Symlink, Tree, GitSubmodule}
use Rattle.jj_backend.specs.declared.backend.errors.BackendError.{BackendError}
use Rattle.jj_backend.specs.declared.backend.errors.BackendError.TheVariants.{Memory, Unsupported}

-- the trees of the terms: the values at the root. The values at a path are those of the terms, and
-- None for a term without a value there.
abbrev pub root_values : List (List ℕ) → List (Option TreeValue)
root_values ids = map (λ id. Some (Tree id)) ids

-- the values do not resolve
abbrev pub IsUnresolved : (Option TreeValue → Option TreeValue → Bool) → SameChange
    → List (Option TreeValue) → Type 0
IsUnresolved eq same_change values =
    (v : Option TreeValue) → ResolvesTo eq same_change values v → ⊥

module _ (trees : ById Entries) where
  -- the value at a name in the tree that a value is; None for a value that is not a tree
  abbrev pub child : Name → Option TreeValue → Option TreeValue
  child name None = None
  child name (Some (Tree id)) = option_and_then (λ entries. lookup (bytes_eq name) entries)
      (trees id)
  child name (Some (File id executable copy_id)) = None
  child name (Some (Symlink id)) = None
  child name (Some (GitSubmodule id)) = None

  -- the values at a path relative to the directory of these values
  abbrev pub values_at : List (Option TreeValue) → Path → List (Option TreeValue)
  values_at values [] = values
  values_at values (name ∷ rest) = values_at (map (child name) values) rest

  module _ (eq : Option TreeValue → Option TreeValue → Bool) (same_change : SameChange) where
    -- The path is open: its directory is merged entry by entry. The root is open, and any other
    -- path if its parent is, its values do not resolve, and those that are present are trees.
    abbrev pub IsOpen : List (Option TreeValue) → Path → Type 0
    IsOpen values [] = ⊤
    IsOpen values (name ∷ rest) =
        let here = map (child name) values in
        IsUnresolved eq same_change here
        × All (λ v. IfSome v (λ value. (id : List ℕ) × (value ≡ Tree id))) here
        × IsOpen here rest

    -- the path has an outcome of its own: its parent is open, and it is not
    abbrev pub HasOutcome : List (Option TreeValue) → Path → Type 0
    HasOutcome values path = (parent : Path) × (name : Name) × (path ≡ parent ++ name ∷ [])
        × IsOpen values parent × (IsOpen values path → ⊥)

    -- the path resolves to the value v
    abbrev pub IsResolved : List (Option TreeValue) → Path → TreeValue → Type 0
    IsResolved values path v =
        HasOutcome values path × ResolvesTo eq same_change (values_at values path) (Some v)

    -- the path has a conflict: its values do not resolve, and terms and term_labels are the
    -- simplified values with their labels
    abbrev pub IsConflict : List (Option TreeValue) → List (List ℕ) → Path
        → List (Option TreeValue) → List (List ℕ) → Type 0
    IsConflict values labels path terms term_labels =
        let here = values_at values path in
        HasOutcome values path × IsUnresolved eq same_change here
        × (terms ≡ at_indices here (simplified_indices eq here))
        × (term_labels ≡ normalized_labels (at_indices labels (simplified_indices eq here)))

    -- the lists are the result of a merge: exactly the paths that resolve to a present value, and
    -- exactly the conflicts, each in ascending order of paths
    pub record IsTreeMerge (values : List (Option TreeValue)) (labels : List (List ℕ))
        (resolved : List (Path × TreeValue))
        (conflicts : List (Path × List (Option TreeValue) × List (List ℕ))) : Type 0 where
      pub resolves : (path : Path) (value : TreeValue)
          → Contains resolved (path, value) ↔ IsResolved values path value
      pub conflicted : (path : Path) (terms : List (Option TreeValue)) (term_labels : List (List ℕ))
          → Contains conflicts (path, terms, term_labels)
          ↔ IsConflict values labels path terms term_labels
      pub ascending : AllPairs (λ a b. path_cmp a.0 b.0 ≡ Less) resolved
          × AllPairs (λ a b. path_cmp a.0 b.0 ≡ Less) conflicts

    -- `may_read_tree path id result`: reading the tree with this id at this path may return result
    module _ (may_read_tree : Path → List ℕ → Result Entries BackendError → Type 0) where
      -- the trees at each open path exist and are read there, and the path has fewer names than
      -- there are levels
      pub record AreRead (values : List (Option TreeValue)) (levels : ℕ) : Type 0 where
        pub read : (path : Path) (id : List ℕ) → IsOpen values path
            → Contains (values_at values path) (Some (Tree id))
            → IsSomeAnd (trees id) (λ entries. may_read_tree path id (Ok entries))
        pub not_deeper : (path : Path) → IsOpen values path → length path < levels

      -- the errors of a merge: out of memory; a failed read of a tree at an open path,
      -- ObjectNotFound only if the tree is missing; or Unsupported for an open path below the
      -- deepest level
      abbrev pub IsMergeError : (BackendError → Type 0) → List (Option TreeValue) → ℕ
          → BackendError → Type 0
      IsMergeError may_fail values levels e =
          (e ≡ Memory)
          ⊎ ((path : Path) × (id : List ℕ) × IsOpen values path
          × Contains (values_at values path) (Some (Tree id)) × may_read_tree path id (Err e)
          × MatchBool (is_not_found e) (trees id ≡ None) (may_fail e))
          ⊎ ((message : String Global) × (path : Path) × (e ≡ Unsupported message)
          × IsOpen values path × (length path ≡ levels))
