-- The merge of one directory, relative to it: the entries that the recursive calls append.
-- Machinery of private functions and fields.
use Rattle.std.specs.Prelude.{◌≡◌, ◌↔◌, ◌⊎◌, ⊤, ℕ, ◌<◌, Bool, List, [], ◌∷◌, ◌++◌, map}
use Rattle.std.specs.Prelude.{length, Option, Some, None, unwrap_or, IfSome, All, Any}
use Rattle.std.specs.Prelude.{AllPairs, Contains, Result, Ok, Err}
use Rattle.std.specs.Bool.{MatchBool}
use Rattle.std.specs.declared.cmp.Ordering.TheVariants.{Less}
use Rattle.std.specs.Global.{Global}
use Rattle.std.specs.declared.string.String.{String}
use Rattle.jj_paths.specs.Paths.{Name, Path, path_cmp}
use Rattle.jj_merges.specs.declared.merge.SameChange.{SameChange}
use Rattle.jj_merges.specs.Resolution.{ResolvesTo}
use Rattle.jj_merges.specs.Simplify.{simplified_indices, at_indices}
use Rattle.jj_merges.specs.Labels.{normalized_labels}
use Rattle.jj_backend.specs.Objects.{ById}
use Rattle.jj_backend.specs.Errors.{is_not_found}
use Rattle.jj_backend.specs.MergedTreeValues.{Values}
use Rattle.jj_backend.specs.Trees.{Entries}
use Rattle.jj_backend.specs.declared.backend.tree_value.TreeValue.{TreeValue}
use Rattle.jj_backend.specs.declared.backend.tree_value.TreeValue.TheVariants.{File, Symlink, Tree, GitSubmodule}
use Rattle.jj_backend.specs.declared.backend.errors.BackendError.{BackendError}
use Rattle.jj_backend.specs.declared.backend.errors.BackendError.TheVariants.{Memory, Unsupported}
use Rattle.jj_trees.specs.TreeMerges.{IsUnresolved, child, values_at, IsOpen}

-- the terms of a conflict and their labels
pub record Conflict : Type 0 where
  pub terms : Values
  pub labels : List (List ℕ)

-- the paths and conflicts of a list of paths, terms and labels
abbrev pub conflict_entries : List (Path × Values × List (List ℕ)) → List (Path × Conflict)
conflict_entries = map (λ c. (c.0, record { terms = c.1; labels = c.2 }))

-- the values that are present are trees
abbrev pub AreTreesOrAbsent : Values → Type 0
AreTreesOrAbsent = All (λ v. IfSome v (λ value. (id : List ℕ) × (value ≡ Tree id)))

-- the entries ascend strictly by path, and are exactly those for which Holds
pub record IsListOf {E : Type 0} (Holds : Path → E → Type 0)
    (entries : List (Path × E)) : Type 0 where
  pub in_order : AllPairs (λ a b. path_cmp a.0 b.0 ≡ Less) entries
  pub exactly : (path : Path) (e : E) → Contains entries (path, e) ↔ Holds path e

module _ (eq : Option TreeValue → Option TreeValue → Bool) (same_change : SameChange) where
  -- the values are merged entry by entry: they do not resolve, and all present ones are trees
  abbrev pub MustRecurse : Values → Type 0
  MustRecurse values = IsUnresolved eq same_change values × AreTreesOrAbsent values

  -- the conflict of values that do not resolve: the simplified terms with their labels
  abbrev pub IsConflictOf : Values → List (List ℕ) → Conflict → Type 0
  IsConflictOf values labels conflict =
      IsUnresolved eq same_change values
      × (conflict.terms ≡ at_indices values (simplified_indices eq values))
      × (conflict.labels ≡ normalized_labels (at_indices labels (simplified_indices eq values)))

  -- the outcome of values at one path without recursion is appended: the value that they resolve
  -- to, nothing if they resolve to absent, or else their conflict
  abbrev pub AppendsOutcome : Values → List (List ℕ) → Path
      → (old_resolved new_resolved : List (Path × TreeValue))
      → (old_conflicts new_conflicts : List (Path × Conflict)) → Type 0
  AppendsOutcome values labels path old_resolved new_resolved old_conflicts new_conflicts =
      (MustRecurse values → ⊥)
      × (((v : TreeValue) × ResolvesTo eq same_change values (Some v)
      × (new_resolved ≡ old_resolved ++ (path, v) ∷ []) × (new_conflicts ≡ old_conflicts))
      ⊎ (ResolvesTo eq same_change values None
      × (new_resolved ≡ old_resolved) × (new_conflicts ≡ old_conflicts))
      ⊎ ((conflict : Conflict) × IsConflictOf values labels conflict
      × (new_resolved ≡ old_resolved) × (new_conflicts ≡ old_conflicts ++ (path, conflict) ∷ [])))

-- `may_read_tree path id result`: reading the tree with this id at this path may return result
module _ (trees : ById Entries)
    (may_read_tree : Path → List ℕ → Result Entries BackendError → Type 0) where
  -- the value is not a tree, or it is a tree that was read at this path
  abbrev pub IsReadAt : Path → Option TreeValue → Type 0
  IsReadAt path (Some (Tree id)) =
      (entries : Entries) × may_read_tree path id (Ok entries) × (trees id ≡ Some entries)
  IsReadAt path None = ⊤
  IsReadAt path (Some (File id executable copy_id)) = ⊤
  IsReadAt path (Some (Symlink id)) = ⊤
  IsReadAt path (Some (GitSubmodule id)) = ⊤

  -- the value is a tree whose read at this path fails with e: the tree is missing, or the backend
  -- fails
  abbrev pub FailsAt : (BackendError → Type 0) → Path → BackendError → Option TreeValue → Type 0
  FailsAt may_fail path e (Some (Tree id)) =
      may_read_tree path id (Err e) × MatchBool (is_not_found e) (trees id ≡ None) (may_fail e)
  FailsAt may_fail path e None = ⊥
  FailsAt may_fail path e (Some (File id executable copy_id)) = ⊥
  FailsAt may_fail path e (Some (Symlink id)) = ⊥
  FailsAt may_fail path e (Some (GitSubmodule id)) = ⊥

module _ (trees : ById (List (Name × TreeValue))) where
  -- the entries of the tree that a value is, empty for a value that is not a tree
  abbrev pub entries_of : Option TreeValue → List (Name × TreeValue)
  entries_of None = []
  entries_of (Some (Tree id)) = unwrap_or (trees id) []
  entries_of (Some (File id executable copy_id)) = []
  entries_of (Some (Symlink id)) = []
  entries_of (Some (GitSubmodule id)) = []

  module _ (eq : Option TreeValue → Option TreeValue → Bool) (same_change : SameChange) where
    -- the path has an outcome: all directories on the path above its end are merged entry by
    -- entry, that of these values among them, and the values at its end are not
    abbrev pub HasOutcomeFrom : Values → Path → Type 0
    HasOutcomeFrom values [] = MustRecurse eq same_change values → ⊥
    HasOutcomeFrom values (name ∷ rest) =
        MustRecurse eq same_change values × HasOutcomeFrom (map (child trees name) values) rest

    -- a nonempty path has an outcome, if the directory of these values is merged
    abbrev pub HasOutcomeBelow : Values → Path → Type 0
    HasOutcomeBelow values [] = ⊥
    HasOutcomeBelow values (name ∷ rest) = HasOutcomeFrom (map (child trees name) values) rest

    -- the path resolves to the value v
    abbrev pub IsResolvedBelow : Values → Path → TreeValue → Type 0
    IsResolvedBelow values path v = HasOutcomeBelow values path
        × ResolvesTo eq same_change (values_at trees values path) (Some v)

    -- the path has this conflict
    abbrev pub IsConflictBelow : Values → List (List ℕ) → Path → Conflict → Type 0
    IsConflictBelow values labels path conflict = HasOutcomeBelow values path
        × IsConflictOf eq same_change (values_at trees values path) labels conflict

    -- the merge of the values: exactly the paths that resolve to a present value, and exactly the
    -- conflicts, each in ascending order of paths
    pub record IsMerge (values : Values) (labels : List (List ℕ))
        (resolved : List (Path × TreeValue))
        (conflicts : List (Path × Conflict)) : Type 0 where
      pub resolves : IsListOf (IsResolvedBelow values) resolved
      pub conflicted : IsListOf (IsConflictBelow values labels) conflicts

    -- the merge of the values of directory dir is appended to the old lists
    pub record IsAppended (values : Values) (labels : List (List ℕ)) (dir : Path)
        (old_resolved new_resolved : List (Path × TreeValue))
        (old_conflicts new_conflicts : List (Path × Conflict)) : Type 0 where
      pub resolved : List (Path × TreeValue)
      pub conflicts : List (Path × Conflict)
      pub merge : IsMerge values labels resolved conflicts
      pub resolved_added : new_resolved ≡ old_resolved ++ map (λ e. (dir ++ e.0, e.1)) resolved
      pub conflicts_added : new_conflicts ≡ old_conflicts ++ map (λ e. (dir ++ e.0, e.1)) conflicts

    module _ (is_read : Path → Option TreeValue → Type 0)
        (fails : Path → BackendError → Option TreeValue → Type 0) where
      -- every directory that is merged, from dir down, is read at its own path, and is at most
      -- levels deep
      pub record IsWithin (dir : Path) (values : Values) (levels : ℕ) : Type 0 where
        pub read : (path : Path) → IsOpen trees eq same_change values path
            → All (is_read (dir ++ path)) (values_at trees values path)
        pub not_deeper : (path : Path) → IsOpen trees eq same_change values path
            → length path < levels

      -- the errors of a merge: out of memory, a failed read of a tree at its own path, or
      -- Unsupported for a directory to merge below the deepest level
      abbrev pub IsDirectoryError : Path → Values → ℕ → BackendError → Type 0
      IsDirectoryError dir values levels e =
          (e ≡ Memory)
          ⊎ ((path : Path) × IsOpen trees eq same_change values path
          × Any (fails (dir ++ path) e) (values_at trees values path))
          ⊎ ((message : String Global) × (path : Path) × (e ≡ Unsupported message)
          × IsOpen trees eq same_change values path × (length path ≡ levels))
