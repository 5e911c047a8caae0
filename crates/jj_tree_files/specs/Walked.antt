-- The entries that a walk of one directory appends to a list. Machinery of private functions.
use Rattle.std.specs.Prelude.{◌≡◌, List, ◌++◌, map}
use Rattle.jj_paths.specs.Paths.{Path}
use Rattle.jj_trees.specs.DirectoryMerges.{IsListOf}

-- exactly the entries for which Holds are appended, in order of their paths, each after the path of
-- the directory; each path has property IsRead
pub record IsWalked {E : Type 0} (Holds : Path → E → Type 0) (IsRead : Path → Type 0) (dir : Path)
    (old new : List (Path × E)) : Type 0 where
  pub entries : List (Path × E)
  pub exactly : IsListOf Holds entries
  pub added : new ≡ old ++ map (λ e. (dir ++ e.0, e.1)) entries
  pub read : (path : Path) → IsRead path
