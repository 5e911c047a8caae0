-- The files below one directory. Machinery of private functions.
use Rattle.std.specs.Prelude.{◌≡◌, Bool, true, ◌++◌, Option, Some, None}
use Rattle.jj_paths.specs.Paths.{Path}
use Rattle.jj_backend.specs.Objects.{ById}
use Rattle.jj_backend.specs.Trees.{Entries}
use Rattle.jj_backend.specs.declared.backend.tree_value.TreeValue.{TreeValue}
use Rattle.jj_backend.specs.declared.backend.tree_value.TreeValue.TheVariants.{Tree}
use Rattle.jj_matchers.specs.VisitSpecs.{VisitSpec, nothing}
use Rattle.jj_matchers.specs.Visits.{visit_spec}
use Rattle.jj_matchers.specs.Walk.{is_entered}
use Rattle.jj_matchers.specs.WalkInvariants.{DeterminesWalk}
use Rattle.jj_matchers.specs.declared.matchers.visits.Visit.{Visit}
use Rattle.jj_tree_builder.specs.Changes.{files_at}
use Rattle.jj_tree_files.specs.declared.files.Subdirectory.{Subdirectory}

-- the value at `dir` has this file at this path below it, and the path is accepted
abbrev pub IsFileBelow : ById Entries → (Path → Bool) → Path → Option TreeValue → Path → TreeValue
    → Type 0
IsFileBelow trees accepts dir value path file =
    (files_at trees value path ≡ Some file) × (accepts (dir ++ path) ≡ true)

-- the path and the visit of a child, or none if no path below it is accepted
abbrev pub IsChildVisit : (Path → Bool) → (Path → Bool) → (Path → VisitSpec) → Path
    → Option (Path × Visit) → Type 0
IsChildVisit accepts opens visits child None = DeterminesWalk accepts opens visits child nothing
IsChildVisit accepts opens visits child (Some found) = (found.0 ≡ child)
    × DeterminesWalk accepts opens visits found.0 (visit_spec found.1)

-- the directory is the value at this path, and its visit is known and enters it
pub record IsDirectoryOf (accepts opens : Path → Bool) (visits : Path → VisitSpec) (path : Path)
    (value : TreeValue) (directory : Subdirectory) : Type 0 where
  pub at : directory.path ≡ path
  pub tree : value ≡ Tree directory.id
  pub visit : DeterminesWalk accepts opens visits directory.path (visit_spec directory.visit)
  pub entered : is_entered (visit_spec directory.visit) ≡ true
