-- The paths at which two trees differ, and the directories that a walk of both enters.
-- Cited by contracts of public items: IsEnteredChange.
use Rattle.std.specs.Prelude.{◌≡◌, ◌≢◌, ◌⊎◌, ℕ, Bool, true, List, [], ◌∷◌, ◌++◌, map}
use Rattle.std.specs.Prelude.{Option, Some}
use Rattle.jj_paths.specs.Paths.{Name, Path}
use Rattle.jj_backend.specs.Objects.{ById}
use Rattle.jj_backend.specs.Trees.{Entries}
use Rattle.jj_backend.specs.declared.backend.tree_value.TreeValue.{TreeValue}
use Rattle.jj_backend.specs.declared.backend.tree_value.TreeValue.TheVariants.{Tree}
use Rattle.jj_matchers.specs.VisitSpecs.{VisitSpec}
use Rattle.jj_matchers.specs.Visits.{visit_spec}
use Rattle.jj_matchers.specs.Walk.{is_entered, walk_enters}
use Rattle.jj_matchers.specs.WalkInvariants.{DeterminesWalk}
use Rattle.jj_trees.specs.WrittenTrees.{stored_at}
use Rattle.jj_tree_builder.specs.Changes.{files_at}
use Rattle.jj_tree_files.specs.declared.changes.Change.{Change}
use Rattle.jj_tree_files.specs.declared.changes.ChangedDirectory.{ChangedDirectory}
use Rattle.jj_tree_files.specs.declared.changes.Pair.{Pair}

-- the values at `dir` differ at this path below it, one of the two there is a directory with this
-- tree, and the visits lead from the root to the path
pub record IsEnteredChange (trees : ById Entries) (visits : Path → VisitSpec) (dir : Path)
    (before after : Option TreeValue) (path : Path) (id : List ℕ) : Type 0 where
  pub differ : stored_at trees before path ≢ stored_at trees after path
  pub tree : (stored_at trees before path ≡ Some (Tree id))
      ⊎ (stored_at trees after path ≡ Some (Tree id))
  pub entered : walk_enters visits [] (dir ++ path) ≡ true

-- the two files at a path
abbrev pub Sides : Type 0
Sides = Option TreeValue × Option TreeValue

abbrev pub sides_of : Change → Path × Sides
sides_of change = (change.path, (change.before, change.after))

module _ (trees : ById Entries) (accepts : Path → Bool) (dir : Path)
    (before after : Option TreeValue) where
  -- the values at `dir` have these files at this path below it, which differ, and the path is
  -- accepted
  pub record IsChangeAt (path : Path) (sides : Sides) : Type 0 where
    pub old : sides.0 ≡ files_at trees before path
    pub new : sides.1 ≡ files_at trees after path
    pub differ : sides.0 ≢ sides.1
    pub accepted : accepts (dir ++ path) ≡ true

  -- `IsChangeAt`, without the path of the values
  abbrev pub IsChangeBelow : Path → Sides → Type 0
  IsChangeBelow [] sides = ⊥
  IsChangeBelow (name ∷ path) sides = IsChangeAt (name ∷ path) sides

-- the change at a path, of these values there, is appended if there is one
abbrev pub AppendsChange : ById Entries → (Path → Bool) → Path → Option TreeValue → Option TreeValue
    → List Change → List Change → Type 0
AppendsChange trees accepts path before after old new =
    ((change : Change) × (change.path ≡ path)
    × IsChangeAt trees accepts path before after [] (change.before, change.after)
    × (new ≡ old ++ change ∷ []))
    ⊎ ((new ≡ old) × ((sides : Sides) → IsChangeAt trees accepts path before after [] sides → ⊥))

-- the values differ, and one is a directory
pub record IsChangedPair (pair : Pair) : Type 0 where
  pub differ : pair.before ≢ pair.after
  pub id : List ℕ
  pub tree : (pair.before ≡ Some (Tree id)) ⊎ (pair.after ≡ Some (Tree id))

-- the directory has the values of the pair at this path, and its visit is known and enters it
pub record IsChangedDirectoryOf (accepts opens : Path → Bool) (visits : Path → VisitSpec)
    (path : Path) (pair : Pair) (directory : ChangedDirectory) : Type 0 where
  pub at : directory.path ≡ path
  pub values : directory.pair ≡ pair
  pub changed : IsChangedPair directory.pair
  pub visit : DeterminesWalk accepts opens visits directory.path (visit_spec directory.visit)
  pub entered : is_entered (visit_spec directory.visit) ≡ true
