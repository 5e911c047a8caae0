-- The files and directories that a pruned walk of a list of marks finds.
-- Cited by contracts of public items: WalksMarks.
use Rattle.std.specs.Prelude.{◌≡◌, ◌≢◌, ◌↔◌, Bool, true, List, [], ◌∷◌, ◌++◌, Contains}
use Rattle.jj_paths.specs.Paths.{Name, Path}
use Rattle.jj_matchers.specs.VisitSpecs.{VisitSpec}
use Rattle.jj_matchers.specs.Walk.{AreInOrder, walk_enters}

-- a directory strictly above a mark
abbrev pub IsAboveMark : List Path → Path → Type 0
IsAboveMark marks dir = (name : Name) × (rest : Path) × Contains marks (dir ++ name ∷ rest)

-- exactly the marks below the root that are accepted, and exactly the directories above a mark that
-- the visits lead to, both in path order and each once
pub record WalksMarks (accepts : Path → Bool) (visit : Path → VisitSpec)
    (marks files entered : List Path) : Type 0 where
  pub found : (path : Path) → Contains files path
      ↔ (Contains marks path × (path ≢ []) × (accepts path ≡ true))
  pub opened : (dir : Path) → Contains entered dir
      ↔ (IsAboveMark marks dir × (walk_enters visit [] dir ≡ true))
  pub files_ordered : AreInOrder files
  pub entered_ordered : AreInOrder entered
