-- The files that a walk finds, as a set.
-- Cited by contracts of public items: FindsItsFiles.
use Rattle.std.specs.Prelude.{◌≡◌, ◌≢◌, ◌↔◌, ◌⊎◌, ℕ, List, [], ◌++◌, codes, Contains, Ok, ⊤}
use Rattle.std.specs.List.Sorted.{IsStrictlySortedBy}
use Rattle.jj_paths.specs.Paths.{Path, path_cmp}
use Rattle.jj_matchers.specs.Patterns.{IsAccepted}
use Rattle.jj_program.specs.declared.file_set.Combination.TheVariants.{Union, Difference, Intersection}
use Rattle.jj_program.specs.declared.file_set.matcher.FileSet.{FileSet}
use Rattle.jj_program.specs.declared.file_set.matcher.FileSet.TheVariants.{Everything, Nothing, Files, Prefix, Globs}
use Rattle.jj_program.specs.WalkCommand.{SetTree, one, both, IsWalkResult, path_lines, WalkRequest, walk_request}

-- the path is in a leaf: all paths, none, those of a list, those at or below one of a list, or
-- those whose suffix below a pattern's directory its glob matches
abbrev pub IsNamed : FileSet → Path → Type 0
IsNamed Everything path = ⊤
IsNamed Nothing path = ⊥
IsNamed (Files paths) path = Contains paths path
IsNamed (Prefix paths) path = (base rest : Path) × Contains paths base × (path ≡ base ++ rest)
IsNamed (Globs patterns) path = IsAccepted patterns path

-- the path is in the combined set
abbrev pub IsIn : SetTree FileSet → Path → Type 0
IsIn (one set) path = IsNamed set path
IsIn (both Union first second) path = IsIn first path ⊎ IsIn second path
IsIn (both Difference first second) path = IsIn first path × (¬ IsIn second path)
IsIn (both Intersection first second) path = IsIn first path × IsIn second path

-- exactly the marked paths below the root that are in the set, each once, in path order
pub record AreFound (request : WalkRequest) (found : List Path) : Type 0 where
  pub exact : (path : Path) → Contains found path
      ↔ (Contains request.marks path × (path ≢ []) × IsIn request.set path)
  pub ordered : IsStrictlySortedBy path_cmp found

-- the output of a walk: a line per file, then a line per directory entered
abbrev pub FindsItsFiles : Type 0
FindsItsFiles = (text output : List ℕ) → IsWalkResult text (Ok output) → (request : WalkRequest)
    × (found entered : List Path) × (walk_request text ≡ Ok request) × AreFound request found
    × (output ≡ path_lines (codes "file") found ++ path_lines (codes "enter") entered)
