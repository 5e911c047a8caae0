-- The members of a set in a list of paths.
-- Cited by contracts of public items: IsSelected, IsFileIn.
use Rattle.std.specs.Prelude.{◌≢◌, List, [], ◌∷◌}
use Rattle.jj_paths.specs.Paths.{Path}
use Rattle.jj_filesets.specs.SyntaxTrees.{SyntaxTree, IsIn}

-- the second list has the members of the set in the first one, in order and as often
pub data IsSelected {X : Type 0} (InSet : X → Type 0) : List X → List X → Type 0 where
  none : IsSelected InSet [] []
  takes : {x : X} {all some : List X} → InSet x → IsSelected InSet all some
      → IsSelected InSet (x ∷ all) (x ∷ some)
  leaves : {x : X} {all some : List X} → (¬ InSet x) → IsSelected InSet all some
      → IsSelected InSet (x ∷ all) some

-- the path is in the set, and is not the root
abbrev pub IsFileIn : SyntaxTree → Path → Type 0
IsFileIn set path = (path ≢ []) × IsIn set path
