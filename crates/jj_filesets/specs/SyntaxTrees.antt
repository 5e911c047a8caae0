-- Syntax trees of expressions, and the set of paths that a tree means.
-- Cited by contracts of public items: IsIn, SyntaxTree.
use Rattle.std.specs.Prelude.{◌⊎◌}
use Rattle.jj_paths.specs.Paths.{Path}
use Rattle.jj_filesets.specs.declared.fileset.pattern.FilePattern.{FilePattern}
use Rattle.jj_filesets.specs.Patterns.{Matches}

-- an expression as a tree of operators over patterns
pub data SyntaxTree : Type 0 where
  pattern : FilePattern → SyntaxTree
  complement : SyntaxTree → SyntaxTree
  intersection : SyntaxTree → SyntaxTree → SyntaxTree
  difference : SyntaxTree → SyntaxTree → SyntaxTree
  union : SyntaxTree → SyntaxTree → SyntaxTree

-- the path is in the set that the tree means
abbrev pub IsIn : SyntaxTree → Path → Type 0
IsIn (pattern leaf) path = Matches leaf path
IsIn (complement set) path = ¬ IsIn set path
IsIn (intersection first second) path = IsIn first path × IsIn second path
IsIn (difference first second) path = IsIn first path × (¬ IsIn second path)
IsIn (union first second) path = IsIn first path ⊎ IsIn second path
