-- Results of the call on file sets.
-- Cited by contracts of public items: IsFilesetCause, WritesMembers.
use Rattle.std.specs.Prelude.{◌≡◌, ◌↔◌, ◌⊎◌, ◌<◌, ℕ, List, length, Bool, false, IsTrue, ⊤}
use Rattle.std.specs.List.{AllZip}
use Rattle.std.specs.Str.{IsUtf8}
use Rattle.jj_paths.specs.Paths as paths
use Rattle.jj_filesets.specs.Expressions.{Spells}
use Rattle.jj_filesets.specs.SyntaxTrees.{SyntaxTree, IsIn}
use Rattle.jj_core_c.specs.declared.error.Error.{Error}
use Rattle.jj_core_c.specs.declared.error.Error.TheVariants.{Memory, Ends, Length, Path, Expression}
use Rattle.jj_core_c.specs.Buffers.{Writes}
use Rattle.jj_core_c.specs.JoinedPaths.{ArePaths}
use Rattle.jj_core_c.specs.Pieces.{are_ends}

-- a flag for each path: whether it is in the set
abbrev pub AreMembers : SyntaxTree → List paths.Path → List Bool → Type 0
AreMembers set tested flags = AllZip (λ path flag. IsTrue flag ↔ IsIn set path) tested flags

-- the flags of the set that the expression means are written
abbrev pub WritesMembers : (expression : List ℕ) → List paths.Path → (old new : List Bool) → ℕ
    → Type 0
WritesMembers expression tested old new n = (set : SyntaxTree) × Spells expression set
    × ((flags : List Bool) × AreMembers set tested flags × Writes old new flags n)

-- the string is not UTF-8, or spells no set
abbrev pub IsNoExpression : List ℕ → Type 0
IsNoExpression expression = (¬ (IsUtf8 expression))
    ⊎ ((set : SyntaxTree) → Spells expression set → ⊥)

abbrev pub IsExpressionCause : List ℕ → Error → Type 0
IsExpressionCause expression Memory = ⊤
IsExpressionCause expression Expression = IsNoExpression expression
IsExpressionCause expression other = ⊥

-- the cause of an error: the argument that it rejects, or memory ran out
abbrev pub IsFilesetCause : (expression bytes ends : List ℕ) (room : ℕ) → Error → Type 0
IsFilesetCause expression bytes ends room Memory = ⊤
IsFilesetCause expression bytes ends room Ends = are_ends (length bytes) ends ≡ false
IsFilesetCause expression bytes ends room Length = room < length ends
IsFilesetCause expression bytes ends room Path = ¬ (ArePaths bytes ends)
IsFilesetCause expression bytes ends room Expression = IsNoExpression expression
IsFilesetCause expression bytes ends room other = ⊥
