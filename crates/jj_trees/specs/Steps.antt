-- The outcomes of the values at one path.
-- Machinery of private functions and fields.
use Rattle.std.specs.Prelude.{Bool, Option, Some, None}
use Rattle.jj_merges.specs.declared.merge.SameChange.{SameChange}
use Rattle.jj_merges.specs.Resolution.{ResolvesTo}
use Rattle.jj_backend.specs.MergedTreeValues.{Values}
use Rattle.jj_backend.specs.declared.backend.tree_value.TreeValue.{TreeValue}
use Rattle.jj_trees.specs.declared.tree_merge.Step.{Step}
use Rattle.jj_trees.specs.declared.tree_merge.Step.TheVariants.{Resolved, Absent, Recurse, Conflict}
use Rattle.jj_trees.specs.TreeMerges.{IsUnresolved}
use Rattle.jj_trees.specs.DirectoryMerges.{AreTreesOrAbsent, MustRecurse}

-- the step is the outcome of the values
abbrev pub IsStep : (Option TreeValue → Option TreeValue → Bool) → SameChange → Values → Step
    → Type 0
IsStep eq same_change values (Resolved v) = ResolvesTo eq same_change values (Some v.now)
IsStep eq same_change values Absent = ResolvesTo eq same_change values None
IsStep eq same_change values Recurse = MustRecurse eq same_change values
IsStep eq same_change values Conflict =
    IsUnresolved eq same_change values × (AreTreesOrAbsent values → ⊥)
