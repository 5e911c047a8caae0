-- The tree that a merge is written as, with one side chosen for the conflicts.
-- Cited by contracts of public items: IsOutcome, side_term.
use Rattle.std.specs.Prelude.{◌≡◌, ◌⊎◌, ℕ, Bool, List, [], Option, Some, None, get_or}
use Rattle.jj_paths.specs.Paths.{Path}
use Rattle.jj_merges.specs.declared.merge.SameChange.{SameChange}
use Rattle.jj_backend.specs.Objects.{ById}
use Rattle.jj_backend.specs.Trees.{Entries}
use Rattle.jj_backend.specs.declared.backend.tree_value.TreeValue.{TreeValue}
use Rattle.jj_trees.specs.TreeMerges.{IsConflict, IsResolved}

-- the term of a side, None if there is no such side
abbrev pub side_term : ℕ → List (Option TreeValue) → Option TreeValue
side_term side terms = get_or terms side None

-- the value to write at a path, None for a conflict whose side is absent: the path resolves to it,
-- or has a conflict with this term
abbrev pub IsOutcome : ById Entries → (Option TreeValue → Option TreeValue → Bool) → SameChange
    → List (Option TreeValue) → ℕ → Path → Option TreeValue → Type 0
IsOutcome trees eq same_change values side path outcome =
    ((value : TreeValue) × IsResolved trees eq same_change values path value
    × (outcome ≡ Some value))
    ⊎ ((terms : List (Option TreeValue)) × (labels : List (List ℕ))
    × IsConflict trees eq same_change values [] path terms labels
    × (outcome ≡ side_term side terms))
