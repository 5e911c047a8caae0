-- The hunks that are read back from their rendered form.
-- Cited by contracts of public items: IsMergeOfLines, IsParsable, joined,
-- run_limit.
use Rattle.std.specs.Prelude.{◌≡◌, ℕ, ◌+◌, ◌-◌, ◌*◌, ◌⊎◌, true, List, [], ◌∷◌, ◌++◌, length, nat_lt}
use Rattle.std.specs.List.{list_all, AllByRecursion}
use Rattle.jj_conflicts.specs.Lines.{split_lines, is_terminated, terminated}
use Rattle.jj_conflicts.specs.Markers.{run_length}
use Rattle.jj_conflicts.specs.Parsing.{resolved_hunk}
use Rattle.jj_conflicts.specs.declared.conflicts.ConflictMarkerStyle.{ConflictMarkerStyle}
use Rattle.jj_conflicts.specs.declared.conflicts.ConflictMarkerStyle.TheVariants.{Diff, Snapshot, Git}

-- no line begins with n or more of a marker character
abbrev pub IsUnmarked : ℕ → List ℕ → Type 0
IsUnmarked n text = list_all (λ line. nat_lt (run_length line) n) (split_lines text) ≡ true

abbrev pub IsUnmarkedTerm : ℕ → List ℕ → Type 0
IsUnmarkedTerm n term = IsUnmarked n (terminated term)

-- Conflicts have this number of sides, no line of a hunk is a marker, and resolved content before
-- another hunk ends in LF.
abbrev pub IsParsable : ℕ → ℕ → List (List (List ℕ)) → Type 0
IsParsable n sides [] = Unit {0}
IsParsable n sides ((text ∷ []) ∷ hunks) = IsUnmarked n text
    × ((is_terminated text ≡ true) ⊎ (hunks ≡ [])) × IsParsable n sides hunks
IsParsable n sides (terms ∷ hunks) = (length terms + 1 ≡ 2 * sides)
    × AllByRecursion (IsUnmarkedTerm n) terms × IsParsable n sides hunks

-- Conflicts have this number of sides, and resolved content before another hunk ends in LF.
abbrev pub IsMergeOfLines : ℕ → List (List (List ℕ)) → Type 0
IsMergeOfLines sides [] = Unit {0}
IsMergeOfLines sides ((text ∷ []) ∷ hunks) =
    ((is_terminated text ≡ true) ⊎ (hunks ≡ [])) × IsMergeOfLines sides hunks
IsMergeOfLines sides (terms ∷ hunks) =
    (length terms + 1 ≡ 2 * sides) × IsMergeOfLines sides hunks

-- The lengths below which runs at the start of a line are no markers of length n. In the diff style
-- a line gets a character before it.
abbrev pub run_limit : ConflictMarkerStyle → ℕ → ℕ
run_limit Diff n = n - 1
run_limit Snapshot n = n
run_limit Git n = n

-- the hunks after resolved content, which adjacent resolved hunks are joined to
abbrev pub joined_after : List ℕ → List (List (List ℕ)) → List (List (List ℕ))
joined_after resolved [] = resolved_hunk resolved
joined_after resolved ((text ∷ []) ∷ hunks) = joined_after (resolved ++ text) hunks
joined_after resolved (terms ∷ hunks) = resolved_hunk resolved ++ terms ∷ joined_after [] hunks

-- the hunks with adjacent resolved hunks joined, and without empty ones
abbrev pub joined : List (List (List ℕ)) → List (List (List ℕ))
joined hunks = joined_after [] hunks
