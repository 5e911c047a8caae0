-- Laws of walks and of matchers, in terms of lists of paths and of matching globs.
-- Cited by contracts of public items: AcceptsBelow, AcceptsMatches, AcceptsMembers, FindsInOrder,
-- FindsMarks, VisitsToMatches, WalksAsMarks.
use Rattle.std.specs.Prelude.{◌≡◌, ◌≢◌, ◌↔◌, Bool, true, List, [], Any, Contains}
use Rattle.jj_paths.specs.Paths.{Path, IsBelow}
use Rattle.jj_paths.specs.Tree.{Tree}
use Rattle.jj_matchers.specs.Marks.{IsMarkedTree}
use Rattle.jj_matchers.specs.Patterns.{Patterns, IsAccepted, IsSoundForGlobs, is_accepted, patterns_spec}
use Rattle.jj_matchers.specs.VisitSpecs.{VisitSpec}
use Rattle.jj_matchers.specs.Walk.{AreInOrder, entered_by, files_of}
use Rattle.jj_matchers.specs.MarkWalk.{WalksMarks}
use Rattle.jj_matchers.specs.PathLists.{has_prefix, is_listed}

-- a walk finds exactly the marks below the root that are accepted
abbrev pub FindsMarks : Type 0
FindsMarks = (marks : List Path) (tree : Tree Bool) → IsMarkedTree marks tree
    → (accepts : Path → Bool) (path : Path) → Contains (files_of accepts tree) path
    ↔ (Contains marks path × (path ≢ []) × (accepts path ≡ true))

-- a walk finds them in path order, each once
abbrev pub FindsInOrder : Type 0
FindsInOrder = (marks : List Path) (tree : Tree Bool) → IsMarkedTree marks tree
    → (accepts : Path → Bool) → AreInOrder (files_of accepts tree)

-- a walk of the tree of the marks finds what one of their list does
abbrev pub WalksAsMarks : Type 0
WalksAsMarks = (marks : List Path) (tree : Tree Bool) → IsMarkedTree marks tree
    → (accepts : Path → Bool) (visit : Path → VisitSpec)
    → WalksMarks accepts visit marks (files_of accepts tree) (entered_by visit tree)

-- `is_listed` is membership in the list of files
abbrev pub AcceptsMembers : Type 0
AcceptsMembers = (paths : List Path) (path : Path)
    → (is_listed paths path ≡ true) ↔ Contains paths path

-- `has_prefix` accepts exactly the paths at or below a prefix
abbrev pub AcceptsBelow : Type 0
AcceptsBelow = (prefixes : List Path) (path : Path)
    → (has_prefix prefixes path ≡ true) ↔ Any (IsBelow path) prefixes

-- `is_accepted` accepts exactly the paths that `IsAccepted` describes
abbrev pub AcceptsMatches : Type 0
AcceptsMatches = (set : Patterns) (path : Path)
    → (is_accepted set path ≡ true) ↔ IsAccepted set path

-- visits of globs are sound in terms of `IsAccepted`
abbrev pub VisitsToMatches : Type 0
VisitsToMatches = (set : Patterns) (dir : Path) → IsSoundForGlobs set dir (patterns_spec set dir)
