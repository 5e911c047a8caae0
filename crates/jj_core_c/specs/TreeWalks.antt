-- Results of the call that walks the tree of a batch of files.
-- Cited by contracts of public items: AreTreeWalkArguments, IsTreeWalkCause, WritesWalk.
use Rattle.std.specs.Prelude.{◌≡◌, ◌≢◌, ◌↔◌, ◌⊎◌, ◌<◌, ℕ, List, [], length, Bool, true, false, IsTrue, Any, Contains, ⊤}
use Rattle.std.specs.List.{AllZip}
use Rattle.jj_paths.specs.Paths.{Path, IsBelow}
use Rattle.jj_paths.specs.Tree.{Tree}
use Rattle.jj_matchers.specs.Marks.{IsMarkedTree}
use Rattle.jj_matchers.specs.PathLists.{files_spec, prefix_spec}
use Rattle.jj_matchers.specs.VisitSpecs.{VisitSpec}
use Rattle.jj_matchers.specs.Walk.{entered_by}
use Rattle.jj_core_c.specs.declared.error.Error.{Error}
use Rattle.jj_core_c.specs.declared.error.Error.TheVariants.{Memory, Ends, Length, Path as Path'}
use Rattle.jj_core_c.specs.Buffers.{Writes}
use Rattle.jj_core_c.specs.JoinedPaths.{AreJoinedPaths, ArePaths}
use Rattle.jj_core_c.specs.Pieces.{are_ends}

-- the path is on the list or, with `prefixes`, at or below a path of the list
abbrev pub IsListed : (prefixes : Bool) (listed : List Path) → Path → Type 0
IsListed false listed path = Contains listed path
IsListed true listed path = Any (IsBelow path) listed

-- the visits of directories by the matcher of the list
abbrev pub visits_by : (prefixes : Bool) (listed : List Path) → Path → VisitSpec
visits_by false listed = files_spec listed
visits_by true listed = prefix_spec listed

-- the walk finds exactly the files that are listed, except the root
abbrev pub FindsListed : (prefixes : Bool) (listed files found : List Path) → Type 0
FindsListed prefixes listed files found = (path : Path) → Contains found path
    ↔ (Contains files path × (path ≢ []) × IsListed prefixes listed path)

-- the number is that of the directories of the tree of the files that the walk enters
abbrev pub CountsEntered : (prefixes : Bool) (listed files : List Path) → ℕ → Type 0
CountsEntered prefixes listed files n = (tree : Tree Bool) × IsMarkedTree files tree
    × (n ≡ length (entered_by (visits_by prefixes listed) tree))

-- a flag for each file: whether it is among the paths
abbrev pub AreContained : (paths files : List Path) → List Bool → Type 0
AreContained paths files flags = AllZip (λ file flag. IsTrue flag ↔ Contains paths file) files flags

-- a flag for each file: whether it is listed and not the root
abbrev pub AreFoundFlags : (prefixes : Bool) (listed files : List Path) → List Bool → Type 0
AreFoundFlags prefixes listed files flags =
    AllZip (λ file flag. IsTrue flag ↔ ((file ≢ []) × IsListed prefixes listed file)) files flags

-- the flags of the files are written, and the number is that of the directories entered
abbrev pub WritesWalk : (prefixes : Bool) (listed files : List Path) (old new : List Bool) → ℕ
    → Type 0
WritesWalk prefixes listed files old new n = CountsEntered prefixes listed files n
    × ((flags : List Bool) × AreFoundFlags prefixes listed files flags
    × Writes old new flags (length files))

-- both lists of paths are valid
abbrev pub AreTreeWalkArguments : (listed listed_ends bytes ends : List ℕ) → Type 0
AreTreeWalkArguments listed listed_ends bytes ends = AreJoinedPaths listed listed_ends
    × AreJoinedPaths bytes ends

-- the cause of an error of a walk: the argument that it rejects, or memory ran out
abbrev pub IsTreeWalkCause : (listed listed_ends bytes ends : List ℕ) (room : ℕ) → Error → Type 0
IsTreeWalkCause listed listed_ends bytes ends room Memory = ⊤
IsTreeWalkCause listed listed_ends bytes ends room Ends =
    (are_ends (length listed) listed_ends ≡ false) ⊎ (are_ends (length bytes) ends ≡ false)
IsTreeWalkCause listed listed_ends bytes ends room Length = room < length ends
IsTreeWalkCause listed listed_ends bytes ends room Path' = (¬ (ArePaths listed listed_ends))
    ⊎ (¬ (ArePaths bytes ends))
IsTreeWalkCause listed listed_ends bytes ends room other = ⊥
