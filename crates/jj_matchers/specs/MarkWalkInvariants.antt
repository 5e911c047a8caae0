-- Loop invariant of `walk_marks`: the files and directories of the marks so far, and the stack of
-- the directories above the last one.
-- Machinery of private functions and fields.
use Rattle.std.specs.Prelude.{◌≡◌, ◌≢◌, ◌↔◌, ◌⊎◌, ◌+◌, ◌-◌, ◌<◌, ◌≤◌, ℕ, Bool, true, false, List, [], ◌∷◌, ◌++◌, All, Contains, length, get_or, take}
use Rattle.std.specs.declared.cmp.Ordering.TheVariants.{Less}
use Rattle.std.specs.List.{filter}
use Rattle.jj_paths.specs.Names.{name_of, path_of}
use Rattle.jj_paths.specs.Paths.{Name, Path, IsBelow, path_cmp}
use Rattle.jj_paths.specs.declared.repo_path.RepoPath.{RepoPath}
use Rattle.jj_paths.specs.declared.repo_path.RepoPathComponent.{RepoPathComponent}
use Rattle.jj_matchers.specs.VisitSpecs.{VisitSpec, IsSound, nothing}
use Rattle.jj_matchers.specs.SortedVisits.{sorted_visit_spec}
use Rattle.jj_matchers.specs.Walk.{AreInOrder, walk_enters}
use Rattle.jj_matchers.specs.MarkWalk.{IsAboveMark}
use Rattle.jj_matchers.specs.WalkInvariants.{DeterminesWalk}
use Rattle.jj_matchers.specs.declared.matchers.mark_walk.OpenDirectory.{OpenDirectory}

-- below the root and accepted
abbrev pub is_found : (Path → Bool) → Path → Bool
is_found accepts [] = false
is_found accepts (name ∷ rest) = accepts (name ∷ rest)

abbrev pub dir_of : OpenDirectory → Path
dir_of directory = path_of directory.dir

-- the last open directory
abbrev pub top : List OpenDirectory → OpenDirectory → OpenDirectory
top stack directory = get_or stack (length stack - 1) directory

-- the visit of the last open directory is `nothing`
abbrev pub IsClosed : List OpenDirectory → Type 0
IsClosed stack = (0 < length stack)
    × ((d : OpenDirectory) → sorted_visit_spec (top stack d).visit ≡ nothing)

abbrev pub IsValidOpen : (Path → Bool) → (Path → Bool) → (Path → VisitSpec) → OpenDirectory → Type 0
IsValidOpen accepts opens visit directory =
    DeterminesWalk accepts opens visit (dir_of directory) (sorted_visit_spec directory.visit)

-- one of the directories above a path that are open
abbrev pub IsOpenAt : List OpenDirectory → Path → Path → Type 0
IsOpenAt stack path dir = (i : ℕ) × (i < length stack) × (dir ≡ take i path)

-- the first directories above a path are open; the directories above the marks so far and the open
-- ones are entered if the walk enters them
pub record IsOpenTo (accepts opens : Path → Bool) (visit : Path → VisitSpec) (done : List Path)
    (path : Path) (entered : List Path) (stack : List OpenDirectory) : Type 0 where
  pub chain : (i : ℕ) (d : OpenDirectory) → i < length stack
      → dir_of (get_or stack i d) ≡ take i path
  pub valid : All (IsValidOpen accepts opens visit) stack
  pub within : length stack ≤ length path
  pub ascending : AreInOrder entered
  pub are : (dir : Path) → Contains entered dir ↔ ((walk_enters visit [] dir ≡ true)
      × (IsAboveMark done dir ⊎ IsOpenAt stack path dir))

-- the directories above a path that are not yet open follow all that are entered, unless no more
-- are opened
abbrev pub IsFresh : Path → List Path → List OpenDirectory → Type 0
IsFresh path entered stack = IsClosed stack ⊎ ((j : ℕ) → length stack ≤ j → j < length path
    → (dir : Path) → Contains entered dir → path_cmp dir (take j path) ≡ Less)

-- all directories above a path are open, or no more are opened
abbrev pub IsFull : Path → List OpenDirectory → Type 0
IsFull path stack = (length stack ≡ length path) ⊎ IsClosed stack

pub record IsOnWay (accepts opens : Path → Bool) (visit : Path → VisitSpec) (done : List Path)
    (path : Path) (entered : List Path) (stack : List OpenDirectory) : Type 0 where
  pub to : IsOpenTo accepts opens visit done path entered stack
  pub fresh : IsFresh path entered stack

-- the state after the marks so far
pub record WalkedMarks (accepts opens : Path → Bool) (visit : Path → VisitSpec) (done : List Path)
    (files entered : List Path) (stack : List OpenDirectory) : Type 0 where
  pub last : Path
  pub from : (last ≡ []) ⊎ Contains done last
  pub greatest : (mark : Path) → Contains done mark
      → (mark ≡ last) ⊎ (path_cmp mark last ≡ Less)
  pub found : files ≡ filter (is_found accepts) done
  pub to : IsOpenTo accepts opens visit done last entered stack
  pub full : IsFull last stack

-- the last open directory, if any, is at or above a path
abbrev pub IsAtOrAbove : Path → List OpenDirectory → Type 0
IsAtOrAbove path stack = (length stack ≡ 0)
    ⊎ ((d : OpenDirectory) → IsBelow path (dir_of (top stack d)))

-- the directory above a path with this many names, and its last name
pub record IsNextDirectory (path : Path) (count : ℕ) (dir : Path) (name : Name) : Type 0 where
  pub below : count < length path
  pub is : dir ≡ take count path
  pub ends : dir ≡ take (count - 1) path ++ name ∷ []

-- the open directories up to the last one at or above a path
pub record IsCutTo (path : Path) (old new : List OpenDirectory) : Type 0 where
  pub is : new ≡ take (length new) old
  pub within : length new ≤ length old
  pub cut : (length new ≡ length old)
      ⊎ ((d : OpenDirectory) (rest : Path) → path ≢ dir_of (get_or old (length new) d) ++ rest)
  pub above : IsAtOrAbove path new

-- the directories at and above a path with more than `from` names, each with its last name, the
-- deepest first
pub record IsListedDown (path : Path) (from : ℕ)
    (pending : List (RepoPath × RepoPathComponent)) : Type 0 where
  pub count : length pending + from ≡ length path
  pub each : (i : ℕ) (d : RepoPath × RepoPathComponent) → i < length pending
      → (path_of (get_or pending i d).0 ≡ take (length path - i) path)
      × (take (length path - i) path
      ≡ take (length path - i - 1) path ++ name_of (get_or pending i d).1 ∷ [])

-- whether a file is accepted follows from the visit of the last open directory
abbrev pub DecidesFile : (Path → Bool) → (Path → Bool) → Path → Name → OpenDirectory → Type 0
DecidesFile accepts opens mark name directory =
    ((sorted_visit_spec directory.visit ≡ nothing) × (accepts mark ≡ false))
    ⊎ (IsSound accepts opens (dir_of directory) (sorted_visit_spec directory.visit)
    × (mark ≡ dir_of directory ++ name ∷ []))
