-- Loop invariant of `walk_matching`: the stack of unfinished directories, and the files and
-- directories still to be found below them.
-- Machinery of private functions and fields.
use Rattle.std.specs.Prelude.{◌≡◌, ◌⊎◌, ◌+◌, ◌*◌, ℕ, Bool, true, false, List, [], ◌∷◌, ◌++◌, Option, Some, None}
use Rattle.std.specs.Borrow.{Bor}
use Rattle.std.specs.List.{AllByRecursion}
use Rattle.std.specs.FinMap.{is_sorted}
use Rattle.jj_paths.specs.Paths.{Name, Path, name_cmp}
use Rattle.jj_paths.specs.Tree.{Tree, branches_of, branch_count, children}
use Rattle.jj_paths.specs.Nodes.{NodeAt, nodes_under}
use Rattle.jj_matchers.specs.VisitSpecs.{VisitSpec, IsSound, nothing}
use Rattle.jj_matchers.specs.SortedVisits.{sorted_visit_spec}
use Rattle.jj_matchers.specs.Walk.{AreInOrder, paths_where, files_of, entered_by, is_file, is_entered, is_entered_directory, continues_into, walk_enters}
use Rattle.jj_matchers.specs.declared.matchers.tree_walk.Frame.{Frame}
use Rattle.jj_matchers.specs.declared.matchers.sorted_visits.SortedVisit.{SortedVisit}

-- the paths of the nodes strictly below a directory that satisfy a predicate
abbrev pub paths_below : (NodeAt Bool → Bool) → Path → Tree Bool → List Path
paths_below test dir tree = paths_where test (nodes_under dir tree.branches)

-- `known` is a sound visit of the directory, and determines how a walk from the root continues
-- below it
pub record DeterminesWalk (accepts opens : Path → Bool) (visit : Path → VisitSpec) (dir : Path)
    (known : VisitSpec) : Type 0 where
  pub sound : IsSound accepts opens dir known
  pub itself : walk_enters visit [] dir ≡ is_entered known
  pub below : (name : Name) (rest : Path) → walk_enters visit [] (dir ++ name ∷ rest)
      ≡ continues_into known name (walk_enters visit (dir ++ name ∷ []) rest)

-- the path and the visit of a child, or none if no path below it is accepted
abbrev pub IsChildVisit : (Path → Bool) → (Path → Bool) → (Path → VisitSpec) → Path
    → Option (Path × SortedVisit) → Type 0
IsChildVisit accepts opens visit child None = DeterminesWalk accepts opens visit child nothing
IsChildVisit accepts opens visit child (Some found) = (found.0 ≡ child)
    × DeterminesWalk accepts opens visit found.0 (sorted_visit_spec found.1)
    × (is_entered (sorted_visit_spec found.1) ≡ true → opens found.0 ≡ true)

-- the stack frame of a directory that was entered with this visit, before its first child
pub record IsNewFrame (dir : Path) (known : VisitSpec) (tree : Tree Bool)
    (directory : Frame) : Type 0 where
  pub entered : is_entered known ≡ true
  pub path : directory.dir ≡ dir
  pub visit : sorted_visit_spec directory.visit ≡ known
  pub left : directory.left.now ≡ children tree.branches
  pub by_name : is_sorted name_cmp directory.left.now ≡ true

-- the effect of entering a directory on the list of entered directories and on the stack; none if
-- the visit is `nothing`
abbrev pub PushesFrame : Path → VisitSpec → Tree Bool → List Path → List Path → List Frame
    → List Frame → Type 0
PushesFrame dir known tree entered new_entered stack new_stack =
    ((is_entered known ≡ false) × (new_entered ≡ entered) × (new_stack ≡ stack))
    ⊎ ((directory : Frame) × IsNewFrame dir known tree directory
    × (new_entered ≡ entered ++ dir ∷ []) × (new_stack ≡ stack ++ directory ∷ []))

-- the stack frame with these children left
abbrev pub with_left : Frame → Bor (List (Name × Tree Bool)) → Frame
with_left directory left = record { dir = directory.dir; visit = directory.visit; left = left }

-- a valid stack frame
pub record IsValidFrame (accepts opens : Path → Bool) (visit : Path → VisitSpec)
    (directory : Frame) : Type 0 where
  pub goes_on : DeterminesWalk accepts opens visit directory.dir (sorted_visit_spec directory.visit)
  pub by_name : is_sorted name_cmp directory.left.now ≡ true

-- the paths that satisfy a predicate, at and below the children not yet visited: of one stack
-- frame, and of all from the top down
abbrev pub pending_in : (NodeAt Bool → Bool) → Frame → List Path
pending_in test directory = paths_where test
    (nodes_under directory.dir (branches_of directory.left.now))

abbrev pub pending_paths : (NodeAt Bool → Bool) → List Frame → List Path
pending_paths test [] = []
pending_paths test (directory ∷ further) = pending_paths test further ++ pending_in test directory

-- the termination measure: unvisited nodes count twice, and each stack frame once
abbrev pub walk_measure : List Frame → ℕ
walk_measure [] = 0
walk_measure (directory ∷ further) = 1 + 2 * branch_count
    (branches_of directory.left.now) + walk_measure further

-- the paths found so far and those still to be found are all paths, which ascend if those of each
-- stack frame do
pub record CompletesTo (test : NodeAt Bool → Bool) (all found : List Path)
    (stack : List Frame) : Type 0 where
  pub whole : found ++ pending_paths test stack ≡ all
  pub ordered : AllByRecursion (λ directory. AreInOrder (pending_in test directory)) stack
      → AreInOrder all

-- the loop invariant
pub record WalkInvariant (accepts opens : Path → Bool) (visit : Path → VisitSpec) (tree : Tree Bool)
    (files entered : List Path) (stack : List Frame) : Type 0 where
  pub of_files : CompletesTo (is_file accepts) (files_of accepts tree) files stack
  pub of_directories : CompletesTo (is_entered_directory visit)
      (entered_by visit tree) entered stack
  pub under_way : AllByRecursion (IsValidFrame accepts opens visit) stack
  pub only_open : AllByRecursion (λ dir. (dir ≡ []) ⊎ (opens dir ≡ true)) entered
