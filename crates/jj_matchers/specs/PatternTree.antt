-- The trie of directories with the globs of each.
-- Cited by contracts of public items: patterns_of.
use Rattle.std.specs.Prelude.{◌≡◌, ◌≢◌, Bool, true, false, ◌&&◌, List, [], ◌∷◌, ◌++◌, map, unwrap_or}
use Rattle.std.specs.List.{flat_map, list_any}
use Rattle.jj_paths.specs.Paths.{Path}
use Rattle.jj_paths.specs.Orders.{path_eq}
use Rattle.jj_paths.specs.Tree.{Tree, tree_of, Branches, none, branch, value_at}
use Rattle.jj_paths.specs.Nodes.{all_nodes}
use Rattle.jj_globs.specs.GlobMeaning.{GlobSpec}
use Rattle.jj_matchers.specs.Marks.{LeadsToMarks}

-- the list of globs is not empty
abbrev pub has_globs : List GlobSpec → Bool
has_globs [] = false
has_globs (glob ∷ globs) = true

-- the tree of marked paths in which the directories with globs are marked
abbrev pub marked_branches : Branches (List GlobSpec) → Branches Bool
marked_branches none = none
marked_branches (branch name globs below after) =
    branch name (has_globs globs) (marked_branches below) (marked_branches after)

-- the tree whose marks are the nodes with globs
abbrev pub marks_of : Tree (List GlobSpec) → Tree Bool
marks_of tree = tree_of (has_globs tree.value) (marked_branches tree.branches)

abbrev pub no_node : Tree Bool → Bool
no_node node = false

-- the globs of a directory
abbrev pub globs_at : Tree (List GlobSpec) → Path → List GlobSpec
globs_at tree dir = unwrap_or (value_at tree dir) []

-- the patterns of a directory, and of all directories
abbrev pub patterns_at : Tree (List GlobSpec) → Path → List (Path × GlobSpec)
patterns_at tree dir = map (λ glob. (dir, glob)) (globs_at tree dir)

-- the patterns in the tree: each glob with the path of its node
abbrev pub patterns_of : Tree (List GlobSpec) → List (Path × GlobSpec)
patterns_of tree = flat_map (patterns_at tree) (map (λ found. found.path) (all_nodes tree))

-- every leaf except the root has globs
abbrev pub LeadsToGlobs : Tree (List GlobSpec) → Type 0
LeadsToGlobs tree = LeadsToMarks (marks_of tree)

-- globs are appended in one directory, and no others are changed
pub record AddsGlobs (old : Tree (List GlobSpec)) (dir : Path) (globs : List GlobSpec)
    (new : Tree (List GlobSpec)) : Type 0 where
  pub here : globs_at new dir ≡ globs_at old dir ++ globs
  pub others : (path : Path) → path ≢ dir → globs_at new path ≡ globs_at old path
  pub leads : LeadsToGlobs old → LeadsToGlobs new

-- each directory has the globs of its patterns, in any order: some glob there satisfies a predicate
-- if and only if one of the patterns' globs does
pub record IsPatternTree (patterns : List (Path × GlobSpec))
    (tree : Tree (List GlobSpec)) : Type 0 where
  pub globs : (dir : Path) (test : GlobSpec → Bool) → list_any test (globs_at tree dir)
      ≡ list_any (λ pattern. path_eq dir pattern.0 && test pattern.1) patterns
  pub leads : LeadsToGlobs tree
