-- the directories from the path down to `dir` are listed
use Rattle.std.proofs.Common.{◌≡◌, [], ◌++◌, length}
use Rattle.jj_paths.specs.Names.{path_of}
use Rattle.jj_paths.specs.Paths.{Path}
use Rattle.jj_matchers.proofs.MarkWalkLists.{IsListing}
use Rattle.jj_matchers.proofs.matchers.mark_walk.list_down.Given as goal

abbrev pub invariant-loop-further : goal.invariant-loop-further
invariant-loop-further l = l.initial.pending.items ≡ [] → (from : Path) → path_of l.initial.path ≡ from ++ path_of l.initial.below
    → IsListing (path_of l.initial.path) from (path_of l.dir) (path_of l.rest) l.pending.items

abbrev pub decreases-loop-further : goal.decreases-loop-further
decreases-loop-further l = length (path_of l.rest)
