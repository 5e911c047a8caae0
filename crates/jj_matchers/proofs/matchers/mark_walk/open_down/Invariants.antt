-- the pending directories are the next to be opened, unless no more are opened
use Rattle.std.proofs.Common.{◌≡◌, ◌<◌, List, [], ◌∷◌, ◌++◌, map, length}
use Rattle.jj_paths.specs.Names.{path_of}
use Rattle.jj_paths.specs.Paths.{Name, Path}
use Rattle.jj_matchers.specs.MarkWalkInvariants.{IsAtOrAbove, IsOnWay}
use Rattle.jj_matchers.proofs.MarkWalkLists.{IsOpening}
use Rattle.jj_matchers.proofs.matchers.mark_walk.open_down.Given as goal

abbrev pub invariant-loop-dir : goal.invariant-loop-dir
invariant-loop-dir g l = record {
  files : l.walk.files.items ≡ l.initial.walk.files.items;
  opening : (done : List Path) (name : Name) → 0 < length l.initial.stack.items → IsAtOrAbove (path_of l.path) l.initial.stack.items
      → IsOnWay (g.M.Matcher.accepts l.matcher) (g.M.Matcher.opens l.matcher) (g.M.Matcher.visits l.matcher) done (path_of l.path ++ name ∷ []) (map path_of l.initial.walk.entered.items) l.initial.stack.items
      → IsOpening (g.M.Matcher.accepts l.matcher) (g.M.Matcher.opens l.matcher) (g.M.Matcher.visits l.matcher) done (path_of l.path) name (map path_of l.walk.entered.items) l.stack.items l.pending.items;
}

abbrev pub decreases-loop-dir : goal.decreases-loop-dir
decreases-loop-dir g l = length l.pending.items
