-- The paths found so far are those among the visited ones that the pattern matches.
use Rattle.std.proofs.Common.{map, take, true, false}
use Rattle.jj_globs.specs.GlobMeaning.{IsMatch}
use Rattle.jj_globs.specs.GlobParsing.{glob_spec}
use Rattle.jj_globs_tests.specs.Selected.{IsSelected}
use Rattle.jj_globs_tests.proofs.callers.selected.Given as goal

abbrev pub invariant-loop-path : goal.invariant-loop-path
invariant-loop-path l =
    IsSelected (IsMatch (glob_spec l.pattern true false))
    (map (λ path. path.now) (take l.path-index l.paths)) (map (λ path. path.now) l.found.items)
