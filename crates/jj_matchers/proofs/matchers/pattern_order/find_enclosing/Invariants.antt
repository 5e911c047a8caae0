-- no pattern after the remaining ones encloses this one
use Rattle.std.proofs.Common.{◌≡◌, true, length, ◌++◌, ◌∷◌, []}
use Rattle.jj_globs.specs.GlobPrefix.{glob_prefix}
use Rattle.jj_matchers.specs.PatternOrder.{is_sorted_by_prefix}
use Rattle.jj_matchers.specs.LinkedPatterns.{AreLinked, encloses, globs_of}
use Rattle.jj_matchers.proofs.LinkedPatterns.{IsCut}
use Rattle.jj_matchers.proofs.matchers.pattern_order.find_enclosing.Given as goal

abbrev pub invariant-loop-last : goal.invariant-loop-last
invariant-loop-last l = is_sorted_by_prefix (globs_of l.patterns ++ l.pattern ∷ []) ≡ true → AreLinked l.patterns
    → IsCut (encloses (glob_prefix l.pattern)) (glob_prefix l.pattern) l.patterns l.left

abbrev pub decreases-loop-last : goal.decreases-loop-last
decreases-loop-last l = length l.left
