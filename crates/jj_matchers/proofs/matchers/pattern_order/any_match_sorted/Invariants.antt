-- no pattern after the remaining ones matches
use Rattle.std.proofs.Common.{length}
use Rattle.jj_matchers.specs.PatternOrder.{matches_string}
use Rattle.jj_matchers.proofs.LinkedPatterns.{IsCut}
use Rattle.jj_matchers.proofs.matchers.pattern_order.any_match_sorted.Given as goal

abbrev pub invariant-loop-last : goal.invariant-loop-last
invariant-loop-last l = IsCut (λ glob. matches_string l.prefix_paths glob l.text) l.text l.patterns l.left

abbrev pub decreases-loop-last : goal.decreases-loop-last
decreases-loop-last l = length l.left
