-- The lines so far do not match.
use Rattle.std.proofs.Common.{◌≡◌, ℕ, List, ◌++◌, ◌≤◌, length, All}
use Rattle.jj_strings.specs.Lines.{lines, without_line_feed}
use Rattle.jj_strings.specs.StringMatchers.{InMatcher}
use Rattle.jj_strings.specs.Searchers.{searcher_matcher}
use Rattle.jj_strings.proofs.str_util.match_lines.MatchLinesIterator.next.Given as goal

abbrev pub invariant-loop-line : goal.invariant-loop-line
invariant-loop-line g l =
    (searcher_matcher l.self.searcher ≡ searcher_matcher l.fn.self.searcher)
    × ((passed : List (List ℕ)) × All (λ x. InMatcher (searcher_matcher l.fn.self.searcher) (without_line_feed x) → ⊥) passed × (lines l.fn.self.rest.now ≡ passed ++ lines l.self.rest.now))
    × (length l.self.rest.now ≤ length l.fn.self.rest.now)

abbrev pub decreases-loop-line : goal.decreases-loop-line
decreases-loop-line g l = length l.self.rest.now
