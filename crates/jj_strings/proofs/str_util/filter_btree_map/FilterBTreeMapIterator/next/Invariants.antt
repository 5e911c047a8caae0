-- The entries so far do not match.
use Rattle.std.proofs.Common.{◌≡◌, List, ◌++◌, ◌≤◌, length, All}
use Rattle.jj_strings.specs.RemainingEntries.{remaining_entries}
use Rattle.jj_strings.specs.StringMatchers.{InMatcher}
use Rattle.jj_strings.specs.Searchers.{searcher_matcher}
use Rattle.jj_strings.proofs.str_util.filter_btree_map.FilterBTreeMapIterator.next.Given as goal

abbrev pub invariant-loop-entry : goal.invariant-loop-entry
invariant-loop-entry g l =
    (searcher_matcher l.self.searcher ≡ searcher_matcher l.fn.self.searcher)
    × ((passed : List (g.row.K.Denot × g.row.V.Denot)) × All (λ e. InMatcher (searcher_matcher l.fn.self.searcher) (g.K.TextKey.key_text e.0) → ⊥) passed
    × (remaining_entries l.fn.self.entries ≡ passed ++ remaining_entries l.self.entries))
    × (length (remaining_entries l.self.entries) ≤ length (remaining_entries l.fn.self.entries))

abbrev pub decreases-loop-entry : goal.decreases-loop-entry
decreases-loop-entry g l = length (remaining_entries l.self.entries)
