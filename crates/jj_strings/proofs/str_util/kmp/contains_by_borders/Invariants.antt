-- `len` is the length of the longest prefix that ends before the byte, and no occurrence ends
-- before it.
use Rattle.std.proofs.Common.{ℕ, ◌+◌, ◌<◌, ◌≤◌, length}
use Rattle.bstr.specs.Find.{OccursAt}
use Rattle.jj_strings.specs.CaseFolding.{lowercase}
use Rattle.jj_strings.specs.KmpTable.{IsLongestPrefixAt}
use Rattle.jj_strings.proofs.str_util.kmp.contains_by_borders.Given as goal

abbrev pub invariant-loop-at : goal.invariant-loop-at
invariant-loop-at l = record {
  shorter : l.len < length l.needle;
  longest : IsLongestPrefixAt (lowercase l.bytes) l.at (lowercase l.needle) l.len;
  none : (k : ℕ) → k + length l.needle ≤ l.at → OccursAt (lowercase l.bytes) (lowercase l.needle) k → ⊥;
}
