-- A prefix of length `prefix` is the longest candidate that the byte may extend.
use Rattle.std.proofs.Common.{ℕ, ◌≤◌, List}
use Rattle.jj_strings.specs.CaseFolding.{lowercase}
use Rattle.jj_strings.specs.KmpTable.{IsLongestPrefixAt}
use Rattle.jj_strings.proofs.KmpSearch.{MayGoOn}
use Rattle.jj_strings.proofs.str_util.kmp.next_prefix_len.Given as goal

abbrev pub invariant-loop-len : goal.invariant-loop-len
invariant-loop-len l = record {
  shorter : l.prefix ≤ l.len;
  goes_on : (bytes : List ℕ) (at : ℕ) → IsLongestPrefixAt bytes at (lowercase l.needle) l.len
      → MayGoOn bytes (lowercase l.needle) at l.byte l.prefix;
}

abbrev pub decreases-loop-len : goal.decreases-loop-len
decreases-loop-len l = l.prefix
