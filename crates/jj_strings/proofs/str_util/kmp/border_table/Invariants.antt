-- The table of the prefixes so far, of which `len` is the last entry.
use Rattle.std.proofs.Common.{◌≡◌, ◌-◌, length, drop}
use Rattle.jj_strings.specs.CaseFolding.{lowercase}
use Rattle.jj_strings.specs.KmpTable.{IsLongestPrefixAt, AreBorders}
use Rattle.jj_strings.proofs.str_util.kmp.border_table.Given as goal

abbrev pub invariant-loop-at : goal.invariant-loop-at
invariant-loop-at l = record {
  count : length l.borders.items ≡ l.at;
  borders : AreBorders (lowercase l.needle) l.borders.items;
  longest : IsLongestPrefixAt (drop 1 (lowercase l.needle)) (l.at - 1) (lowercase l.needle) l.len;
}
