use Rattle.std.proofs.Common.{◌≡◌, take, filter}
use Rattle.jj_diff.specs.Ranges.{starts_with_word}
use Rattle.jj_diff.proofs.diff.ranges.find_word_ranges.Given as goal

abbrev pub invariant-loop-range : goal.invariant-loop-range
invariant-loop-range l = l.ranges.items ≡ filter (starts_with_word l.text) (take l.range-index l.range-items)
