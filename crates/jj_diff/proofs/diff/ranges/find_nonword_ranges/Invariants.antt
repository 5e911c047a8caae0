use Rattle.std.proofs.Common.{◌≡◌, take, filter, not}
use Rattle.jj_diff.specs.Ranges.{starts_with_word}
use Rattle.jj_diff.proofs.diff.ranges.find_nonword_ranges.Given as goal

abbrev pub invariant-loop-range : goal.invariant-loop-range
invariant-loop-range l = l.ranges.items ≡ filter (λ range. not (starts_with_word l.text range)) (take l.range-index l.range-items)
