-- The set contains the bytes of the ranges so far.
use Rattle.std.proofs.Common.{◌≡◌, ◌↔◌, ℕ, length, take}
use Rattle.std.specs.Prelude.{IsTrue}
use Rattle.jj_globs.specs.GlobMeaning.{any_range}
use Rattle.jj_globs.specs.GlobNfa.{HasBit}
use Rattle.jj_globs.proofs.glob.byte_set.insert_ranges.Given as goal

abbrev pub invariant-loop-range : goal.invariant-loop-range
invariant-loop-range l = record {
  live : (b : ℕ) → HasBit l.words b ↔ IsTrue (any_range b (take l.range-index l.ranges));
  room : length l.words ≡ 4;
}
