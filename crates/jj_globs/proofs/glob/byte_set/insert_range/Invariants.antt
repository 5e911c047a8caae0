-- The set contains the bytes of the range so far.
use Rattle.std.proofs.Common.{◌≡◌, ◌<◌, ◌↔◌, ◌⊎◌, ℕ, length}
use Rattle.std.specs.Prelude.{IsTrue}
use Rattle.jj_globs.specs.GlobMeaning.{in_range}
use Rattle.jj_globs.specs.GlobNfa.{HasBit}
use Rattle.jj_globs.proofs.glob.byte_set.insert_range.Given as goal

abbrev pub invariant-loop-byte : goal.invariant-loop-byte
invariant-loop-byte l = record {
  live : (b : ℕ) → HasBit l.words b ↔ (HasBit l.fn.words b ⊎ ((b < l.byte) × IsTrue (in_range b l.fn.range)));
  room : length l.words ≡ 4;
}
