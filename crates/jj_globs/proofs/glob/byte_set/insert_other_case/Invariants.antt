-- The set contains the bytes below this one that it contained in either case.
use Rattle.std.proofs.Common.{◌≡◌, ◌<◌, ◌↔◌, ◌⊎◌, ℕ, length}
use Rattle.jj_globs.specs.GlobMeaning.{lower, upper}
use Rattle.jj_globs.specs.GlobNfa.{HasBit}
use Rattle.jj_globs.proofs.glob.byte_set.insert_other_case.Given as goal

abbrev pub invariant-loop-byte : goal.invariant-loop-byte
invariant-loop-byte l = record {
  live : (b : ℕ) → HasBit l.words b
      ↔ (HasBit l.fn.words b ⊎ ((b < l.byte) × (HasBit l.found.words (lower b) ⊎ HasBit l.found.words (upper b))));
  room : length l.words ≡ 4;
}
