-- The first `common` bytes are equal.
use Rattle.std.proofs.Common.{◌≡◌, ◌≤◌, ◌-◌, length, take}
use Rattle.jj_globs.proofs.glob.trie.common_prefix_len.Given as goal

abbrev pub invariant-loop-common : goal.invariant-loop-common
invariant-loop-common l = record {
  same : take l.common l.a ≡ take l.common l.b;
  within_a : l.common ≤ length l.a;
  within_b : l.common ≤ length l.b;
}

abbrev pub decreases-loop-common : goal.decreases-loop-common
decreases-loop-common l = length l.a - l.common
