use Rattle.std.proofs.Common.{◌≡◌, ℕ, List, ◌++◌, ◌+◌, ◌*◌, ◌%◌, ◌^◌, ◌≤◌, length, take}
use Rattle.jj_content.specs.Blake2bState.{HasAbsorbed}
use Rattle.jj_content.proofs.HasherInvariant.{IsBlockBoundary}
use Rattle.jj_content.proofs.blake2b.Blake2b512.update.Given as goal

abbrev pub invariant-whole : goal.invariant-whole
invariant-whole l = record {
  total : l.self.total ≡ l.fn.self.total;
  inside : l.room + 128 * l.i ≤ length l.bytes;
  edge : (m : List ℕ) → HasAbsorbed l.fn.self m → (n : ℕ) × IsBlockBoundary l.self.h (m ++ take (l.room + 128 * l.i) l.bytes) n × (l.count ≡ n * 128 % 2 ^ 128);
}
