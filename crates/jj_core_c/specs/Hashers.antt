-- Hashers that a caller keeps: the hasher that the fields represent, and its digest.
-- Cited by contracts of public items: WritesDigest, hasher_of.
use Rattle.std.specs.Prelude.{◌≡◌, ℕ, zero, suc, ◌+◌, ◌*◌, ◌^◌, List, length, Bool, true, false}
use Rattle.jj_content.specs.Blake2b.{blake2b}
use Rattle.jj_content.specs.Blake2bState.{HasAbsorbed}
use Rattle.jj_content.specs.declared.blake2b.Blake2b512.{Blake2b512}
use Rattle.jj_core_c.specs.declared.hasher.JjHasher.{JjHasher}
use Rattle.jj_core_c.specs.Buffers.{Writes}

-- whether the number is not 0
abbrev pub is_nonzero : ℕ → Bool
is_nonzero zero = false
is_nonzero (suc n) = true

-- the hasher of the library that any fields represent
abbrev pub hasher_of : JjHasher → Blake2b512
hasher_of fields = record {
  h = fields.chaining;
  buffer = fields.buffer;
  total = fields.total_high * 2 ^ 64 + fields.total_low;
  is_full = is_nonzero fields.is_full;
}

-- 64 bytes, which are the digest of every message that the hasher has absorbed
abbrev pub IsDigest : Blake2b512 → List ℕ → Type 0
IsDigest hasher digest = (length digest ≡ 64)
    × ((message : List ℕ) → HasAbsorbed hasher message → digest ≡ blake2b message)

-- the digest of every message that the hasher has absorbed is written to the buffer
abbrev pub WritesDigest : Blake2b512 → (old new : List ℕ) → ℕ → Type 0
WritesDigest hasher old new n = (digest : List ℕ) × IsDigest hasher digest × Writes old new digest n
