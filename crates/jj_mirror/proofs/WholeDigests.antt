-- A digest has 64 bytes, so that a prefix of 64 bytes is all of it.
use Rattle.std.proofs.Common.{◌≡◌, ◌∙◌, ℕ, List, length, take, refl, arith}
use Rattle.std.specs.Int.{w64, to_le_bytes}
use Rattle.std.specs.List.{flat_map}
use Rattle.std.proofs.lemmas.List.{take_all}
use Rattle.std.proofs.lemmas.List.Concat.{length-flat_map}
use Rattle.jj_content.specs.Blake2b.{blake2b, final_state, compress, xor_halves}
use Rattle.jj_trees.specs.MemoryObjects.{digest_length, object_id}

digest_len : (message : List ℕ) → length (blake2b message) ≡ 64
unfolding blake2b final_state compress xor_halves
digest_len message = length-flat_map (λ (word : ℕ). to_le_bytes w64 word) (final_state message)

pub whole_digest : (content : List ℕ) (n : ℕ) → n ≡ digest_length → object_id n content ≡ blake2b content
whole_digest content n is = take_all n (blake2b content) (omega (arith, digest_len content))
