-- The message is the bytes of the digits before the rest.
use Rattle.std.proofs.Common.{◌≡◌, ℕ, List, length}
use Rattle.jj_content.specs.Blake2bState.{HasAbsorbed}
use Rattle.jj_program.specs.HashCommand.{bytes_of_hex}
use Rattle.jj_program.proofs.HexBytes.{after_bytes}
use Rattle.jj_program.proofs.hash_command.raw_digest.Given as goal

abbrev pub invariant-loop-rest : goal.invariant-loop-rest
invariant-loop-rest l = (message : List ℕ) × HasAbsorbed l.hasher message × (bytes_of_hex l.text ≡ after_bytes message (bytes_of_hex l.rest))

abbrev pub decreases-loop-rest : goal.decreases-loop-rest
decreases-loop-rest l = length l.rest
