-- Hashers as private functions see them.
-- Machinery of private functions and fields.
use Rattle.std.specs.Prelude.{◌≡◌, ℕ, List, ◌++◌, Some}
use Rattle.jj_content.specs.Blake2bState.{HasAbsorbed}
use Rattle.jj_content.specs.declared.blake2b.Blake2b512.{Blake2b512}
use Rattle.jj_program.specs.HashCommand.{bytes_of_hex}

-- the bytes of a hex string are appended to the message
abbrev pub HashesHex : Blake2b512 → Blake2b512 → List ℕ → Type 0
HashesHex old new text = (bytes : List ℕ) × (bytes_of_hex text ≡ Some bytes)
    × ((message : List ℕ) → HasAbsorbed old message → HasAbsorbed new (message ++ bytes))
